pub mod CutSteps
mod AnswerSteps
pub mod Steps
