mod EntrySteps
mod EvalSteps
mod IdSteps
pub mod LawSteps
mod LikeSteps
mod PieceSteps
