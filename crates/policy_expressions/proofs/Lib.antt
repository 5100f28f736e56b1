mod AroundSteps
mod FillSteps
mod KeySteps
mod ShapeSteps
mod SlotSteps
pub mod TreeSteps
