pub mod Arguments
pub mod BinaryLaws
mod Nothing
pub mod PartLaws
pub mod PartSteps
