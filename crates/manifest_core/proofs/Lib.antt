pub mod Entries
mod Filling
pub mod Floats
mod Items
mod Keeping
mod Saying
mod TagSteps
mod TypedAgain
