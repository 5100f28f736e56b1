pub mod Growing
pub mod Answering
pub mod Concluding
