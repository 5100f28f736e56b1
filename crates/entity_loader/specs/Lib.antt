pub mod State
pub mod Asked
pub mod Answers
pub mod Memory
pub mod Kept
pub mod Merged
