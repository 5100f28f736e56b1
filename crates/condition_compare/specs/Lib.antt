pub mod Sorts
pub mod Worlds
pub mod Outlines
pub mod Decisions
