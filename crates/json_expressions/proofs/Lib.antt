pub mod Bounds
mod Elements
pub mod Steps
