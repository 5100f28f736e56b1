mod Added
pub mod OneReading
mod Actions
mod Bounds
mod Depths
