pub mod Never
mod Impossible
pub mod Least
pub mod Raising
pub mod Checks
pub mod Placing
pub mod Steps
