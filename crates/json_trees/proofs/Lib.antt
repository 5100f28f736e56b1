mod Said
mod Found
pub mod Named
pub mod Ordered
mod Taken
pub mod Views
mod Weight
