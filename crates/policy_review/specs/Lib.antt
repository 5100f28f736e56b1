pub mod Matrix
pub mod Levels
pub mod Laws
pub mod Refused
pub mod Found
