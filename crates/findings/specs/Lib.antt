pub mod Access
pub mod Errors
pub mod Finding
pub mod Mentioned
pub mod NonEmpty
pub mod Seen
pub mod Texts
