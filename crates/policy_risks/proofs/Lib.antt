pub mod Closed
pub mod Typed
