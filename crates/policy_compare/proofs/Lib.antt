pub mod ActionTest
pub mod Decided
pub mod Compared
pub mod Owned
pub mod Typed
