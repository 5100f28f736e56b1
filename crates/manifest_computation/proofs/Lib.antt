pub mod Additions
pub mod Ascending
pub mod Covering
mod Alike
pub mod Entries
pub mod Environments
mod Holding
mod Memory
pub mod RequestTries
pub mod Same
mod Settled
mod Splits
mod Typed
