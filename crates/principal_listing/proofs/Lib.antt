mod Keeping
mod Listed
mod Pages
mod Ready
mod Refusals
pub mod Unmet
