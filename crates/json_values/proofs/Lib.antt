pub mod Ascending
mod Bytes
pub mod NameTest
mod Steps
