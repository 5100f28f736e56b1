pub mod FieldsFound
mod Linking
pub mod OneStore
mod Placed
mod Stored
