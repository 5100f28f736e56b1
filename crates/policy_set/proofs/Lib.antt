pub mod Depths
pub mod Each
pub mod Linked
mod Plain
mod Sets
mod Written
pub mod Removal
