pub mod Branches
pub mod Sides
pub mod Answer
pub mod Asked
pub mod Known
