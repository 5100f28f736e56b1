pub mod Circuits
pub mod Known
pub mod TwoSided
