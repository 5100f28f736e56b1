pub mod Lists
pub mod Nesting
pub mod Forms
pub mod Parts
pub mod Reads
pub mod Exprs
