pub mod Booleans
pub mod Lists
pub mod Options
pub mod Orderings
