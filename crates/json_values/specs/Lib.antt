pub mod Json
pub mod Names
pub mod Lists
pub mod Values
