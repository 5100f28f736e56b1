pub mod Entities
pub mod Fetched
pub mod Loader
pub mod Made
pub mod Order
pub mod Rows
pub mod Table
pub mod Written
