pub mod Condition
pub mod Data
pub mod Links
pub mod PolicySet
pub mod Allowed
pub mod Response
pub mod Removal
