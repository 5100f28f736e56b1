pub mod Literals
pub mod Met
pub mod Names
pub mod PlainScope
pub mod Scope
