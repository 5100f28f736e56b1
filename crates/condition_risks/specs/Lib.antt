pub mod Sides
pub mod Risks
pub mod Expected
pub mod Listed
pub mod Examples
