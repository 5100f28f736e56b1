pub mod Adding
pub mod Right
