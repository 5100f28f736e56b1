pub mod Adding
pub mod Calls
pub mod Edits
pub mod Faults
pub mod Kept
pub mod Laws
pub mod Tries
pub mod Unions
