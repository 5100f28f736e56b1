pub mod Allowed
pub mod CheckSteps
pub mod Laws
pub mod Pages
pub mod Ready
pub mod Refused
pub mod Scopes
