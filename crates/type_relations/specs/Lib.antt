pub mod Attributes
pub mod Consistent
pub mod Join
pub mod JoinSteps
pub mod Laws
pub mod Member
pub mod Subtype
