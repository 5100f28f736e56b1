pub mod ApartSteps
pub mod ConsistentSteps
pub mod GreaterLaws
pub mod JoinLaws
pub mod JoinSteps
pub mod MemberLaws
pub mod MemberSteps
pub mod MergeSteps
pub mod Pending
pub mod PermissiveLaws
pub mod SubtypeLaws
pub mod Ties
pub mod UnionLaws
mod Examples
