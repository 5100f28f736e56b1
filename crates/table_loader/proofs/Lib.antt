mod Answers
mod Attributes
mod Cuts
mod Entries
mod FromRows
mod Loading
mod Ordered
mod RowSteps
mod Uids
pub mod Stores
mod Written
pub mod SameLookups
mod Ordering
pub mod PartialParents
pub mod PartialStores
