pub mod Ascending
pub mod Entries
pub mod FromParents
pub mod Linked
pub mod Request
pub mod Store
