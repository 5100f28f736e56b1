mod Added
mod AllRows
mod Equals
mod Floats
mod Honest
pub mod InOrder
pub mod Known
mod Lookups
mod Made
mod Placed
mod Reached
mod Right
mod Shuffled
mod SortedEntities
mod SortedJson
mod SortedValues
mod Stores
