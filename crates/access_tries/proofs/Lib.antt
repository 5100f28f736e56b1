mod Addresses
mod Alike
mod Behind
pub mod Branching
mod Prefixes
mod Groups
mod Listing
pub mod Making
pub mod Merging
mod SameTries
mod Searching
mod Tails
mod UnionLaws
pub mod Unions
mod With
