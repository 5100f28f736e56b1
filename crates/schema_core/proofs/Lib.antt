mod Actions
mod Entries
pub mod Filled
mod Firsts
mod InListing
mod Kept
pub mod Lists
mod Lowest
mod Mapped
mod Members
mod Rules
pub mod SameKeys
mod Shown
pub mod Found
mod Held
pub mod OneSchema
mod Queries
