mod Fields
mod Depths
mod Branches
mod Once
mod Exact
mod Growing
mod Hopping
mod Among
