mod Outcomes
mod Quiet
mod Parts
mod Steps
mod Noted
mod Said
pub mod Truth
pub mod Outlined
