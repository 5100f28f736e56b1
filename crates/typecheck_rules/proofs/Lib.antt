mod Agree
mod Below
mod Branches
mod WalkedCalls
mod Examples
mod Checks
mod Each
mod Exact
mod Failing
mod Failure
mod Found
mod KnownNames
mod Lists
mod Parts
mod Refusals
mod Sides
mod Steps
mod Reported
mod True
mod Truths
mod AttributeSteps
pub mod Apart
pub mod CallSteps
pub mod TagSteps
