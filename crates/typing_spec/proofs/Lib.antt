pub mod HoldSteps
pub mod PartSteps
mod GivenSteps
mod PlaceSteps
mod Basics
pub mod Booleans
mod Fields
mod Kept
mod Operators
mod Ids
mod Stored
mod Access
mod KeptTypes
mod Lists
mod Calls
mod Within
mod Decides
pub mod Notes
mod SameKnown
mod Complete
mod Tests
pub mod Soundness
pub mod Condition
mod Examples
pub mod ByName
pub mod OneText
pub mod Table
pub mod Words
