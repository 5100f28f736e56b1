mod Back
mod BehindColons
mod Closed
pub mod Keyed
mod Known
pub mod Least
mod LeastOutside
pub mod Reaches
pub mod Repeated
pub mod SameSorted
mod Search
mod Seen
mod Subset
mod Turns
pub mod NamePrefix
pub mod HashSteps
pub mod MapSteps
mod Sorted
pub mod ReadSteps
mod SetSteps
pub mod Sizes
mod ValueSteps
