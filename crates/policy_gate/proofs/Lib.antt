mod Answers
mod Lines
mod Listings
mod Lives
pub mod Runs
mod Manifests
mod Says
mod Results
mod Reviews
