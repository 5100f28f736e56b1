pub mod AllChecks
mod Lists
mod MetActions
pub mod Reported
mod Same
mod Verdicts
pub mod NoteSteps
pub mod Types
