pub mod AllWritten
mod AtLevel
pub mod Empty
mod Entries
pub mod KnownNames
pub mod NoErrors
pub mod OwnConditions
pub mod TypedConditions
pub mod LevelErrors
pub mod LevelsSound
pub mod Checks
mod Shallow
mod Exact
mod Left
mod Contexts
mod Found
mod Kept
mod LookupSteps
