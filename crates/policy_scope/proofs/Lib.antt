pub mod Made
mod MetSteps
pub mod Once
