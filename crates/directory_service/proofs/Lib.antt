pub mod EndedRuns
mod Attempted
mod Served
mod Written
