pub mod State
pub mod Steps
pub mod Document
pub mod Memory
pub mod Answering
pub mod Lines
