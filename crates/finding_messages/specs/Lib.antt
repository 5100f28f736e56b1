pub mod Findings
pub mod Written
