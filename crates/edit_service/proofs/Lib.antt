mod OneReading
pub mod Answered
pub mod Read
pub mod Compared
pub mod ForbidLines
