pub mod Laws
pub mod Schema
pub mod Types
