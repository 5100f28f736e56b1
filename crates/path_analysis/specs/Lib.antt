pub mod Analysis
pub mod Covers
pub mod Parts
pub mod PathOrder
pub mod PathView
pub mod ShapeCode
pub mod ShapeFalls
pub mod ShapeView
