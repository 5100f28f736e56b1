pub mod Formulas
pub mod Truth
pub mod Outlines
pub mod Outlined
