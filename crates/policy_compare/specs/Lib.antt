pub mod ActionTest
pub mod Compared
pub mod Conditions
pub mod Edits
pub mod Laws
