pub mod Allowed
pub mod Calls
pub mod Eval
pub mod Laws
pub mod Like
pub mod Operators
pub mod Pieces
pub mod Show
