pub mod Laws
pub mod Parts
pub mod Places
pub mod Reading
pub mod TrieJson
