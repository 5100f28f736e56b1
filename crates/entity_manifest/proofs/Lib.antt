mod Below
mod Shapes
mod Conditions
mod Having
mod Sticking
mod Conforming
mod There
pub mod Manifests
mod HonestLoading
pub mod ByManifest
pub mod Loaded
pub mod OfStore
mod Answered
mod ByRows
mod OneAfterAnother
mod KnownText
mod OneManifest
