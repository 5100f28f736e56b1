pub mod DeclaredPaths
pub mod Sticking
pub mod Computed
pub mod Loaded
pub use Rattle.manifest_computation.specs.Accepted
pub use Rattle.manifest_computation.specs.Computed as OfPolicies
pub use Rattle.manifest_computation.specs.Rules
pub mod Answers
pub mod BatchLaws
pub mod Lines
pub mod BatchLoaded
