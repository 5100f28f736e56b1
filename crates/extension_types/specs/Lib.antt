pub use Rattle.typing_spec.specs.Arguments
pub use Rattle.typing_spec.specs.ByName
pub use Rattle.typing_spec.specs.Refused
pub use Rattle.typing_spec.specs.Signatures
pub use Rattle.typing_spec.specs.Table
pub use Rattle.typing_spec.specs.Types
