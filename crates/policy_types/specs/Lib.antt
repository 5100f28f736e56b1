pub use Rattle.typing_spec.specs.Capability
pub use Rattle.typing_spec.specs.Holds
pub use Rattle.type_relations.specs.Attributes
pub use Rattle.type_relations.specs.Consistent
pub use Rattle.type_relations.specs.Join
pub use Rattle.type_relations.specs.Laws
pub use Rattle.type_relations.specs.Member
pub use Rattle.type_relations.specs.Subtype
