-- The tags of entities of one type.
use Rattle.std.proofs.Common.{◌≡◌, ℕ, List, [], ◌∷◌, refl}
use Rattle.std.specs.Option.{option_and_then}
use Rattle.schema_types.specs.Names.{only_name}
use Rattle.schema_types.specs.Ty.{entity}
use Rattle.schema_core.specs.Schema.{SchemaData}
use Rattle.typing_spec.specs.Environment.{declared_tags}
use Rattle.typing_spec.specs.Rules.{tag_type}
use Rattle.typecheck_rules.proofs.TagSteps.{tags_of_one}
