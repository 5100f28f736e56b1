-- Types and actions as a schema has them, from maps.
use Rattle.std.specs.Prelude.{ℕ, List, []}
use Rattle.std.specs.Option.{option_map_or}
use Rattle.std.specs.BTreeSet.{BTreeSet}
use Rattle.std.specs.declared.cmp.Ordering.{Ordering}
use Rattle.policy_values.specs.declared.entity_uid.EntityUID.{EntityUID}
use Rattle.policy_values.specs.Uid.{text_cmp, uid_cmp}
use Rattle.policy_values.specs.Reaches.{at}
use Rattle.schema_types.specs.Ty.{Attrs}
use Rattle.schema_core.specs.Schema.{TypeData, ActionData}
use Rattle.schema_core.specs.KindView.{kind_of}
use Rattle.schema_core.specs.declared.kind.ValidatorEntityTypeKind.{ValidatorEntityTypeKind}

-- the keys of the set at the name
abbrev pub keys_found : {A K : Type 0} → (A → A → Ordering) → List (A × BTreeSet K) → A → List K
keys_found cmp sets u = option_map_or (λ s. s.keys) (at cmp sets u) []

-- a type with what it is, and its set
abbrev pub arranged_type : List (List ℕ × BTreeSet (List ℕ)) → List ℕ × ValidatorEntityTypeKind → TypeData
arranged_type types e = record { name = e.0; descendants = keys_found text_cmp types e.0; kind = kind_of e.1 }

-- an action with its context, and its sets
abbrev pub arranged_action : List (EntityUID × BTreeSet EntityUID) → List (EntityUID × BTreeSet (List ℕ)) →
    List (EntityUID × BTreeSet (List ℕ)) → EntityUID × Attrs → ActionData
arranged_action actions principals resources e = record {
  name = e.0;
  principals = keys_found uid_cmp principals e.0;
  resources = keys_found uid_cmp resources e.0;
  descendants = keys_found uid_cmp actions e.0;
  context = e.1;
}
