-- What findings on names are made of: the name and its place.
use Rattle.std.proofs.Common.{◌≡◌, ℕ, List, [], Option, Some, None, refl}
use Rattle.std.specs.Prelude.{option_map}
use Rattle.std.specs.Option.{option_map_or}
use Rattle.std.specs.Borrow.{Bor}
use Rattle.policy_expressions.specs.declared.kinds.Loc.{Loc}
use Rattle.policy_values.specs.declared.entity_uid.EntityUID.{EntityUID}
use Rattle.schema_core.specs.Schema.{SchemaData}
use Rattle.findings.specs.declared.rules.UnrecognizedEntityType.{UnrecognizedEntityType}
use Rattle.findings.specs.declared.rules.UnrecognizedActionId.{UnrecognizedActionId}
use Rattle.findings.specs.declared.rules.InvalidEnumEntity.{InvalidEnumEntity}
use Rattle.findings.specs.Mentioned.{an_id}
use Rattle.policy_scope.specs.Names.{loc_cmp, entity_type_cmp, action_id_cmp, enum_cmp, action_id_hint, choices_without, enum_finding}
use Rattle.policy_scope.proofs.Once.{order}
use Rattle.policy_values.specs.Uid.{uid_cmp_total}
use Rattle.std.specs.Cmp.{IsTotalOrder, on_total, then_total, nat_cmp_total}
use Rattle.std.specs.Cmp.Lexicographic.{nat_list_cmp_total, options_total}

abbrev pub type_made : List ℕ → Bor (List ℕ) × Option Loc → UnrecognizedEntityType
type_made policy k = record { source_loc = k.1; policy_id = policy; actual_entity_type = k.0.now }

abbrev pub action_made : SchemaData → List ℕ → Bor EntityUID × Option Loc → UnrecognizedActionId
action_made schema policy k = record { source_loc = k.1; policy_id = policy; actual_action_id = k.0.now; hint = action_id_hint schema k.0.now }

-- where the id's type lists it, no finding is made, and any list does
abbrev pub enum_made : SchemaData → List ℕ → Bor EntityUID × Option Loc → InvalidEnumEntity
enum_made schema policy k = record { source_loc = k.1; policy_id = policy; err = record { uid = k.0.now; choices = option_map_or (λ choices. choices) (choices_without schema k.0.now) [] } }

loc_total : IsTotalOrder loc_cmp
loc_total = then_total (on_total (λ l. l.start) nat_cmp_total) (on_total (λ l. l.end) nat_cmp_total)

-- findings are in a total order of what they are made of
pub type_made_total : (policy : List ℕ) → IsTotalOrder (order entity_type_cmp (type_made policy))
type_made_total policy = then_total (on_total (λ k. k.0.now) nat_list_cmp_total) (on_total (λ k. k.1) (options_total loc_total))

pub action_made_total : (schema : SchemaData) (policy : List ℕ) → IsTotalOrder (order action_id_cmp (action_made schema policy))
action_made_total schema policy = then_total (on_total (λ k. k.0.now) uid_cmp_total) (on_total (λ k. k.1) (options_total loc_total))

pub enum_made_total : (schema : SchemaData) (policy : List ℕ) → IsTotalOrder (order enum_cmp (enum_made schema policy))
enum_made_total schema policy = then_total (on_total (λ k. k.0.now) uid_cmp_total) (on_total (λ k. k.1) (options_total loc_total))

-- what is found of an id that its type does not list
pub enum_found : (schema : SchemaData) (policy : List ℕ) (k : Bor EntityUID × Option Loc) (choices : List (List ℕ)) → choices_without schema k.0.now ≡ Some choices → enum_finding schema policy (an_id k.0.now, k.1) ≡ Some (enum_made schema policy k)
enum_found schema policy k choices h = by (choices_without schema k.0.now) h where
  by : (o : Option (List (List ℕ))) → o ≡ Some choices →
      option_map (λ cs. let e : InvalidEnumEntity = record { source_loc = k.1; policy_id = policy; err = record { uid = k.0.now; choices = cs } } in e) o ≡ Some (record { source_loc = k.1; policy_id = policy; err = record { uid = k.0.now; choices = option_map_or (λ cs. cs) o [] } })
  by (Some cs) e = refl
  by None e = cc
