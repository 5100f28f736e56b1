-- Types below types below a type are below it.
use Rattle.std.proofs.Common.{◌≡◌, ℕ, true, false, List, Option, Some, None, is_some, refl}
use Rattle.std.specs.Option.{option_map_or}
use Rattle.policy_values.specs.Reaches.{has, last, more}
use Rattle.policy_values.specs.Uid.{text_cmp}
use Rattle.policy_values.specs.declared.entity_uid.EntityUID.{EntityUID}
use Rattle.schema_core.specs.Schema.{TypeData, SchemaData, type_at, type_below}
use Rattle.typing_spec.specs.Conforms.{is_listed}
use Rattle.conformance.specs.Links.{LinksAreEnough}
use Rattle.conformance.specs.RequestRules.{unless}
use Rattle.conformance.specs.StoreRules.{ancestor_fault}
use Rattle.conformance.specs.declared.store_rule.StoreRule.TheVariants.{AncestorNotAllowed, AncestorNotListed}
use Rattle.conformance.proofs.Options.{none_first, none_rest, neither, kept, keeps}

module _ (schema : SchemaData) where
  below : (t : List ℕ) (y : EntityUID) → ancestor_fault schema t y ≡ None → type_below schema t y.entity_type ≡ true
  below t y h = kept (type_below schema t y.entity_type) (AncestorNotAllowed y) (none_first (unless (type_below schema t y.entity_type) (AncestorNotAllowed y)) _ h)

  listed : (t : List ℕ) (y : EntityUID) → ancestor_fault schema t y ≡ None → is_listed schema y ≡ true
  listed t y h = kept (is_listed schema y) (AncestorNotListed y) (none_rest (unless (type_below schema t y.entity_type) (AncestorNotAllowed y)) _ h)

  -- a type that stands above another is declared
  declared : (t above : List ℕ) → type_below schema t above ≡ true → is_some (type_at schema above) ≡ true
  declared t above h = here (type_at schema above) h
    where
      here : (o : Option TypeData) → option_map_or (λ d. has text_cmp d.descendants t) o false ≡ true → is_some o ≡ true
      here None h = h
      here (Some d) h = refl

pub enough : LinksAreEnough
enough schema valid es allowed x y no_action (last h) = allowed x y no_action h
enough schema valid es allowed x y no_action (more {y = z} h r) =
    let first = below schema x.entity_type z (allowed x z no_action h) in
    let rest = enough schema valid es allowed z y (valid.names.types z.entity_type (declared schema x.entity_type z.entity_type first)) r in
    neither (unless (type_below schema x.entity_type y.entity_type) (AncestorNotAllowed y)) (unless (is_listed schema y) (AncestorNotListed y))
    (keeps (type_below schema x.entity_type y.entity_type) (AncestorNotAllowed y)
    (valid.closed.types y.entity_type z.entity_type x.entity_type (below schema z.entity_type y rest) first))
    (keeps (is_listed schema y) (AncestorNotListed y) (listed schema z.entity_type y rest))
