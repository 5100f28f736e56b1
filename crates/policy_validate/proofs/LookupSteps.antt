-- Look-ups in maps of schema attributes.
use Rattle.std.proofs.Common.{◌≡◌, ℕ, List, [], ◌∷◌, Bool, true, false, refl}
use Rattle.std.specs.BTreeMap.{is_at}
use Rattle.std.specs.Map.{lookup}
use Rattle.std.specs.Option.{option_map}
use Rattle.policy_values.specs.Uid.{text_cmp}
use Rattle.schema_types.specs.SchemaView.{schema_attrs_of}
use Rattle.policy_validate.specs.Descriptions.{attr_type_at}
use Rattle.schema_types.specs.declared.schema_type.SchemaAttribute.{SchemaAttribute}

at_prefix : (b : Bool) (e : List ℕ × SchemaAttribute) (es : List (List ℕ × SchemaAttribute)) (k : List ℕ) → is_at (text_cmp k) e.0 ≡ b →
    option_map (λ a. a.attr_type) (lookup (is_at (text_cmp k)) es) ≡ attr_type_at (schema_attrs_of es) k →
    option_map (λ a. a.attr_type) (lookup (is_at (text_cmp k)) (e ∷ es)) ≡ attr_type_at (schema_attrs_of (e ∷ es)) k
at_prefix true e es k h p = simp h
at_prefix false e es k h p = simp h p

pub type_of_lookup : (es : List (List ℕ × SchemaAttribute)) (k : List ℕ) → option_map (λ a. a.attr_type) (lookup (is_at (text_cmp k)) es) ≡ attr_type_at (schema_attrs_of es) k
type_of_lookup [] k = refl
type_of_lookup (e ∷ es) k = at_prefix (is_at (text_cmp k) e.0) e es k refl (type_of_lookup es k)
