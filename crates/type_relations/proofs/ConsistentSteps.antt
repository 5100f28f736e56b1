-- Look-ups in maps of schema attributes.
use Rattle.std.proofs.Common.{◌≡◌, ℕ, List, [], ◌∷◌, Bool, true, false, Option, Some, is_some, cond, refl}
use Rattle.std.specs.BTreeMap.{is_at}
use Rattle.std.specs.Map.{lookup}
use Rattle.policy_values.specs.Uid.{text_cmp}
use Rattle.schema_types.specs.SchemaView.{schema_attrs_of}
use Rattle.schema_types.specs.Attrs.{attr_at}
use Rattle.schema_types.specs.declared.schema_type.SchemaAttribute.{SchemaAttribute}

either : {A B : Type 0} (b : Bool) (x : A) (y : B) (o : Option A) (p : Option B) → is_some o ≡ is_some p → is_some (cond b (Some x) o) ≡ is_some (cond b (Some y) p)
either true x y o p h = refl
either false x y o p h = h

pub lookup_schema_attr : (es : List (List ℕ × SchemaAttribute)) (k : List ℕ) → is_some (lookup (is_at (text_cmp k)) es) ≡ is_some (attr_at (schema_attrs_of es) k)
lookup_schema_attr [] k = refl
lookup_schema_attr (e ∷ es) k = either (is_at (text_cmp k) e.0) e.1 (record { attr_type = e.1.attr_type; is_required = e.1.is_required }) (lookup (is_at (text_cmp k)) es) (attr_at (schema_attrs_of es) k) (lookup_schema_attr es k)
