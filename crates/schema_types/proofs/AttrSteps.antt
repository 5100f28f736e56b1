-- Look-ups in maps of attributes.
use Rattle.std.proofs.Common.{◌≡◌, ℕ, List, [], ◌∷◌, Some, cond, ap, refl}
use Rattle.std.specs.BTreeMap.{is_at}
use Rattle.std.specs.Map.{lookup, keys_of}
use Rattle.policy_values.specs.Uid.{text_cmp}
use Rattle.schema_types.specs.Ty.{keys_in}
use Rattle.schema_types.specs.TyView.{attrs_of}
use Rattle.schema_types.specs.Attrs.{attr_at}
use Rattle.schema_types.specs.declared.ty.AttributeType.{AttributeType}

pub lookup_attr : (es : List (List ℕ × AttributeType)) (k : List ℕ) → lookup (is_at (text_cmp k)) es ≡ attr_at (attrs_of es) k
lookup_attr [] k = refl
lookup_attr (e ∷ es) k = ap (cond (is_at (text_cmp k) e.0) (Some e.1)) (lookup_attr es k)

pub keys_of_attrs : (es : List (List ℕ × AttributeType)) → keys_of es ≡ keys_in (attrs_of es)
keys_of_attrs [] = refl
keys_of_attrs (e ∷ es) = ap (λ ks. e.0 ∷ ks) (keys_of_attrs es)
