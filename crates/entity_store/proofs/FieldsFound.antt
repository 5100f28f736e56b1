-- What a map of values has under a key.
use Rattle.std.proofs.Common.{◌≡◌, ℕ, ◌↔◌, cond, List, [], ◌∷◌, length, Some, refl, ap, arith}
use Rattle.std.specs.Ordering.{is_eq}
use Rattle.std.specs.Map.{lookup}
use Rattle.std.specs.BTreeMap.{is_at}
use Rattle.policy_values.specs.Uid.{text_cmp}
use Rattle.policy_values.specs.Value.{Val, no_fields, fields_of, field_at}

pub field_found : (k : List ℕ) (es : List (List ℕ × Val)) → lookup (is_at (text_cmp k)) es ≡ field_at (fields_of es) k
field_found k [] = refl
field_found k (e ∷ es) = ap (cond (is_eq (text_cmp k e.0)) (Some e.1)) (field_found k es)

pub none_from_length : (es : List (List ℕ × Val)) → (length es ≡ 0) ↔ (fields_of es ≡ no_fields)
none_from_length [] = (λ _. refl, λ _. refl)
none_from_length (e ∷ es) = (λ h. absurd (omega arith), λ h. absurd (cc))
