-- Steps of the test of membership.
use Rattle.std.proofs.Common.{◌≡◌, ℕ, ◌<◌, ◌≤◌, List, [], ◌∷◌, length, get_or, Bool, true, false, Option, Some, cond, is_some, ap, ◌∙◌, refl, arith, ◌||◌}
use Rattle.std.specs.BTreeMap.{is_at}
use Rattle.std.specs.Map.{lookup}
use Rattle.policy_values.specs.Uid.{text_cmp}
use Rattle.type_relations.specs.Member.{has_field}
use Rattle.policy_values.specs.Value.{Val, size_of, size_of_all, vals_of, fields_of}
use Rattle.policy_values.proofs.Sizes.{size_of-get_or}
use Rattle.plain_lemmas.proofs.Options.{is_some_cond}

pub lookup_field : (es : List (List ℕ × Val)) (k : List ℕ) → is_some (lookup (is_at (text_cmp k)) es) ≡ has_field (fields_of es) k
lookup_field [] k = refl
lookup_field (e ∷ es) k = is_some_cond (is_at (text_cmp k) e.0) e.1 (lookup (is_at (text_cmp k)) es) ∙ ap (λ b. is_at (text_cmp k) e.0 || b) (lookup_field es k)

pub size_in : (xs ys : List Val) (i : ℕ) (x : Val) → x ≡ get_or xs i x → xs ≡ ys → i < length xs → size_of x ≤ size_of_all (vals_of ys)
size_in xs ys i x e p h = omega (arith, ap size_of e, size_of-get_or xs i x h, ap (λ zs. size_of_all (vals_of zs)) p)
