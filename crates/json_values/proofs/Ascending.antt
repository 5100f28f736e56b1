-- The members of an object ascend, so that fields are read in the order of their keys.
use Rattle.std.proofs.Common.{◌≡◌, ℕ, List, [], ◌∷◌, ◌++◌, map, Option, Some, option_map, Global, String, string_bytes, string_cmp, append_assoc, ap, subst, sym, ◌∙◌}
use Rattle.std.specs.declared.cmp.Ordering.TheVariants.{Less}
use Rattle.std.specs.List.{AllByRecursion}
use Rattle.std.specs.List.Sorted.{IsStrictlySortedBy}
use Rattle.std.specs.Map.{keys_of}
use Rattle.policy_values.specs.Uid.{text_cmp}
use Rattle.policy_values.specs.Maps.{IsNext}
use Rattle.policy_values.proofs.MapSteps.{next-seam, keys_of-append}
use Rattle.json_values.specs.Lists.{with_field}
use Rattle.json_values.proofs.Steps.{one_more}

below_bytes : (k : String Global) (ks : List (String Global)) → AllByRecursion (λ l. string_cmp k l ≡ Less) ks → AllByRecursion (λ t. text_cmp (string_bytes k) t ≡ Less) (map string_bytes ks)
below_bytes k [] h = tt
below_bytes k (l ∷ ks) h = (h.0, below_bytes k ks h.1)

sorted_bytes : (ks : List (String Global)) → IsStrictlySortedBy string_cmp ks → IsStrictlySortedBy text_cmp (map string_bytes ks)
unfolding IsStrictlySortedBy
sorted_bytes [] h = tt
sorted_bytes (k ∷ ks) h = (below_bytes k ks h.0, sorted_bytes ks h.1)

-- behind the keys that were read, the next one is greater
pub next_key : (ks : List (String Global)) (done : List (List ℕ)) (k : String Global) (rest : List (String Global))
    → IsStrictlySortedBy string_cmp ks → map string_bytes ks ≡ done ++ map string_bytes (k ∷ rest) → IsNext (string_bytes k) done
next_key ks done k rest sorted e = next-seam done (string_bytes k) (map string_bytes rest) (subst (IsStrictlySortedBy text_cmp) e (sorted_bytes ks sorted))

-- one more field at the end of those that were read
pub field_more : {X : Type 0} (done new : List (List ℕ × X)) (k : List ℕ) (v : X) (o : Option X) (os whole : Option (List (List ℕ × X)))
    → new ≡ done ++ (k, v) ∷ [] → o ≡ Some v → option_map (λ ys. done ++ ys) (with_field k o os) ≡ whole → option_map (λ ys. new ++ ys) os ≡ whole
field_more done new k v o os whole is read all =
    ap (λ xs. option_map (λ ys. xs ++ ys) os) is
    ∙ sym (one_more done (k, v) os)
    ∙ ap (λ r. option_map (λ ys. done ++ ys) (with_field k r os)) (sym read)
    ∙ all

-- its key too
pub keys_more : {X : Type 0} (whole : List (List ℕ)) (done new : List (List ℕ × X)) (k : List ℕ) (v : X) (rest : List (List ℕ))
    → new ≡ done ++ (k, v) ∷ [] → whole ≡ keys_of done ++ k ∷ rest → whole ≡ keys_of new ++ rest
keys_more whole done new k v rest is all =
    all
    ∙ sym (append_assoc (keys_of done) (k ∷ []) rest)
    ∙ ap (λ xs. xs ++ rest) (sym (ap keys_of is ∙ keys_of-append done ((k, v) ∷ [])))
