-- Steps of loops over maps under texts.
use Rattle.std.proofs.Common.{◌≡◌, ℕ, List, [], ◌∷◌, ◌++◌, ap, ◌∙◌, refl}
use Rattle.std.specs.declared.cmp.Ordering.TheVariants.{Less, Greater}
use Rattle.std.specs.Ordering.{ordering_reverse}
use Rattle.std.specs.BTreeMap.{insert_entry}
use Rattle.std.specs.List.{AllByRecursion}
use Rattle.std.specs.List.Sorted.{IsStrictlySortedBy}
use Rattle.std.specs.Map.{keys_of}
use Rattle.std.proofs.lemmas.Cmp.{nat_list_cmp_total}
use Rattle.policy_values.specs.Uid.{text_cmp}
use Rattle.policy_values.specs.Maps.{IsNext}

pub insert_entry-next : {X : Type 0} → (es : List (List ℕ × X)) (k : List ℕ) (v : X) → IsNext k (keys_of es) → insert_entry text_cmp es k v ≡ es ++ (k, v) ∷ []
insert_entry-next [] k v h = refl
insert_entry-next (e ∷ es) k v h = rw (h.0) (ap (λ r. e ∷ r) (insert_entry-next es k v h.1))

below-seam : (x : List ℕ) (ks : List (List ℕ)) (k : List ℕ) (rest : List (List ℕ)) → AllByRecursion (λ y. text_cmp x y ≡ Less) (ks ++ k ∷ rest) → text_cmp k x ≡ Greater
below-seam x [] k rest h = nat_list_cmp_total.antisymm k x ∙ ap ordering_reverse h.0
below-seam x (d ∷ ks) k rest h = below-seam x ks k rest h.1

-- in a list in order, a key is greater than those before it
pub next-seam : (ks : List (List ℕ)) (k : List ℕ) (rest : List (List ℕ)) → IsStrictlySortedBy text_cmp (ks ++ k ∷ rest) → IsNext k ks
unfolding IsStrictlySortedBy
next-seam [] k rest h = tt
next-seam (d ∷ ks) k rest h = (below-seam d ks k rest h.0, next-seam ks k rest h.1)

pub keys_of-append : {X : Type 0} → (es fs : List (List ℕ × X)) → keys_of (es ++ fs) ≡ keys_of es ++ keys_of fs
keys_of-append [] fs = refl
keys_of-append (e ∷ es) fs = ap (λ ks. e.0 ∷ ks) (keys_of-append es fs)
