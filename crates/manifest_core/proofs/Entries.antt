-- Entries of manifests, one by one.
use Rattle.std.proofs.Common.{◌≡◌, List, [], ◌∷◌, ◌++◌, ap, ◌∙◌, refl}
use Rattle.std.specs.declared.cmp.Ordering.TheVariants.{Less, Greater}
use Rattle.std.specs.Ordering.{ordering_reverse}
use Rattle.std.specs.BTreeMap.{insert_entry}
use Rattle.std.specs.List.{AllByRecursion}
use Rattle.std.specs.List.Sorted.{IsStrictlySortedBy}
use Rattle.std.specs.Map.{keys_of}
use Rattle.std.specs.Cmp.{IsTotalOrder, on_total, then_total}
use Rattle.std.specs.Cmp.Lexicographic.{nat_list_cmp_total}
use Rattle.entity_store.specs.declared.request.RequestType.{RequestType}
use Rattle.entity_store.specs.Request.{request_type_cmp}
use Rattle.manifest_core.specs.Manifest.{IsNextType}

request_types_total : IsTotalOrder request_type_cmp
request_types_total =
    then_total (on_total (λ t. t.action) (then_total (on_total (λ u. u.entity_type) nat_list_cmp_total) (on_total (λ u. u.eid) nat_list_cmp_total)))
    (then_total (on_total (λ t. t.principal) nat_list_cmp_total) (on_total (λ t. t.resource) nat_list_cmp_total))

-- what is put behind all others stands last
pub put_next : {X : Type 0} → (es : List (RequestType × X)) (k : RequestType) (v : X) → IsNextType k (keys_of es) → insert_entry request_type_cmp es k v ≡ es ++ (k, v) ∷ []
put_next [] k v h = refl
put_next (e ∷ es) k v h = rw (h.0) (ap (λ r. e ∷ r) (put_next es k v h.1))

below_seam : (x : RequestType) (ks : List RequestType) (k : RequestType) (rest : List RequestType) → AllByRecursion (λ y. request_type_cmp x y ≡ Less) (ks ++ k ∷ rest) → request_type_cmp k x ≡ Greater
below_seam x [] k rest h = request_types_total.antisymm k x ∙ ap ordering_reverse h.0
below_seam x (d ∷ ks) k rest h = below_seam x ks k rest h.1

-- in a list in order, a request type is greater than those before it
pub next_seam : (ks : List RequestType) (k : RequestType) (rest : List RequestType) → IsStrictlySortedBy request_type_cmp (ks ++ k ∷ rest) → IsNextType k ks
unfolding IsStrictlySortedBy
next_seam [] k rest h = tt
next_seam (d ∷ ks) k rest h = (below_seam d ks k rest h.0, next_seam ks k rest h.1)

pub keys_append : {X : Type 0} → (es fs : List (RequestType × X)) → keys_of (es ++ fs) ≡ keys_of es ++ keys_of fs
keys_append [] fs = refl
keys_append (e ∷ es) fs = ap (λ ks. e.0 ∷ ks) (keys_append es fs)
