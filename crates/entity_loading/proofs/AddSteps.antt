-- Steps of adding ancestors.
use Rattle.std.proofs.Common.{◌≡◌, Bool, true, false, cond, List, [], ◌∷◌, ◌++◌, map, subst, append_assoc, Some, refl, sym, ap, ◌∙◌}
use Rattle.std.specs.BTreeMap.{BTreeMap, get}
use Rattle.std.specs.List.{AllByRecursion}
use Rattle.std.specs.List.Sorted.{IsStrictlySortedBy}
use Rattle.std.specs.Map.{keys_of}
use Rattle.std.specs.Option.{option_map}
use Rattle.std.specs.declared.cmp.Ordering.TheVariants.{Less}
use Rattle.policy_values.specs.declared.entity_uid.EntityUID.{EntityUID}
use Rattle.policy_values.specs.Uid.{uid_cmp, uid_eq}
use Rattle.entity_store.specs.Store.{StoredEntity}
use Rattle.reads_spec.proofs.Lists.{same_uid}
use Rattle.entity_loader.specs.declared.loader.AncestorsRequest.{AncestorsRequest}
use Rattle.entity_loading.specs.declared.borrowed.Borrowed.{Borrowed}
use Rattle.entity_loading.specs.Answering.{AreUnderIds}
use Rattle.entity_store.specs.FromParents.{without_links}
use Rattle.entity_loading.specs.KeptPart.{AreAlike}

-- an entity is put under its id
pub under_put : (old new : BTreeMap EntityUID StoredEntity) (u : EntityUID) (e : StoredEntity) → AreUnderIds old → ((x : EntityUID) → get uid_cmp new x ≡ cond (uid_eq u x) (Some e) (get uid_cmp old x)) → e.uid ≡ u → AreUnderIds new
under_put old new u e ids put is x d h = by (uid_eq u x) refl
  where
    by : (b : Bool) → uid_eq u x ≡ b → d.uid ≡ x
    by true f = let same : Some e ≡ Some d = sym (put x ∙ ap (λ c. cond c (Some e) (get uid_cmp old x)) f) ∙ h in let eq : e ≡ d = cc in ap (λ z. z.uid) (sym eq) ∙ is ∙ same_uid u x f
    by false f = ids x d (sym (put x ∙ ap (λ c. cond c (Some e) (get uid_cmp old x)) f) ∙ h)

-- ---- ids that ascend

all_dropped : {X : Type 0} (P : X → Type 0) (xs : List X) (k : X) (ys : List X) → AllByRecursion P (xs ++ k ∷ ys) → AllByRecursion P (xs ++ ys)
all_dropped P [] k ys h = h.1
all_dropped P (x ∷ xs) k ys h = (h.0, all_dropped P xs k ys h.1)

sorted_without : (xs : List EntityUID) (k : EntityUID) (ys : List EntityUID) → IsStrictlySortedBy uid_cmp (xs ++ k ∷ ys) → IsStrictlySortedBy uid_cmp (xs ++ ys)
unfolding IsStrictlySortedBy
sorted_without [] k ys h = h.1
sorted_without (x ∷ xs) k ys h = (all_dropped (λ y. uid_cmp x y ≡ Less) xs k ys h.0, sorted_without xs k ys h.1)

abbrev pub ids_of : List AncestorsRequest → List EntityUID
ids_of rs = map (λ r. r.entity_id) rs

ids_pushed : (rs : List AncestorsRequest) (r : AncestorsRequest) → ids_of (rs ++ r ∷ []) ≡ ids_of rs ++ r.entity_id ∷ []
ids_pushed [] r = refl
ids_pushed (x ∷ rs) r = ap (λ us. x.entity_id ∷ us) (ids_pushed rs r)

-- the ids of the requests, and those that are left
pub id_skipped : (rs : List AncestorsRequest) (rest more : List (EntityUID × Borrowed)) (e : EntityUID × Borrowed) → rest ≡ e ∷ more → IsStrictlySortedBy uid_cmp (ids_of rs ++ keys_of rest) → IsStrictlySortedBy uid_cmp (ids_of rs ++ keys_of more)
id_skipped rs rest more e s h = sorted_without (ids_of rs) e.0 (keys_of more) (subst (λ es. IsStrictlySortedBy uid_cmp (ids_of rs ++ keys_of es)) s h)

pub id_taken : (rs now : List AncestorsRequest) (rest more : List (EntityUID × Borrowed)) (e : EntityUID × Borrowed) (r : AncestorsRequest) → rest ≡ e ∷ more → now ≡ rs ++ r ∷ [] → r.entity_id ≡ e.0 → IsStrictlySortedBy uid_cmp (ids_of rs ++ keys_of rest) → IsStrictlySortedBy uid_cmp (ids_of now ++ keys_of more)
id_taken rs now rest more e r s p is h =
    subst (IsStrictlySortedBy uid_cmp) (sym (ap (λ us. us ++ keys_of more) (ap ids_of p ∙ ids_pushed rs r ∙ ap (λ u. ids_of rs ++ u ∷ []) is) ∙ append_assoc (ids_of rs) (e.0 ∷ []) (keys_of more)))
    (subst (λ es. IsStrictlySortedBy uid_cmp (ids_of rs ++ keys_of es)) s h)

pub ids_done : (rs : List AncestorsRequest) (rest : List (EntityUID × Borrowed)) → rest ≡ [] → IsStrictlySortedBy uid_cmp (ids_of rs ++ keys_of rest) → IsStrictlySortedBy uid_cmp (ids_of rs)
ids_done rs rest e h = subst (IsStrictlySortedBy uid_cmp) (ap (λ es. ids_of rs ++ keys_of es) e ∙ nil_right (ids_of rs)) h
  where
    nil_right : (xs : List EntityUID) → xs ++ [] ≡ xs
    nil_right [] = refl
    nil_right (x ∷ xs) = ap (λ ys. x ∷ ys) (nil_right xs)

-- ---- the same but for ancestors

pub alike_put : (old new : BTreeMap EntityUID StoredEntity) (u : EntityUID) (e d : StoredEntity) → get uid_cmp old u ≡ Some d → without_links e ≡ without_links d → ((x : EntityUID) → get uid_cmp new x ≡ cond (uid_eq u x) (Some e) (get uid_cmp old x)) → AreAlike (get uid_cmp new) (get uid_cmp old)
alike_put old new u e d had same put x = by (uid_eq u x) refl
  where
    by : (b : Bool) → uid_eq u x ≡ b → option_map without_links (get uid_cmp new x) ≡ option_map without_links (get uid_cmp old x)
    by true f = ap (option_map without_links) (put x ∙ ap (λ c. cond c (Some e) (get uid_cmp old x)) f) ∙ ap Some same ∙ ap (option_map without_links) (sym had ∙ ap (get uid_cmp old) (same_uid u x f))
    by false f = ap (option_map without_links) (put x ∙ ap (λ c. cond c (Some e) (get uid_cmp old x)) f)
