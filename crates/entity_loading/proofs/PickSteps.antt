-- Ids that are picked out of those in order.
use Rattle.std.proofs.Common.{◌≡◌, Bool, true, false, List, [], ◌∷◌, ◌++◌, refl, sym, ap, ◌∙◌, subst, append_assoc}
use Rattle.std.specs.List.{AllByRecursion, filter}
use Rattle.std.specs.List.Sorted.{IsStrictlySortedBy}
use Rattle.std.specs.BTreeSet.{insert_key}
use Rattle.std.specs.Ordering.{ordering_reverse}
use Rattle.std.specs.declared.cmp.Ordering.TheVariants.{Less, Greater}
use Rattle.std.proofs.lemmas.List.Kept.{IsStrictlySortedBy-filter}
use Rattle.policy_values.specs.declared.entity_uid.EntityUID.{EntityUID}
use Rattle.policy_values.specs.Uid.{uid_cmp, uid_cmp_total}

greater : (y : EntityUID) (ids : List EntityUID) (x : EntityUID) (rest : List EntityUID) → AllByRecursion (λ z. uid_cmp y z ≡ Less) (ids ++ x ∷ rest) → uid_cmp x y ≡ Greater
greater y [] x rest h = uid_cmp_total.antisymm x y ∙ ap ordering_reverse h.0
greater y (z ∷ ids) x rest h = greater y ids x rest h.1

put_last : (ids : List EntityUID) (x : EntityUID) (rest : List EntityUID) → IsStrictlySortedBy uid_cmp (ids ++ x ∷ rest) → insert_key uid_cmp ids x ≡ ids ++ x ∷ []
unfolding IsStrictlySortedBy
put_last [] x rest up = refl
put_last (y ∷ ids) x rest up = rw (greater y ids x rest up.0) (ap (λ r. y ∷ r) (put_last ids x rest up.1))

-- `ids` were picked of those before `left`, of all
module _ (f : EntityUID → Bool) (ids left more all : List EntityUID) (x : EntityUID) (split : left ≡ x ∷ more) (t : ids ++ filter f left ≡ filter f all) where
  pub pick_skip : f x ≡ false → ids ++ filter f more ≡ filter f all
  pick_skip fails = rw (split, fails) at t

  pub pick_more : (now : List EntityUID) → IsStrictlySortedBy uid_cmp all → f x ≡ true → now ≡ insert_key uid_cmp ids x → now ++ filter f more ≡ filter f all
  pick_more now up passes put =
      let here : ids ++ x ∷ filter f more ≡ filter f all = rw (split, passes) at t in
      ap (λ l. l ++ filter f more) (put ∙ put_last ids x (filter f more) (subst (IsStrictlySortedBy uid_cmp) (sym here) (IsStrictlySortedBy-filter uid_cmp f all up)))
      ∙ append_assoc ids (x ∷ []) (filter f more) ∙ here
