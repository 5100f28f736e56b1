-- A place that is put among others.
use Rattle.std.proofs.Common.{◌≡◌, ◌⊎◌, Bool, false, ◌||◌, List, [], ◌∷◌, refl, sym, ap, ◌∙◌, inl, inr}
use Rattle.std.specs.List.{list_any}
use Rattle.std.specs.BTreeSet.{insert_key}
use Rattle.std.specs.declared.cmp.Ordering.{Ordering}
use Rattle.std.specs.declared.cmp.Ordering.TheVariants.{Less, Equal, Greater}
use Rattle.std.specs.Ordering.{nat_cmp, match_ordering}
use Rattle.std.proofs.lemmas.Map.Lookups.{exact_unsigned}
use Rattle.policy_values.specs.Uid.{uid_cmp, exact_uid}
use Rattle.policy_values.specs.Ties.{then_equal}
use Rattle.reads_spec.proofs.Lists.{IsIn}
use Rattle.entity_loading.specs.declared.place.Place.{Place}
use Rattle.entity_loading.specs.Places.{place_cmp, IsPlaced}
use Rattle.plain_lemmas.proofs.Booleans.{or_again, or_assoc_left, or_comm}

pub exact_place : (p q : Place) → place_cmp p q ≡ Equal → p ≡ q
exact_place p q h =
    let e = then_equal (uid_cmp p.uid q.uid) (nat_cmp p.number q.number) h in
    λ i. record { uid = exact_uid p.uid q.uid e.0 i; number = exact_unsigned p.number q.number e.1 i }

any_put : (f : Place → Bool) (ps : List Place) (p : Place) → list_any f (insert_key place_cmp ps p) ≡ (list_any f ps || f p)
any_put f [] p = or_comm (f p) false
any_put f (q ∷ ps) p = by (place_cmp p q) refl (any_put f ps p) where
  by : (o : Ordering) → place_cmp p q ≡ o → list_any f (insert_key place_cmp ps p) ≡ (list_any f ps || f p)
      → list_any f (match_ordering o (p ∷ q ∷ ps) (q ∷ ps) (q ∷ insert_key place_cmp ps p)) ≡ ((f q || list_any f ps) || f p)
  by Less is later = or_comm (f p) (f q || list_any f ps)
  by Equal is later = rw (exact_place p q is) (or_again (f q) (list_any f ps))
  by Greater is later = ap (λ b. f q || b) later ∙ or_assoc_left (f q) (list_any f ps) (f p)

in_put : (ps : List Place) (p q : Place) → IsIn q (insert_key place_cmp ps p) → IsIn q ps ⊎ (q ≡ p)
in_put [] p q (inl e) = inr (sym e)
in_put [] p q (inr h) = absurd h
in_put (r ∷ ps) p q h = by (place_cmp p r) h (in_put ps p q) where
  by : (o : Ordering) → IsIn q (match_ordering o (p ∷ r ∷ ps) (r ∷ ps) (r ∷ insert_key place_cmp ps p)) → (IsIn q (insert_key place_cmp ps p) → IsIn q ps ⊎ (q ≡ p)) → IsIn q (r ∷ ps) ⊎ (q ≡ p)
  by Less (inl e) later = inr (sym e)
  by Less (inr h) later = inl h
  by Equal h later = inl h
  by Greater (inl e) later = inl (inl e)
  by Greater (inr h) later = elim (later h) [
    | inl there ↦ inl (inr there)
    | inr same ↦ inr same
  ]

pub placed : (ps : List Place) (p : Place) (new : List Place) → new ≡ insert_key place_cmp ps p → IsPlaced p ps new
placed ps p new is = rw is (record { tests = λ f. any_put f ps p; only = λ q. in_put ps p q })
