-- Ids that are equal, and ids among the ancestors of an entity.
use Rattle.std.proofs.Common.{◌≡◌, Bool, true, false, ◌&&◌, ◌↔◌, IsTrue, List, Ordering, Contains, sym, ◌∙◌, refl}
use Rattle.std.specs.Prelude.{nat_eq}
use Rattle.std.specs.declared.cmp.Ordering.TheVariants.{Less, Equal, Greater}
use Rattle.std.specs.Cmp.Lexicographic.{pointwise}
use Rattle.std.specs.List.{list_any}
use Rattle.std.specs.Ordering.{is_eq, ordering_then}
use Rattle.std.proofs.lemmas.Cmp.{eq_by_cmp_equiv}
use Rattle.std.proofs.lemmas.Map.Text.{is_eq-slice_cmp}
use Rattle.std.proofs.lemmas.Map.Views.{list_any-from_Contains, Contains-from_any}
use Rattle.policy_values.specs.declared.entity_uid.EntityUID.{EntityUID}
use Rattle.policy_values.specs.Uid.{text_cmp, uid_cmp, uid_cmp_total, exact_uid, uid_eq}

both : (a b : Ordering) → is_eq (ordering_then a b) ≡ (is_eq a && is_eq b)
both Less b = refl
both Equal b = refl
both Greater b = refl

-- ids are equal where their types and their eids are
pub uid_eq_texts : (x y : EntityUID) → uid_eq x y ≡ (pointwise nat_eq x.entity_type y.entity_type && pointwise nat_eq x.eid y.eid)
uid_eq_texts x y =
    both (text_cmp x.entity_type y.entity_type) (text_cmp x.eid y.eid)
    ∙ (λ i. is_eq-slice_cmp x.entity_type y.entity_type i && is_eq-slice_cmp x.eid y.eid i)

tied : (x y : EntityUID) → uid_eq x y ≡ true → x ≡ y
tied x y h = exact_uid x y (by_test (uid_cmp x y) h)
  where
    by_test : (o : Ordering) → is_eq o ≡ true → o ≡ Equal
    by_test Less e = cc
    by_test Equal e = refl
    by_test Greater e = cc

-- a test that says whether the id is in the list
pub above_listed : (found : Bool) (y : EntityUID) (uids : List EntityUID) → IsTrue found ↔ Contains uids y → found ≡ list_any (uid_eq y) uids
above_listed true y uids h = sym (list_any-from_Contains (eq_by_cmp_equiv uid_cmp_total) y uids (h.0 refl))
above_listed false y uids h = by_test (list_any (uid_eq y) uids) refl
  where
    by_test : (b : Bool) → list_any (uid_eq y) uids ≡ b → false ≡ b
    by_test false e = refl
    by_test true e = h.1 (Contains-from_any tied y uids e)
