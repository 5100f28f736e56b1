-- Whom no permit's scope lets in is denied.
use Rattle.std.proofs.Common.{◌≡◌, ◌⊎◌, ℕ, Bool, true, false, ◌||◌, ◌&&◌, ◌↔◌, IsTrue, List, [], ◌∷◌, Option, Some, None, Ordering, Contains, map, cond, refl, sym, ap, ◌∙◌, subst, inl, inr}
use Rattle.std.specs.Prelude.{nat_eq, Ok}
use Rattle.std.specs.List.{list_any, AllByRecursion}
use Rattle.std.specs.List.Sorted.{IsStrictlySortedBy}
use Rattle.std.specs.Ordering.{is_eq, ordering_then}
use Rattle.std.specs.declared.cmp.Ordering.TheVariants.{Less, Equal, Greater}
use Rattle.std.specs.Cmp.Lexicographic.{pointwise}
use Rattle.std.proofs.lemmas.Cmp.{eq_by_cmp_equiv, tied_itself}
use Rattle.std.proofs.lemmas.Map.Text.{is_eq-slice_cmp}
use Rattle.std.proofs.lemmas.Map.Views.{list_any-from_Contains, Contains-from_any}
use Rattle.policy_values.specs.declared.entity_uid.EntityUID.{EntityUID}
use Rattle.policy_values.specs.Uid.{text_cmp, uid_cmp, uid_cmp_total, exact_uid, uid_eq}
use Rattle.policy_values.specs.Value.{truth}
use Rattle.entity_store.specs.declared.request.Request.{Request}
use Rattle.entity_store.specs.Request.{known}
use Rattle.entity_store.specs.Store.{StoredEntity, Store, entity_at}
use Rattle.entity_store.specs.Store as store
use Rattle.policy_expressions.specs.Plain.{Plain, unmarked}
use Rattle.policy_expressions.specs.Tree.{conj}
use Rattle.policy_expressions.specs.declared.kinds.SlotId.TheVariants.{Principal, Resource}
use Rattle.policy_core.specs.Eval.{eval, choose, truth_of, truth_outcome}
use Rattle.policy_core.specs.Operators.{above, within}
use Rattle.policy_core.specs.declared.outcome.Outcome.{Outcome}
use Rattle.policy_core.specs.declared.outcome.Outcome.TheVariants.{Value, Error}
use Rattle.policy_set.specs.Data.{PolicyData}
use Rattle.policy_set.specs.Condition.{IsPolicy, scope_part, action_part, scope_of}
use Rattle.policy_set.specs.Response.{response, outcome, if_true, if_permit, true_permits, true_forbids, failures, decided}
use Rattle.policy_set.specs.declared.constraint.Effect.{Effect}
use Rattle.policy_set.specs.declared.constraint.Effect.TheVariants.{Permit, Forbid}
use Rattle.policy_set.specs.declared.constraint.EntityReference.{EntityReference}
use Rattle.policy_set.specs.declared.constraint.EntityReference.TheVariants.{EUID, Slot}
use Rattle.policy_set.specs.declared.constraint.PrincipalOrResourceConstraint.{PrincipalOrResourceConstraint}
use Rattle.policy_set.specs.declared.constraint.PrincipalOrResourceConstraint.TheVariants.{Any, Eq, In, Is, IsIn}
use Rattle.policy_set.specs.declared.constraint.ActionConstraint.{ActionConstraint}
use Rattle.policy_set.specs.declared.constraint.ActionConstraint.TheVariants as action
use Rattle.reads_spec.specs.Among as among
use Rattle.principal_listing.specs.Allowed.{asked_by, is_allow}
use Rattle.principal_listing.specs.Scopes.{is_under, is_of_type, takes_principal, may_take_action, lets_in}

-- ---- ids

both : (a b : Ordering) → is_eq (ordering_then a b) ≡ (is_eq a && is_eq b)
both Less b = refl
both Equal b = refl
both Greater b = refl

-- ids are equal where their types and their eids are
pub uid_eq_texts : (x y : EntityUID) → uid_eq x y ≡ (pointwise nat_eq x.entity_type y.entity_type && pointwise nat_eq x.eid y.eid)
uid_eq_texts x y =
    both (text_cmp x.entity_type y.entity_type) (text_cmp x.eid y.eid)
    ∙ (λ i. is_eq-slice_cmp x.entity_type y.entity_type i && is_eq-slice_cmp x.eid y.eid i)

tied : (x y : EntityUID) → uid_eq x y ≡ true → x ≡ y
tied x y h = exact_uid x y (by_test (uid_cmp x y) h)
  where
    by_test : (o : Ordering) → is_eq o ≡ true → o ≡ Equal
    by_test Less e = cc
    by_test Equal e = refl
    by_test Greater e = cc

-- a test that says whether the id is in the list
pub listed : (found : Bool) (y : EntityUID) (uids : List EntityUID) → IsTrue found ↔ Contains uids y → found ≡ list_any (uid_eq y) uids
listed true y uids h = sym (list_any-from_Contains (eq_by_cmp_equiv uid_cmp_total) y uids (h.0 refl))
listed false y uids h = by_test (list_any (uid_eq y) uids) refl
  where
    by_test : (b : Bool) → list_any (uid_eq y) uids ≡ b → false ≡ b
    by_test false e = refl
    by_test true e = h.1 (Contains-from_any tied y uids e)

-- ---- an entity of a store stands at its id

before : (k : EntityUID) (e : StoredEntity) (s : Store) → AllByRecursion (λ y. uid_cmp k y ≡ Less) (map (λ x. x.uid) s) → among.IsIn e s → uid_cmp k e.uid ≡ Less
before k e [] h i = absurd i
before k e (x ∷ s) h (inl is) = subst (λ y. uid_cmp k y.uid ≡ Less) is h.0
before k e (x ∷ s) h (inr i) = before k e s h.1 i

further : (x e : StoredEntity) (s : Store) → uid_cmp x.uid e.uid ≡ Less → entity_at s e.uid ≡ Some e → (b : Bool) → store.is_named e.uid x ≡ b → cond b (Some x) (entity_at s e.uid) ≡ Some e
further x e s l f false i = f
further x e s l f true i = let g : Equal ≡ Less = sym (tied_itself uid_cmp_total x.uid) ∙ ap (uid_cmp x.uid) (sym (tied e.uid x.uid i)) ∙ l in absurd (cc)

stands : (e : StoredEntity) (s : Store) → IsStrictlySortedBy uid_cmp (map (λ x. x.uid) s) → among.IsIn e s → entity_at s e.uid ≡ Some e
unfolding IsStrictlySortedBy
stands e [] h i = absurd i
stands e (x ∷ s) h (inl is) = subst (λ y. entity_at (x ∷ s) y.uid ≡ Some y) is (ap (λ o. cond (is_eq o) (Some x) (entity_at s x.uid)) (tied_itself uid_cmp_total x.uid))
stands e (x ∷ s) h (inr i) = further x e s (before x.uid e s h.0 i) (stands e s h.1 i) (store.is_named e.uid x) refl

-- ---- conditions that are not true

abbrev is_truth : Outcome → Bool
is_truth (Value (truth b)) = b
is_truth o = false

not_added : (o : Outcome) (id : List ℕ) (ids : List (List ℕ)) → is_truth o ≡ false → if_true o id ids ≡ ids
not_added (Value (truth true)) id ids h = absurd (cc)
not_added (Value (truth false)) id ids h = refl
not_added (Value v) id ids h = refl
not_added (Error e) id ids h = refl

left_untrue : (x y : Outcome) → is_truth x ≡ false → is_truth (choose (truth_of x) (truth_outcome (truth_of y)) (Value (truth false))) ≡ false
left_untrue (Value (truth true)) y h = absurd (cc)
left_untrue (Value (truth false)) y h = refl
left_untrue (Value v) y h = refl
left_untrue (Error e) y h = refl

as_truth : (y : Outcome) → is_truth y ≡ false → is_truth (truth_outcome (truth_of y)) ≡ false
as_truth (Value (truth b)) h = h
as_truth (Value v) h = refl
as_truth (Error e) h = refl

right_untrue : (x y : Outcome) → is_truth y ≡ false → is_truth (choose (truth_of x) (truth_outcome (truth_of y)) (Value (truth false))) ≡ false
right_untrue (Value (truth true)) y h = as_truth y h
right_untrue (Value (truth false)) y h = refl
right_untrue (Value v) y h = refl
right_untrue (Error e) y h = refl

either : (a b : Bool) → (a && b) ≡ false → (a ≡ false) ⊎ (b ≡ false)
either true b h = inr h
either false b h = inl refl

neither : (a b : Bool) → (a || b) ≡ false → (a ≡ false) × (b ≡ false)
neither true b h = absurd (cc)
neither false b h = (refl, h)

module _ (q : Request) (s : Store) (e : StoredEntity) (there : entity_at s e.uid ≡ Some e) where
  in_untrue : (u : EntityUID) → is_under e (EUID u) ≡ false → within e.uid u s ≡ false
  in_untrue u h = ap (λ o. uid_eq e.uid u || above o u) there ∙ h

  -- the part on the principal is not true where it does not take the entity
  principal_untrue : (c : PrincipalOrResourceConstraint) → takes_principal e c ≡ false → is_truth (eval (scope_part Principal c) (asked_by q e.uid) s) ≡ false
  principal_untrue Any h = absurd (cc)
  principal_untrue (Eq (EUID u)) h = h
  principal_untrue (Eq Slot) h = refl
  principal_untrue (In (EUID u)) h = in_untrue u h
  principal_untrue (In Slot) h = refl
  principal_untrue (Is n) h = h
  principal_untrue (IsIn n r) h = by r (either (is_of_type e n) (is_under e r) h)
    where
      right : (r : EntityReference) → is_under e r ≡ false → is_truth (eval (scope_part Principal (In r)) (asked_by q e.uid) s) ≡ false
      right (EUID u) k = in_untrue u k
      right Slot k = refl

      by : (r : EntityReference) → (is_of_type e n ≡ false) ⊎ (is_under e r ≡ false) → is_truth (eval (scope_part Principal (IsIn n r)) (asked_by q e.uid) s) ≡ false
      by r (inl k) = left_untrue (eval (scope_part Principal (Is n)) (asked_by q e.uid) s) (eval (scope_part Principal (In r)) (asked_by q e.uid) s) k
      by r (inr k) = right_untrue (eval (scope_part Principal (Is n)) (asked_by q e.uid) s) (eval (scope_part Principal (In r)) (asked_by q e.uid) s) (right r k)

  -- the part on the action is not true where it names another
  action_untrue : (c : ActionConstraint) → may_take_action c q.action ≡ false → is_truth (eval (action_part c) (asked_by q e.uid) s) ≡ false
  action_untrue action.Any h = absurd (cc)
  action_untrue (action.Eq u) h = by q.action h
    where
      by : (o : Option EntityUID) → may_take_action (action.Eq u) o ≡ false → uid_eq (known o) u ≡ false
      by (Some a) k = k
      by None k = absurd (cc)
  action_untrue (action.In us) h = absurd (cc)

  abbrev of_principal : PolicyData → Outcome
  of_principal p = eval (scope_part Principal p.principal) (asked_by q e.uid) s

  abbrev of_action : PolicyData → Outcome
  of_action p = eval (action_part p.action) (asked_by q e.uid) s

  abbrev of_both : PolicyData → Outcome
  of_both p = choose (truth_of (of_principal p)) (truth_outcome (truth_of (of_action p))) (Value (truth false))

  untrue : (p : PolicyData) → IsPolicy p → (takes_principal e p.principal && may_take_action p.action q.action) ≡ false → is_truth (outcome p (asked_by q e.uid) s) ≡ false
  untrue p made h =
      subst (λ c. is_truth (eval c (asked_by q e.uid) s) ≡ false) (sym made.condition)
      (left_untrue (eval (scope_of p.principal p.action p.resource) (asked_by q e.uid) s) (eval p.body (asked_by q e.uid) s)
      (left_untrue (of_both p) (eval (scope_part Resource p.resource) (asked_by q e.uid) s)
      (by (either (takes_principal e p.principal) (may_take_action p.action q.action) h))))
    where
      by : (takes_principal e p.principal ≡ false) ⊎ (may_take_action p.action q.action ≡ false) → is_truth (of_both p) ≡ false
      by (inl k) = left_untrue (of_principal p) (of_action p) (principal_untrue p.principal k)
      by (inr k) = right_untrue (of_principal p) (of_action p) (action_untrue p.action k)

  none_true : (ps : List PolicyData) → AllByRecursion IsPolicy ps → list_any (lets_in q.action e) ps ≡ false → true_permits (asked_by q e.uid) s ps ≡ []
  none_true [] made h = refl
  none_true (p ∷ ps) made h =
      let k = neither (lets_in q.action e p) (list_any (lets_in q.action e) ps) h in
      by p.effect k.0 (none_true ps made.1 k.1)
    where
      by : (f : Effect) → if_permit f (takes_principal e p.principal && may_take_action p.action q.action) false ≡ false → true_permits (asked_by q e.uid) s ps ≡ [] →
          if_permit f (if_true (outcome p (asked_by q e.uid) s) p.id (true_permits (asked_by q e.uid) s ps)) (true_permits (asked_by q e.uid) s ps) ≡ []
      by Permit k rest = not_added (outcome p (asked_by q e.uid) s) p.id (true_permits (asked_by q e.uid) s ps) (untrue p made.0 k) ∙ rest
      by Forbid k rest = rest

pub denied : (q : Request) (s : Store) (e : StoredEntity) (ps : List PolicyData) → IsStrictlySortedBy uid_cmp (map (λ x. x.uid) s) → among.IsIn e s → AllByRecursion IsPolicy ps →
    list_any (lets_in q.action e) ps ≡ false → false ≡ is_allow (response ps (asked_by q e.uid) s).decision
denied q s e ps ids i made h = by (true_permits (asked_by q e.uid) s ps) (none_true q s e (stands e s ids i) ps made h)
  where
    by : (permits : List (List ℕ)) → permits ≡ [] → false ≡ is_allow (decided permits (true_forbids (asked_by q e.uid) s ps) (failures (asked_by q e.uid) s ps)).decision
    by [] is = refl
    by (x ∷ xs) is = absurd (cc)
