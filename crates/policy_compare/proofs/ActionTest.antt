-- The test of the action in a scope is true where the action is in the list.
use Rattle.std.proofs.Common.{◌≡◌, Bool, true, false, ◌||◌, List, [], ◌∷◌, map, Option, Some, None, Ok, refl, sym, ap, ◌∙◌, subst}
use Rattle.std.specs.List.{list_any}
use Rattle.std.specs.Ordering.{match_ordering}
use Rattle.std.specs.declared.cmp.Ordering.{Ordering}
use Rattle.std.specs.declared.cmp.Ordering.TheVariants.{Less, Equal, Greater}
use Rattle.plain_lemmas.proofs.Booleans.{or_left_true, or_weaker}
use Rattle.plain_lemmas.proofs.Options.{some_injective}
use Rattle.policy_values.specs.declared.entity_uid.EntityUID.{EntityUID}
use Rattle.policy_values.specs.Uid.{uid_cmp, uid_eq, exact_uid}
use Rattle.policy_values.specs.Value.{truth, entity, Vals, no_vals, val}
use Rattle.policy_values.specs.ValueOrder.{insert_val, set_of}
use Rattle.entity_store.specs.declared.request.Request.{Request}
use Rattle.entity_store.specs.Request.{action_of}
use Rattle.entity_store.specs.Store.{Store, entity_at}
use Rattle.policy_core.specs.declared.outcome.Outcome.{Outcome}
use Rattle.policy_core.specs.declared.outcome.Outcome.TheVariants.{Value, Error}
use Rattle.policy_core.specs.Eval.{eval, eval_all, result_map, set_outcome, with_value, choose, truth_of, truth_outcome}
use Rattle.policy_core.specs.Operators.{above, in_value, or_within, within, within_any}
use Rattle.policy_expressions.specs.Slots.{has_slot}
use Rattle.policy_set.specs.Condition.{IsPolicy, action_part, anything, literals, scope_part}
use Rattle.policy_set.specs.Data.{PolicyData}
use Rattle.policy_set.specs.declared.constraint.ActionConstraint.{ActionConstraint}
use Rattle.policy_set.specs.declared.constraint.ActionConstraint.TheVariants.{Any, Eq, In}
use Rattle.policy_expressions.specs.declared.kinds.SlotId.TheVariants.{Principal, Resource}
use Rattle.schema_core.specs.EnvData.{EnvData, action_in}
use Rattle.schema_core.specs.Schema.{SchemaData}
use Rattle.typing_spec.specs.Typing.{Typed}
use Rattle.condition_truth.specs.Outlined.{AreSides, asked_of}
use Rattle.condition_truth.specs.Outlines.{outline}
use Rattle.policy_compare.specs.Conditions.{HasSidesOf}
use Rattle.policy_compare.specs.ActionTest.{condition_for_any, lists_action}

-- ---- a set of ids

or_twice : (b : Bool) (o : Outcome) → or_within b (or_within b o) ≡ or_within b o
or_twice true (Value (truth c)) = refl
or_twice false (Value (truth c)) = refl
or_twice b (Value v) = refl
or_twice b (Error e) = refl

or_swapped : (b c : Bool) (o : Outcome) → or_within b (or_within c o) ≡ or_within c (or_within b o)
or_swapped true true (Value (truth d)) = refl
or_swapped true false (Value (truth d)) = refl
or_swapped false true (Value (truth d)) = refl
or_swapped false false (Value (truth d)) = refl
or_swapped b c (Value v) = refl
or_swapped b c (Error e) = refl

abbrev AreIds : Vals → Type 0
AreIds no_vals = Unit {0}
AreIds (val (entity u) vs) = AreIds vs
AreIds (val v vs) = ⊥

ids_inserted : (u : EntityUID) (vs : Vals) → AreIds vs → AreIds (insert_val (entity u) vs)
ids_inserted u no_vals h = tt
ids_inserted u (val (entity y) vs) h = by (uid_cmp u y) (ids_inserted u vs h)
  where
    by : (o : Ordering) → AreIds (insert_val (entity u) vs) → AreIds (match_ordering o (val (entity u) (val (entity y) vs)) (val (entity y) vs) (val (entity y) (insert_val (entity u) vs)))
    by Less k = h
    by Equal k = h
    by Greater k = k
ids_inserted u (val v vs) h = absurd h

module _ (x : EntityUID) (s : Store) where
  -- one more id in its place
  within_inserted : (u : EntityUID) (vs : Vals) → AreIds vs → within_any x (insert_val (entity u) vs) s ≡ or_within (within x u s) (within_any x vs s)
  within_inserted u no_vals h = refl
  within_inserted u (val (entity y) vs) h = by (uid_cmp u y) refl (within_inserted u vs h)
    where
      by : (o : Ordering) → uid_cmp u y ≡ o → within_any x (insert_val (entity u) vs) s ≡ or_within (within x u s) (within_any x vs s) →
          within_any x (match_ordering o (val (entity u) (val (entity y) vs)) (val (entity y) vs) (val (entity y) (insert_val (entity u) vs))) s ≡ or_within (within x u s) (or_within (within x y s) (within_any x vs s))
      by Less e k = refl
      by Equal e k = sym (or_twice (within x y s) (within_any x vs s)) ∙ ap (λ w. or_within (within x w s) (or_within (within x y s) (within_any x vs s))) (sym (exact_uid u y e))
      by Greater e k = ap (or_within (within x y s)) k ∙ or_swapped (within x y s) (within x u s) (within_any x vs s)
  within_inserted u (val v vs) h = absurd h

  set_ids : (us : List EntityUID) → AreIds (set_of (map entity us))
  set_ids [] = tt
  set_ids (u ∷ us) = ids_inserted u (set_of (map entity us)) (set_ids us)

  within_set : (us : List EntityUID) → within_any x (set_of (map entity us)) s ≡ Value (truth (list_any (λ u. within x u s) us))
  within_set [] = refl
  within_set (u ∷ us) = within_inserted u (set_of (map entity us)) (set_ids us) ∙ ap (or_within (within x u s)) (within_set us)

  listed_within : (us : List EntityUID) → list_any (uid_eq x) us ≡ true → list_any (λ u. within x u s) us ≡ true
  listed_within [] h = h
  listed_within (u ∷ us) h = or_weaker (uid_eq x u) (list_any (uid_eq x) us) (within x u s) (list_any (λ u. within x u s) us) (or_left_true (uid_eq x u) (above_of u)) (listed_within us) h
    where
      above_of : EntityUID → Bool
      above_of u = above (entity_at s x) u

-- ---- the test of the action

module _ (q : Request) (s : Store) where
  literals_are : (us : List EntityUID) → eval_all (literals us) q s ≡ Ok (map entity us)
  literals_are [] = refl
  literals_are (u ∷ us) = ap (result_map (λ vs. entity u ∷ vs)) (literals_are us)

  test_is_true : (c : ActionConstraint) (o : Option EntityUID) → o ≡ Some (action_of q) → lists_action c o ≡ true → eval (action_part c) q s ≡ eval anything q s
  test_is_true (In us) (Some u) e h =
      let same : u ≡ action_of q = some_injective e in
      let listed : list_any (uid_eq (action_of q)) us ≡ true = subst (λ w. list_any (uid_eq w) us ≡ true) same h in
      ap (λ r. with_value (set_outcome r) (λ w. in_value (entity (action_of q)) w s)) (literals_are us)
      ∙ within_set (action_of q) s us
      ∙ ap (λ b. Value (truth b)) (listed_within (action_of q) s us listed)
  test_is_true (In us) None e h = absurd (cc)
  test_is_true Any o e h = absurd (cc)
  test_is_true (Eq u) o e h = absurd (cc)

  abbrev both : Outcome → Outcome → Outcome
  both a b = choose (truth_of a) (truth_outcome (truth_of b)) (Value (truth false))

  pub same_outcome : (p : PolicyData) → IsPolicy p → (o : Option EntityUID) → o ≡ Some (action_of q) → lists_action p.action o ≡ true → eval (condition_for_any p.condition) q s ≡ eval p.condition q s
  same_outcome p is o e h =
      ap (λ x. eval (condition_for_any x) q s) is.condition
      ∙ ap (λ a. both (both (both (eval (scope_part Principal p.principal) q s) a) (eval (scope_part Resource p.resource) q s)) (eval p.body q s)) (sym (test_is_true p.action o e h))
      ∙ ap (λ x. eval x q s) (sym is.condition)

-- without slots, as before
without_slot : (a b c d : Bool) → ((a || b) || c) || d ≡ false → ((a || false) || c) || d ≡ false
without_slot false false false false h = refl
without_slot true b c d h = absurd (cc)
without_slot false true c d h = absurd (cc)
without_slot false false true d h = absurd (cc)
without_slot false false false true h = absurd (cc)

pub no_slot_for_any : (p : PolicyData) → IsPolicy p → has_slot (condition_for_any p.condition) ≡ false
no_slot_for_any p is =
    ap (λ x. has_slot (condition_for_any x)) is.condition
    ∙ without_slot (has_slot (scope_part Principal p.principal)) (has_slot (action_part p.action)) (has_slot (scope_part Resource p.resource)) (has_slot p.body)
    (ap has_slot (sym is.condition) ∙ is.no_slot)

-- what is typed in place of the condition has its sides
pub sides_kept : (schema : SchemaData) (env : EnvData) (p : PolicyData) → IsPolicy p → lists_action p.action (action_in env) ≡ true →
    (t : Typed) → HasSidesOf schema env (condition_for_any p.condition) t → HasSidesOf schema env p.condition t
sides_kept schema env p is listed t has q conforms of s stored =
    subst (λ o. AreSides o (outline (asked_of q s) t))
    (same_outcome q s p is (action_in env) (ap action_in of.1 ∙ ap Some (sym of.2.action)) listed)
    (has q conforms of s stored)
