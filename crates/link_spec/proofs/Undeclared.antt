-- A scope that names an action that is not declared.
use Rattle.std.proofs.Common.{◌≡◌, ℕ, Bool, true, false, List, [], Option, Some, None, is_some, refl, sym, ap, ◌∙◌, true≢false}
use Rattle.std.specs.Prelude.{nat_lt, fold, if◌then◌else◌}
use Rattle.std.specs.List.{AllByRecursion}
use Rattle.std.proofs.lemmas.Map.Views.{tells_apart}
use Rattle.policy_values.specs.declared.entity_uid.EntityUID.{EntityUID}
use Rattle.policy_values.specs.Reaches.{has}
use Rattle.policy_values.specs.Uid.{text_cmp, uid_eq, exact_uid}
use Rattle.policy_expressions.specs.declared.kinds.BinaryOp.TheVariants.{Eq as IsEqual}
use Rattle.policy_expressions.specs.declared.kinds.Literal.TheVariants as literal
use Rattle.policy_expressions.specs.declared.kinds.Loc.{Loc}
use Rattle.policy_expressions.specs.declared.kinds.SlotId.TheVariants.{Principal, Resource}
use Rattle.policy_expressions.specs.declared.kinds.Var.TheVariants as variable
use Rattle.policy_expressions.specs.Tree.{lit, var, binary, conj, depth_of}
use Rattle.policy_expressions.specs.Plain.{Plain, unmarked}
use Rattle.schema_types.specs.Ty.{false_type}
use Rattle.schema_core.specs.EnvData.{EnvData, id_type, literal_type}
use Rattle.schema_core.specs.Environments.{Environment, environment, environments_at, environments_of}
use Rattle.schema_core.specs.Faults.{IsSchema}
use Rattle.schema_core.specs.Schema.{ActionData, SchemaData, action_at, type_at}
use Rattle.typing_spec.specs.Capability.{Capability, has_cap}
use Rattle.typing_spec.specs.Environment.{truth_type}
use Rattle.typing_spec.specs.Typing.{Typed, at, unreached, tag_known}
use Rattle.policy_set.specs.declared.constraint.ActionConstraint.TheVariants as asked
use Rattle.policy_set.specs.Data.{TemplateData}
use Rattle.policy_set.specs.Condition.{id_literal, scope_part, action_part, scope_of, condition_of}
use Rattle.policy_scope.specs.PlainScope.{is_plain_side}
use Rattle.policy_scope.specs.Scope.{type_meets}
use Rattle.plain_lemmas.proofs.Lists.{all_weaker}
use Rattle.typecheck_rules.specs.Check.{Check, Irrelevant, Fail as CheckFail, TooDeep, check_walked, checked, condition_walked}
use Rattle.typecheck_rules.specs.Expected.{a_boolean}
use Rattle.typecheck_rules.specs.Walked.{Walked, Success, Fail, expect, findings_of, lends}
use Rattle.typecheck_rules.specs.Operators.{place, leaf_walked, and_walked, binary_walked}
use Rattle.typecheck_rules.specs.Walk.{walked}
use Rattle.link_spec.specs.Behind.{refused}
use Rattle.link_spec.specs.Linked.{linked_env, slot_types, linked_envs_with, linked_envs_at, linked_envs_of, linked_envs}
use Rattle.link_spec.specs.Met.{refused_check}
use Rattle.link_spec.specs.Parts.{Part, part, part_typing, side_part, typed_action, Stands}
use Rattle.link_spec.specs.ScopeLaws.{IsEnvironment}
use Rattle.link_spec.proofs.Actions.{declared_type}
use Rattle.link_spec.proofs.Folds.{fold_same, all_in, all_listed, slots_stand}
use Rattle.link_spec.proofs.Links.{to_each, to_mapped}
use Rattle.link_spec.proofs.Whole.{side_comes, side_met}

-- the test for an action that is not declared finds nothing, and gives the type False
abbrev tested : SchemaData → ActionData → EntityUID → Bool → Walked
tested schema a u b = Fail (binary IsEqual (typed_action schema a) (lit (literal.EntityUID u) (lends None unmarked)) (lends (Some (truth_type b)) unmarked)) []

module _ (schema : SchemaData) (a : ActionData) (listed : action_at schema a.name ≡ Some a) (u : EntityUID) (untyped : literal_type schema u ≡ None) where
  apart : (b : Bool) → uid_eq a.name u ≡ b → b ≡ false
  apart true e = absurd (true≢false (ap is_some (sym (ap (λ o. id_type u o (type_at schema u.entity_type)) (ap (action_at schema) (sym (tells_apart exact_uid a.name u e)) ∙ listed)) ∙ untyped)))
  apart false e = refl

  test_walked : (p r : List ℕ) (s s' : Option (List ℕ)) (cs : List Capability) → walked schema (linked_env a (environment p a.name r) s s') cs (action_part (asked.Eq u)) ≡ tested schema a u false
  test_walked p r s s' cs =
      (λ j. binary_walked schema (linked_env a (environment p a.name r) s s') IsEqual (has_cap cs (tag_known x (id_literal u))) x (id_literal u) unmarked
      (leaf_walked (var variable.Action) unmarked (declared_type schema a.name (ap is_some listed) j)) (leaf_walked (lit (literal.EntityUID u)) unmarked (untyped j))) ∙
      ap (tested schema a u) (apart (uid_eq a.name u) refl)
    where
      x : Plain
      x = var variable.Action unmarked

-- a condition, by what its parts come to
module _ (lp la ls lr lc lb : Option Loc) (body : List Capability → Walked) where
  abbrev ended_by : Walked → (List Capability → Walked) → (List Capability → Walked) → Check
  ended_by p a r =
      let first = and_walked unmarked la (expect a_boolean lp p) a (a []) in
      let scope = and_walked unmarked lr (expect a_boolean ls first) r (r []) in
      check_walked (expect a_boolean None (and_walked unmarked lb (expect a_boolean lc scope) body (body [])))

  -- where the principal does not meet the scope
  abbrev unmet : Typed → Typed
  unmet x = let f = at false_type unmarked in conj (conj (conj x unreached f) unreached f) unreached f

  abbrev met_or : Typed → Bool → Check
  met_or x true = CheckFail (findings_of (expect a_boolean lb (body [])))
  met_or x false = Irrelevant (unmet x)

  ends : (schema : SchemaData) (a : ActionData) (u : EntityUID) (m s : Bool) (x : Typed) (n t : Bool) (y : Typed) →
      ended_by (Success (part_typing (part m s x))) (λ ds. tested schema a u false) (λ ds. Success (part_typing (part n t y))) ≡ met_or x m
  ends schema a u false s x n t y = refl
  ends schema a u true true x false t y = refl
  ends schema a u true true x true true y = refl
  ends schema a u true true x true false y = refl
  ends schema a u true false x false t y = refl
  ends schema a u true false x true true y = refl
  ends schema a u true false x true false y = refl

module _ (schema : SchemaData) (ok : IsSchema schema) (t : TemplateData) where
  -- what holds in each environment of the schema holds in those of the template
  all_linked : (Q : EnvData → Type 0) →
      ((a : ActionData) → action_at schema a.name ≡ Some a → (p : List ℕ) → has text_cmp a.principals p ≡ true → (r : List ℕ) → has text_cmp a.resources r ≡ true →
      (o : Option (List ℕ)) → Stands t.principal p o → (o' : Option (List ℕ)) → Stands t.resource r o' → Q (linked_env a (environment p a.name r) o o')) → AllByRecursion Q (linked_envs schema t)
  all_linked Q q = to_each Q (linked_envs_of schema t) schema.action_ids (all_weaker of_action schema.action_ids (all_listed schema ok))
    where
      R : ActionData → Environment → Type 0
      R a e = AllByRecursion Q (linked_envs_at schema t a e)

      of_env : (a : ActionData) → action_at schema a.name ≡ Some a → (p : List ℕ) → has text_cmp a.principals p ≡ true → (r : List ℕ) → has text_cmp a.resources r ≡ true → R a (environment p a.name r)
      of_env a l p hp r hr =
          to_each Q (linked_envs_with schema t a (environment p a.name r)) (slot_types schema t.principal p)
          (all_weaker (λ o f. to_mapped Q (linked_env a (environment p a.name r) o) (slot_types schema t.resource r)
          (all_weaker (λ o' g. q a l p hp r hr o f o' g) (slot_types schema t.resource r) (slots_stand schema t.resource r))) (slot_types schema t.principal p) (slots_stand schema t.principal p))

      of_action : (a : ActionData) → action_at schema a.name ≡ Some a → AllByRecursion Q (linked_envs_of schema t a)
      of_action a l =
          to_each Q (linked_envs_at schema t a) (environments_of a)
          (to_each (R a) (environments_at a) a.principals (all_weaker (λ p hp. to_mapped (R a) (environment p a.name) a.resources (all_weaker (of_env a l p hp) a.resources (all_in a.resources))) a.principals (all_in a.principals)))

  module _ (u : EntityUID) (names : t.action ≡ asked.Eq u) (untyped : literal_type schema u ≡ None) (principal : is_plain_side schema t.principal ≡ true) (resource : is_plain_side schema t.resource ≡ true)
      (depth : nat_lt 200 (depth_of (condition_of t)) ≡ false) {S : Type 0} (h : Check → S → S) (skips : (x : Typed) (s : S) → h (Irrelevant x) s ≡ s) where
    -- the step of a check and of what it says are one
    abbrev IsSame : EnvData → Type 0
    IsSame env = (s : S) → h (checked schema env (condition_of t)) s ≡ h (refused_check schema t env) s

    same_in : (a : ActionData) → action_at schema a.name ≡ Some a → (p : List ℕ) → has text_cmp a.principals p ≡ true → (r : List ℕ) → has text_cmp a.resources r ≡ true →
        (o : Option (List ℕ)) → Stands t.principal p o → (o' : Option (List ℕ)) → Stands t.resource r o' → IsSame (linked_env a (environment p a.name r) o o')
    same_in a l p hp r hr o f o' g s =
        ap (λ c. h c s)
        ((λ j. if depth j then TooDeep else check_walked (condition_walked schema env (condition_of t))) ∙
        (λ j. check_walked (condition_walked schema env (conj (scope_of t.principal (names j) t.resource) t.body unmarked))) ∙
        (λ j. ended_here (side_comes schema ok a (environment p a.name r) is o o' Principal t.principal principal f [] j) (λ ds. test_walked schema a l u untyped p r o o' ds j)
        (λ ds. side_comes schema ok a (environment p a.name r) is o o' Resource t.resource resource g ds j)) ∙
        ends first None None second None (place t.body) body schema a u x.meets x.sure x.tree y.meets y.sure y.tree) ∙
        (λ j. h (met_or first None None second None (place t.body) body x.tree (side_met schema Principal p o t.principal j)) s) ∙
        by (type_meets schema t.principal p)
      where
        env : EnvData
        env = linked_env a (environment p a.name r) o o'

        is : IsEnvironment schema a (environment p a.name r)
        is = record { action = l; name = refl; principal = hp; resource = hr }

        first : Option Loc
        first = place (scope_part Principal t.principal)

        second : Option Loc
        second = place (scope_part Resource t.resource)

        body : List Capability → Walked
        body ds = walked schema env ds t.body

        ended_here : Walked → (List Capability → Walked) → (List Capability → Walked) → Check
        ended_here = ended_by first None None second None (place t.body) body

        x : Part
        x = side_part schema Principal p o t.principal

        y : Part
        y = side_part schema Resource r o' t.resource

        by : (b : Bool) → h (met_or first None None second None (place t.body) body x.tree b) s ≡ h (refused b (condition_walked schema env t.body)) s
        by true = refl
        by false = skips (unmet first None None second None (place t.body) body x.tree) s ∙ sym (skips unreached s)

    -- the checks of the condition in all environments say what is found of the body where the principal meets the scope
    pub refused_follow : (s : S) → fold (λ s env. h (checked schema env (condition_of t)) s) s (linked_envs schema t) ≡ fold (λ s env. h (refused_check schema t env) s) s (linked_envs schema t)
    refused_follow s = fold_same (λ s env. h (checked schema env (condition_of t)) s) (λ s env. h (refused_check schema t env) s) (linked_envs schema t) (all_linked IsSame same_in) s
