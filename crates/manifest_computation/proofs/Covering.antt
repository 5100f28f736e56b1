-- The slice is enough.
use Rattle.std.proofs.Common.{◌≡◌, List, [], ◌∷◌, map, Option, Some, None, IfSome, IsSomeAnd, option_map, refl, sym, ap, ◌∙◌, subst}
use Rattle.std.specs.List.{AllByRecursion}
use Rattle.policy_values.specs.Value.{truth}
use Rattle.policy_core.specs.Allowed.{IsAllowedOutcome}
use Rattle.policy_core.specs.Eval.{eval}
use Rattle.policy_core.specs.declared.outcome.Outcome.{Outcome}
use Rattle.policy_core.specs.declared.outcome.Outcome.TheVariants.{Value, Error}
use Rattle.policy_expressions.specs.Plain.{Plain}
use Rattle.entity_store.specs.declared.request.Request.{Request}
use Rattle.entity_store.specs.Request.{principal_of, action_of, resource_of}
use Rattle.entity_store.specs.Store.{Store}
use Rattle.policy_set.specs.Data.{PolicyData}
use Rattle.policy_set.specs.PolicySet.{PolicySetData, IsPolicySet, AreKeyedOnce}
use Rattle.policy_set.specs.Allowed.{AreAllowed}
use Rattle.policy_set.specs.Response.{outcomes}
use Rattle.schema_core.specs.Environments.{environment}
use Rattle.schema_core.specs.EnvData.{EnvData, declared_action, unlinked}
use Rattle.schema_core.specs.Faults.{IsSchema}
use Rattle.schema_core.specs.Schema.{ActionData, SchemaData, action_at}
use Rattle.typing_spec.specs.Conditions.{IsCondition}
use Rattle.typing_spec.specs.Conforms.{RequestConforms, StoreConforms, IsOf}
use Rattle.typing_spec.specs.Signatures.{bool_type}
use Rattle.typing_spec.specs.Sound.{IsOfType}
use Rattle.typing_spec.specs.Typing.{Typing, types}
use Rattle.link_spec.specs.Laws.{TypedEverywhere, IsConditionFor}
use Rattle.link_spec.proofs.Statics.{env_for, for_request}
use Rattle.reads_spec.specs.Cover.{IsPartOf, restricted}
use Rattle.reads_spec.specs.Reads.{declared_reads, declared_demands}
use Rattle.reads_spec.specs.Restrict.{needed}
use Rattle.reads_spec.specs.Policies.{PoliciesAreCovered}
use Rattle.reads_spec.specs.Reached.{ReachedConforms}
use Rattle.reads_spec.proofs.Reaching.{conform_where_reached as stores_conform, reached_parts}
use Rattle.policy_validate.specs.Accepted.{IsAccepted}
use Rattle.policy_validate.specs.Laws.{AcceptedAreTyped, AcceptedAreSound}
use Rattle.policy_validate.specs.Typed.{typed_conditions}
use Rattle.manifest_computation.specs.Enough.{KeepsOutcomes, IsEnough, OutcomesAreAllowed, SlicesAreEnough}
use Rattle.manifest_computation.specs.Rules.{ReachedConform, KeepRules, KeepReachedRules}
use Rattle.manifest_computation.specs.Slice.{env_of, slice, slice_in}
use Rattle.manifest_computation.proofs.Same.{response_same}
use Rattle.reads_spec.proofs.Order.{part_of_itself}
use Rattle.manifest_computation.proofs.Typed.{Pairs, all_typed_here, pairs_of}

-- ---- outcomes on a store that conforms

module _ (schema : SchemaData) (q : Request) (s : Store) where
  allowed_value : (o : Outcome) → IsOfType bool_type o → IsAllowedOutcome o
  allowed_value (Value (truth b)) h = tt
  allowed_value (Value v) h = absurd h
  allowed_value (Error e) h = h

  allowed_typed : (e : Plain) (o : Option Typing) → IsSomeAnd o (IsCondition q s (eval e q s)) → IsAllowedOutcome (eval e q s)
  allowed_typed e None k = absurd k
  allowed_typed e (Some x) k = allowed_value (eval e q s) k.value

  abbrev TypingIn : Plain → ActionData → Option Typing
  TypingIn e a = types schema (unlinked a (environment (principal_of q).entity_type a.name (resource_of q).entity_type)) [] e

  allowed_in : (e : Plain) (o : Option ActionData) → IsSomeAnd o (λ a. IsSomeAnd (TypingIn e a) (IsCondition q s (eval e q s))) → IsAllowedOutcome (eval e q s)
  allowed_in e None k = absurd k
  allowed_in e (Some a) k = allowed_typed e (TypingIn e a) k

  all_allowed : (ps : List PolicyData) → AllByRecursion (λ p. IsConditionFor schema p.condition q s) ps → AreAllowed ps q s
  all_allowed [] h = tt
  all_allowed (p ∷ ps) h = (allowed_in p.condition (action_at schema (action_of q)) h.0, all_allowed ps h.1)

-- of policies that are accepted, on a store that conforms
allowed_there : AcceptedAreSound → (schema : SchemaData) → IsSchema schema → (policies : PolicySetData) → IsPolicySet policies → AreKeyedOnce policies.policies → IsAccepted schema policies →
    (q : Request) → RequestConforms schema q → (s : Store) → StoreConforms schema s → AreAllowed policies.policies q s
allowed_there sound schema ok policies set once accepted q request s store = all_allowed schema q s policies.policies (sound schema ok policies set once accepted q request s store)

-- in a store that conforms the entities that policies reach conform
pub conform_where_reached : (schema : SchemaData) (ps : List PolicyData) (q : Request) (s : Store) → StoreConforms schema s → ReachedConform schema ps q s
conform_where_reached schema ps q s store = by (env_of schema q)
  where
    by : (o : Option EnvData) → IfSome o (λ env. ReachedConforms schema env (typed_conditions schema env ps) q s)
    by None = tt
    by (Some env) = stores_conform schema env (typed_conditions schema env ps) q s store

-- ---- outcomes on stores between the slice and the whole one

module _ (covered : PoliciesAreCovered) (everywhere : TypedEverywhere) (typed : AcceptedAreTyped) (sound : AcceptedAreSound) where
  module _ (schema : SchemaData) (ok : IsSchema schema) (policies : PolicySetData) (set : IsPolicySet policies) (once : AreKeyedOnce policies.policies) (q : Request) (s : Store) (rules : KeepReachedRules schema policies q s) where
    module _ (a : ActionData) (is : action_at schema (action_of q) ≡ Some a) (of : IsOf schema q (env_for a q)) (pairs : Pairs schema a q policies.policies) where
      part_is : slice schema policies.policies q s ≡ restricted schema (declared_action (env_for a q)) (map (λ p. p.1.tree) pairs.pairs) q s
      part_is =
          ap (λ o. slice_in schema policies.policies q s (option_map (λ a. declared_action (env_for a q)) o)) is
          ∙ ap (λ ts. restricted schema (declared_action (env_for a q)) ts q s) (sym pairs.trees)

      reached : ReachedConforms schema (declared_action (env_for a q)) (map (λ p. p.1.tree) pairs.pairs) q s
      reached =
          subst (λ ts. ReachedConforms schema (declared_action (env_for a q)) ts q s) (sym pairs.trees)
          (subst (λ o. IfSome (option_map (λ a. declared_action (env_for a q)) o) (λ env. ReachedConforms schema env (typed_conditions schema env policies.policies) q s)) is rules.reached)

      covers : KeepsOutcomes policies.policies q (slice schema policies.policies q s) s
      covers t low high =
          subst (λ ps. outcomes ps q t ≡ outcomes ps q s) pairs.policies
          (covered schema ok (env_for a q) q rules.request of s pairs.pairs pairs.accepted reached t (subst (λ r. IsPartOf r t) part_is low) high)

      is_part : IsPartOf (slice schema policies.policies q s) s
      is_part =
          subst (λ r. IsPartOf r s) (sym part_is)
          (needed (declared_reads schema (declared_action (env_for a q)) (map (λ p. p.1.tree) pairs.pairs)) (declared_demands schema (declared_action (env_for a q)) (map (λ p. p.1.tree) pairs.pairs)) q s, refl)

      same : outcomes policies.policies q (slice schema policies.policies q s) ≡ outcomes policies.policies q s
      same = covers (slice schema policies.policies q s) (part_of_itself (slice schema policies.policies q s)) is_part

      -- the outcomes are those on a store in between that conforms
      fine : AreAllowed policies.policies q s
      fine =
          let there = reached_parts schema ok (env_for a q) q rules.request of s (map (λ p. p.1.tree) pairs.pairs) reached in
          subst (AllByRecursion IsAllowedOutcome) (covers there.store (subst (λ r. IsPartOf r there.store) (sym part_is) there.low) there.high)
          (allowed_there sound schema ok policies set once rules.policies q rules.request there.store there.conforms)

      enough_at : IsEnough policies.policies q (slice schema policies.policies q s) s
      enough_at = record {
        is_part = is_part;
        same = same;
        allowed = subst (AllByRecursion IsAllowedOutcome) (sym same) fine;
        decision = response_same policies.policies q (slice schema policies.policies q s) s same;
        covers = covers;
        allowed_between = λ t low high. subst (AllByRecursion IsAllowedOutcome) (sym (covers t low high)) fine;
      }

    -- in the environment of the request, with the typings of the policies there
    in_environment : (P : Type 0) → ((a : ActionData) (is : action_at schema (action_of q) ≡ Some a) (of : IsOf schema q (env_for a q)) (pairs : Pairs schema a q policies.policies) → P) → P
    in_environment P f = for_request schema q rules.request (λ a is applies of.
        f a is of (pairs_of schema a q policies.policies once set.policies (all_typed_here everywhere schema q a is applies policies.policies (typed schema ok policies set rules.policies))))

  pub enough : SlicesAreEnough
  enough schema ok policies set once q s rules = in_environment schema ok policies set once q s rules (IsEnough policies.policies q (slice schema policies.policies q s) s) (enough_at schema ok policies set once q s rules)

  pub allowed : OutcomesAreAllowed
  allowed schema ok policies set once q s rules = in_environment schema ok policies set once q s rules (AreAllowed policies.policies q s) (fine schema ok policies set once q s rules)

-- where every rule holds, they hold where the store is reached
pub where_reached : (schema : SchemaData) (set : PolicySetData) (q : Request) (s : Store) → KeepRules schema set q s → KeepReachedRules schema set q s
where_reached schema set q s rules = record { whole = rules.whole; request = rules.request; reached = conform_where_reached schema set.policies q s rules.store; policies = rules.policies }
