-- Accepted policies have types in the environment of a request that conforms.
use Rattle.std.proofs.Common.{◌≡◌, ℕ, suc, length, List, [], ◌∷◌, map, Option, Some, None, IsTrue, IfSome, IsSomeAnd, option_map, refl, sym, ap, ◌∙◌, subst}
use Rattle.std.specs.List.{AllByRecursion, cons_option}
use Rattle.policy_values.specs.Reaches.{has}
use Rattle.policy_values.specs.Uid.{text_cmp}
use Rattle.policy_expressions.specs.Keys.{HasKeysOnce}
use Rattle.policy_expressions.specs.Plain.{Plain}
use Rattle.entity_store.specs.declared.request.Request.{Request}
use Rattle.entity_store.specs.Request.{principal_of, action_of, resource_of}
use Rattle.schema_core.specs.Environments.{environment}
use Rattle.schema_core.specs.EnvData.{EnvData, declared_action, unlinked, unlinked_envs}
use Rattle.schema_core.specs.Schema.{ActionData, SchemaData, action_at}
use Rattle.policy_set.specs.Condition.{IsPolicy}
use Rattle.policy_set.specs.Data.{PolicyData}
use Rattle.typing_spec.specs.Conforms.{Applies, RequestConforms}
use Rattle.typing_spec.specs.Operands.{is_boolean}
use Rattle.typing_spec.specs.Typing.{Typing, types}
use Rattle.link_spec.specs.Accepted.{IsTyped, IsTypedIn}
use Rattle.link_spec.specs.Laws.{TypedEverywhere}
use Rattle.link_spec.proofs.Statics.{env_for, for_request}
use Rattle.reads_spec.specs.Policies.{PolicyHasTyping}
use Rattle.policy_validate.specs.Typed.{typed_conditions}
use Rattle.manifest_computation.specs.Slice.{env_of}

module _ (everywhere : TypedEverywhere) (schema : SchemaData) (q : Request) (a : ActionData) (is : action_at schema (action_of q) ≡ Some a) (applies : Applies schema q a) where
  -- a condition that has a type everywhere has one in the environment of the request
  typed_here : (x : Plain) → IsTypedIn schema x (unlinked_envs schema) → IsTyped schema x (declared_action (env_for a q))
  typed_here x typed =
      subst (λ o. IfSome o (λ b. (p r : List ℕ) → IsTrue (has text_cmp b.principals p) → IsTrue (has text_cmp b.resources r) → IsTyped schema x (unlinked b (environment p b.name r)))) is
      (everywhere schema x typed (action_of q)) (principal_of q).entity_type (resource_of q).entity_type applies.principal applies.resource

  pub all_typed_here : (ps : List PolicyData) → AllByRecursion (λ p. IsTypedIn schema p.condition (unlinked_envs schema)) ps → AllByRecursion (λ p. IsTyped schema p.condition (declared_action (env_for a q))) ps
  all_typed_here [] h = tt
  all_typed_here (p ∷ ps) h = (typed_here p.condition h.0, all_typed_here ps h.1)

module _ (schema : SchemaData) (a : ActionData) (q : Request) where
  abbrev TypingOf : PolicyData → Option Typing
  TypingOf p = types schema (declared_action (env_for a q)) [] p.condition

  -- the policies, each with its typing
  pub record Pairs (ps : List PolicyData) : Type 0 where
    pub pairs : List (PolicyData × Typing)
    pub policies : map (λ p. p.0) pairs ≡ ps
    pub trees : map (λ p. p.1.tree) pairs ≡ typed_conditions schema (declared_action (env_for a q)) ps
    pub accepted : AllByRecursion (PolicyHasTyping schema (env_for a q)) pairs

  cons_pair : (p : PolicyData) (ps : List PolicyData) → HasKeysOnce p.condition → IsPolicy p → IsTyped schema p.condition (declared_action (env_for a q)) → Pairs ps → Pairs (p ∷ ps)
  cons_pair p ps once policy typed rest = by (TypingOf p) refl typed
    where
      by : (o : Option Typing) → TypingOf p ≡ o → IsSomeAnd o (λ x. IsTrue (is_boolean x.type)) → Pairs (p ∷ ps)
      by None e h = absurd h
      by (Some x) e h = record {
        pairs = (p, x) ∷ rest.pairs;
        policies = ap (λ l. p ∷ l) rest.policies;
        trees = λ i. cons_option (option_map (λ a. a.tree) (sym e i)) (rest.trees i);
        accepted = (record { filled = policy.no_slot; keys = once; typed = e; boolean = h }, rest.accepted);
      }

  pub pairs_of : (ps : List PolicyData) → AllByRecursion (λ p. HasKeysOnce p.condition) ps → AllByRecursion IsPolicy ps → AllByRecursion (λ p. IsTyped schema p.condition (declared_action (env_for a q))) ps → Pairs ps
  pairs_of [] once policies typed = record { pairs = []; policies = refl; trees = refl; accepted = tt }
  pairs_of (p ∷ ps) once policies typed = cons_pair p ps once.0 policies.0 typed.0 (pairs_of ps once.1 policies.1 typed.1)

-- where all have types in the environment of the request, that is so in the one that it is
pub all_typed_in : (everywhere : TypedEverywhere) (schema : SchemaData) (q : Request) (env : EnvData) → RequestConforms schema q → env_of schema q ≡ Some env → (ps : List PolicyData) → AllByRecursion (λ p. IsTypedIn schema p.condition (unlinked_envs schema)) ps →
    AllByRecursion (λ p. IsTyped schema p.condition env) ps
all_typed_in everywhere schema q env conforms is ps typed =
    for_request schema q conforms (λ a at applies of.
    let same : declared_action (env_for a q) ≡ env = cc (sym (ap (option_map (λ b. declared_action (env_for b q))) at) ∙ is) in
    subst (λ e. AllByRecursion (λ p. IsTyped schema p.condition e) ps) same (all_typed_here everywhere schema q a at applies ps typed))

-- where each condition has a type, none is left out
pub each_typed : (schema : SchemaData) (env : EnvData) (ps : List PolicyData) → AllByRecursion (λ p. IsTyped schema p.condition env) ps → length (typed_conditions schema env ps) ≡ length ps
each_typed schema env [] h = refl
each_typed schema env (p ∷ ps) h = by (types schema env [] p.condition) h.0 (each_typed schema env ps h.1)
  where
    by : (o : Option Typing) → IsSomeAnd o (λ x. IsTrue (is_boolean x.type)) → length (typed_conditions schema env ps) ≡ length ps →
        length (cons_option (option_map (λ a. a.tree) o) (typed_conditions schema env ps)) ≡ suc (length ps)
    by None e k = absurd e
    by (Some x) e k = ap suc k
