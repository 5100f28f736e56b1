-- A policy without risks in any environment never ends with an error.
use Rattle.std.proofs.Common.{◌≡◌, ℕ, zero, suc, arith, ◌+◌, ◌<◌, ◌≤◌, nat_eq, Bool, true, ◌&&◌, List, [], ◌∷◌, map, length, drop, get_or, Option, Some, None, IfSome, IsSomeAnd, IsTrue, refl, sym, ap, subst, ◌∙◌}
use Rattle.std.specs.List.{AllByRecursion}
use Rattle.std.proofs.lemmas.List.{at_drop_more, at_drop_all}
use Rattle.std.proofs.lemmas.Map.Views.{exact_unsigned_eq}
use Rattle.plain_lemmas.proofs.Booleans.{and_parts_of}
use Rattle.plain_lemmas.proofs.Lists.{all_weaker}
use Rattle.entity_store.specs.declared.request.Request.{Request}
use Rattle.entity_store.specs.Request.{principal_of, action_of, resource_of}
use Rattle.entity_store.specs.Store.{Store}
use Rattle.policy_values.specs.Reaches.{has}
use Rattle.policy_values.specs.Uid.{text_cmp}
use Rattle.schema_core.specs.EnvData.{EnvData, declared_action, unlinked, unlinked_of, unlinked_envs}
use Rattle.schema_core.specs.Environments.{environment, environments_of}
use Rattle.schema_core.specs.Faults.{IsSchema}
use Rattle.schema_core.specs.RequestEnvs.{env_data_of}
use Rattle.schema_core.specs.Schema.{SchemaData}
use Rattle.schema_core.specs.declared.request_env.RequestEnv.{RequestEnv}
use Rattle.policy_core.specs.Eval.{eval}
use Rattle.policy_expressions.specs.Keys.{HasKeysOnce}
use Rattle.policy_expressions.specs.Tree.{var, Mark}
use Rattle.policy_expressions.specs.declared.kinds.Var.TheVariants.{Principal, Resource}
use Rattle.policy_set.specs.Condition.{IsPolicy}
use Rattle.policy_set.specs.Data.{PolicyData}
use Rattle.typing_spec.specs.Operands.{is_boolean}
use Rattle.typing_spec.specs.Typing.{Typed, Typing, types}
use Rattle.schema_types.specs.Ty.{Ty}
use Rattle.link_spec.proofs.Links.{from_each, from_mapped}
use Rattle.link_spec.proofs.Statics.{env_for, everywhere, for_request}
use Rattle.condition_risks.specs.Expected.{AreStored, IsTruthValue, WithoutRisks, IsSureWithoutRisks}
use Rattle.condition_risks.specs.Risks.{risks}
use Rattle.policy_risks.specs.Closed.{Holds, IsClosed, IsClosedIn}
use Rattle.policy_risks.specs.Typed.{IsTypedAs, stored_by}
use Rattle.policy_risks.specs.declared.endings.Assumed.{Assumed}
use Rattle.policy_risks.specs.declared.endings.Assumed.TheVariants.{Nothing, PrincipalAndResource}

pub nothing_there : {X : Type 0} (xs : List X) (n : ℕ) → n ≡ length xs → nat_eq n 0 ≡ true → xs ≡ []
nothing_there [] n is h = refl
nothing_there (x ∷ xs) n is h = let none : n ≡ 0 = exact_unsigned_eq n 0 h in absurd (omega arith)

-- what is assumed is stored
are_stored : (a : Assumed) (m n : Mark (Option Ty)) (q : Request) (s : Store) → Holds a q s → AreStored q s (stored_by a (var Principal m) (var Resource n))
are_stored Nothing m n q s h = λ k d below. absurd (omega arith)
are_stored PrincipalAndResource m n q s h = both
  where
    both : AreStored q s (var Principal m ∷ var Resource n ∷ [])
    both zero d below = h.principal
    both (suc zero) d below = h.resource
    both (suc (suc k)) d below = absurd (omega arith)

pub closed_in : WithoutRisks → (schema : SchemaData) → IsSchema schema → (env : EnvData) (p : PolicyData) → IsPolicy p → HasKeysOnce p.condition →
    (t : Typed) → IsTypedAs schema env p.condition t → (a : Assumed) (m n : Mark (Option Ty)) → risks (stored_by a (var Principal m) (var Resource n)) [] t ≡ [] → IsClosedIn schema env a p
closed_in without schema ok env p is keyed t typed a m n none e same q conforms of s stored h =
    by (types schema (declared_action e) [] p.condition) (without schema ok e q conforms of s stored p.condition is.no_slot keyed) (subst (λ v. IsTypedAs schema v p.condition t) same typed)
  where
    known : List Typed
    known = stored_by a (var Principal m) (var Resource n)

    by : (o : Option Typing) → IfSome o (IsSureWithoutRisks q s p.condition) → IsSomeAnd o (λ x. IsTrue (is_boolean x.type) × (x.tree ≡ t)) → IsTruthValue (eval p.condition q s)
    by None f k = absurd k
    by (Some x) f k = f k.0 known (are_stored a m n q s h) (ap (λ u. risks known [] u) k.1 ∙ none)

-- ---- in all environments

module _ (schema : SchemaData) (a : Assumed) (p : PolicyData) where
  abbrev pub In : EnvData → Type 0
  In env = IsClosedIn schema env a p

  pub closed_everywhere : AllByRecursion In (unlinked_envs schema) → IsClosed schema a p
  closed_everywhere all q conforms s stored h =
      for_request schema q conforms (λ d is applies of.
      subst (λ o. IfSome o (λ d. (m n : List ℕ) → IsTrue (has text_cmp d.principals m) → IsTrue (has text_cmp d.resources n) → In (unlinked d (environment m d.name n)))) is
      (everywhere schema (λ d e. In (unlinked d e)) of_actions (action_of q))
      (principal_of q).entity_type (resource_of q).entity_type applies.principal applies.resource
      (env_for d q) refl q conforms of s stored h)
    where
      of_actions : AllByRecursion (λ d. AllByRecursion (λ e. In (unlinked d e)) (environments_of d)) schema.action_ids
      of_actions = all_weaker {P = λ d. AllByRecursion In (unlinked_of d)} (λ d k. from_mapped In (unlinked d) (environments_of d) k) schema.action_ids (from_each In unlinked_of schema.action_ids all)

  module _ (items : List RequestEnv) where
    abbrev envs : List RequestEnv → List EnvData
    envs rs = map env_data_of rs

    -- where it is closed so far and in what is left, it is closed in all
    pub record IsPassed (i : ℕ) (closed : Bool) : Type 0 where
      pub on : closed ≡ true → AllByRecursion In (envs (drop i items)) → AllByRecursion In (envs items)

    pub begun : IsPassed 0 true
    begun = record { on = λ _ h. h }

    pub one_more : (i : ℕ) (r : RequestEnv) → r ≡ get_or items i r → i < length items → (closed here : Bool) → (here ≡ true → In (env_data_of r)) → IsPassed i closed → IsPassed (i + 1) (closed && here)
    one_more i r is lt closed here f passed = record {
      on = λ e h.
          let both = and_parts_of closed here e in
          let there : envs (drop i items) ≡ env_data_of r ∷ envs (drop (i + 1) items) = at_drop_more envs items i r lt ∙ ap (λ x. env_data_of x ∷ envs (drop (i + 1) items)) (sym is) in
          passed.on both.0 (subst (AllByRecursion In) (sym there) (f both.1, h));
    }

    pub ended : (i : ℕ) (closed : Bool) → length items ≤ i → IsPassed i closed → closed ≡ true → AllByRecursion In (envs items)
    ended i closed le passed e = passed.on e (subst (AllByRecursion In) (sym (at_drop_all envs items i le)) tt)
