-- What a row says never of is never true.
use Rattle.std.proofs.Common.{◌≡◌, refl, List, [], ◌∷◌, Option, Some, None, IsSomeAnd, sym, subst, inl, inr}
use Rattle.std.specs.Option.{option_map, option_map_or}
use Rattle.std.specs.List.{AllByRecursion}
use Rattle.entity_store.specs.declared.request.Request.{Request}
use Rattle.entity_store.specs.Request.{principal_of, action_of, resource_of}
use Rattle.entity_store.specs.Store.{Store}
use Rattle.schema_types.specs.Ty.{Ty, never, true_type, false_type, primitive, any_set, set_of, record_of, any_entity, entity, action, extension}
use Rattle.schema_core.specs.EnvData.{EnvData, unlinked}
use Rattle.schema_core.specs.Environments.{environment}
use Rattle.schema_core.specs.Schema.{ActionData, SchemaData, action_at}
use Rattle.policy_core.specs.Eval.{eval}
use Rattle.policy_expressions.specs.Plain.{Plain}
use Rattle.typing_spec.specs.Conditions.{IsCondition}
use Rattle.typing_spec.specs.Sound.{IsTruth}
use Rattle.typing_spec.specs.Typing.{Typing, types}
use Rattle.link_spec.specs.Laws.{IsConditionFor}
use Rattle.reads_spec.specs.Among.{IsIn}
use Rattle.policy_typecheck.specs.Verdict.{verdict_by, verdict_of}
use Rattle.policy_typecheck.specs.declared.verdict.Verdict.TheVariants.{Never, May}
use Rattle.policy_validate.specs.Laws.{AcceptedAreSound}
use Rattle.manifest_computation.specs.Environments.{EnvironmentsAreOfTypes}
use Rattle.policy_review.specs.Laws.{NeverIsNeverTrue}
use Rattle.plain_lemmas.proofs.Options.{some_injective}

pub at_each : {X : Type 0} (P : X → Type 0) (xs : List X) → AllByRecursion P xs → (x : X) → IsIn x xs → P x
at_each P [] h x i = absurd i
at_each P (y ∷ ys) h x (inl e) = subst P e h.0
at_each P (y ∷ ys) h x (inr i) = at_each P ys h.1 x i

false_is : (t : Ty) → verdict_by t ≡ Never → t ≡ false_type
false_is false_type h = refl
false_is never h = absurd (cc)
false_is true_type h = absurd (cc)
false_is (primitive p) h = absurd (cc)
false_is any_set h = absurd (cc)
false_is (set_of u) h = absurd (cc)
false_is (record_of xs o) h = absurd (cc)
false_is any_entity h = absurd (cc)
false_is (entity ns) h = absurd (cc)
false_is (action n xs) h = absurd (cc)
false_is (extension n) h = absurd (cc)

module _ (q : Request) (s : Store) (e : Plain) where
  never_true : (o : Option Typing) → option_map_or (λ x. verdict_by x.type) o May ≡ Never → IsSomeAnd o (IsCondition q s (eval e q s)) → IsTruth (eval e q s) → ⊥
  never_true None h k = absurd k
  never_true (Some x) h k = k.not_true (false_is x.type h)

  module _ (schema : SchemaData) (env : EnvData) (says : verdict_of schema e env ≡ Never) where
    abbrev env_with : ActionData → EnvData
    env_with a = unlinked a (environment (principal_of q).entity_type a.name (resource_of q).entity_type)

    in_environment : (o : Option ActionData) → option_map env_with o ≡ Some env →
        IsSomeAnd o (λ a. IsSomeAnd (types schema (env_with a) [] e) (IsCondition q s (eval e q s))) → IsTruth (eval e q s) → ⊥
    in_environment None is h = absurd h
    in_environment (Some a) is h =
        never_true (types schema (env_with a) [] e) (subst (λ v. verdict_of schema e v ≡ Never) (sym (some_injective is)) says) h

pub never_never_true : AcceptedAreSound → EnvironmentsAreOfTypes → NeverIsNeverTrue
never_never_true sound of_types schema valid s set once accepted p i env among says q conforms t typed has store stored =
    in_environment q store p.condition schema env says (action_at schema (action_of q)) (of_types schema valid env among q t typed has)
    (at_each (λ p. IsConditionFor schema p.condition q store) s.policies (sound schema valid s set once accepted q conforms store stored) p i)
