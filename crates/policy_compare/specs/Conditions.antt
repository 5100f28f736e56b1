-- Conditions of policies, and what they say.
use Rattle.std.specs.Prelude.{◌≡◌, Bool, true, false, not, ◌&&◌, List, [], ◌∷◌, IsSomeAnd}
use Rattle.entity_store.specs.declared.request.Request.{Request}
use Rattle.entity_store.specs.Store.{Store}
use Rattle.schema_core.specs.EnvData.{EnvData}
use Rattle.schema_core.specs.Schema.{SchemaData}
use Rattle.policy_core.specs.Eval.{eval}
use Rattle.policy_expressions.specs.Plain.{Plain}
use Rattle.policy_expressions.specs.Shape.{SameShape}
use Rattle.policy_set.specs.Data.{PolicyData}
use Rattle.policy_set.specs.PolicySet.{PolicySetData, policy_at}
use Rattle.policy_set.specs.Response.{outcome}
use Rattle.policy_set.specs.declared.constraint.Effect.{Effect}
use Rattle.policy_set.specs.declared.constraint.Effect.TheVariants.{Permit, Forbid}
use Rattle.typing_spec.specs.Conforms.{RequestConforms, StoreConforms}
use Rattle.typing_spec.specs.Typing.{Typed}
use Rattle.condition_truth.specs.Outlined.{AreSides, asked_of}
use Rattle.condition_truth.specs.Outlines.{outline}
use Rattle.condition_truth.specs.Truth.{is_yes}
use Rattle.condition_compare.specs.declared.condition.Condition.{Condition}
use Rattle.policy_compare.specs.Compared.{IsOfEnvironment}

abbrev pub is_permit : Effect → Bool
is_permit Permit = true
is_permit Forbid = false

module _ (q : Request) (s : Store) where
  -- whether the policy permits, and whether it forbids
  abbrev pub permits_there : PolicyData → Bool
  permits_there p = is_permit p.effect && is_yes (outcome p q s)

  abbrev pub forbids_there : PolicyData → Bool
  forbids_there p = not (is_permit p.effect) && is_yes (outcome p q s)

-- the other set has the policy, too: one of its id with its effect, and with a condition of its shape
abbrev pub IsShared : PolicySetData → PolicyData → Type 0
IsShared others p =
    IsSomeAnd (policy_at others p.id) (λ r. (r.effect ≡ p.effect) × SameShape p.condition r.condition)

module _ (schema : SchemaData) (env : EnvData) where
  -- on every request of the environment and every store, where both conform, the typed condition is true where
  -- the expression is, and false where that is
  abbrev pub HasSidesOf : Plain → Typed → Type 0
  HasSidesOf e t = (q : Request) → RequestConforms schema q → IsOfEnvironment schema env q →
      (s : Store) → StoreConforms schema s → AreSides (eval e q s) (outline (asked_of q s) t)

  -- so is the condition where that of the policy is
  pub record IsConditionOf (p : PolicyData) (c : Condition) : Type 0 where
    pub permits : c.permits ≡ is_permit p.effect
    pub same : HasSidesOf p.condition c.typed

  -- the conditions are those of the policies, in their order, but for some that the other set has, too
  pub data AreConditionsBut (others : PolicySetData) : List PolicyData → List Condition → Type 0 where
    none : AreConditionsBut others [] []
    shared : {p : PolicyData} {ps : List PolicyData} {cs : List Condition} → IsShared others p →
        AreConditionsBut others ps cs → AreConditionsBut others (p ∷ ps) cs
    own : {p : PolicyData} {c : Condition} {ps : List PolicyData} {cs : List Condition} → IsConditionOf p c →
        AreConditionsBut others ps cs → AreConditionsBut others (p ∷ ps) (c ∷ cs)
