-- The response to a request, from the outcomes of the policies' conditions.
use Rattle.std.specs.Prelude.{ℕ, true, List, [], ◌∷◌, refl}
use Rattle.std.specs.Coded.{Coded, coded_ℕ, coded_list, coded×, code_by}
use Rattle.policy_values.specs.Value.{truth}
use Rattle.entity_store.specs.Store.{Store}
use Rattle.entity_store.specs.declared.request.Request.{Request}
use Rattle.policy_core.specs.Eval.{eval}
use Rattle.policy_core.specs.declared.outcome.Outcome.{Outcome}
use Rattle.policy_core.specs.declared.outcome.Outcome.TheVariants.{Value, Error}
use Rattle.policy_set.specs.declared.constraint.Effect.{Effect}
use Rattle.policy_set.specs.declared.constraint.Effect.TheVariants.{Permit, Forbid}
use Rattle.policy_set.specs.Data.{PolicyData}
use Rattle.policy_set.specs.declared.response.Decision.{Decision}
use Rattle.policy_set.specs.declared.response.Decision.TheVariants.{Allow, Deny}
use Rattle.policy_set.specs.declared.response.PolicyFailure.{PolicyFailure}
use Rattle.policy_set.specs.contracts.response.Decision.{the_row as decision_row}
use Rattle.policy_set.specs.contracts.response.PolicyFailure.{the_row as failure_row}

-- the decision, the ids of the policies that led to it, and the policies that have no truth value
pub record ResponseData : Type 0 where
  pub decision : Decision
  pub reasons : List (List ℕ)
  pub errors : List PolicyFailure

abbrev pub coded_response : Coded ResponseData
coded_response =
    code_by (Decision × (List (List ℕ) × List PolicyFailure))
    (coded× decision_row.coded (coded× (coded_list (coded_list coded_ℕ)) (coded_list failure_row.coded)))
    (λ r. (r.decision, (r.reasons, r.errors)))
    (λ p. record { decision = p.0; reasons = p.1.0; errors = p.1.1 })
    (λ _. refl)

-- the outcome of a policy is that of its condition
abbrev pub outcome : PolicyData → Request → Store → Outcome
outcome p q s = eval p.condition q s

-- the outcomes of all policies, in their order
abbrev pub outcomes : List PolicyData → Request → Store → List Outcome
outcomes [] q s = []
outcomes (p ∷ ps) q s = outcome p q s ∷ outcomes ps q s

-- the id before it, where the outcome is true
abbrev pub if_true : Outcome → List ℕ → List (List ℕ) → List (List ℕ)
if_true (Value (truth true)) id ids = id ∷ ids
if_true o id ids = ids

-- the first where the policy permits, the second where it forbids
abbrev pub if_permit : {X : Type 0} → Effect → X → X → X
if_permit Permit x y = x
if_permit Forbid x y = y

abbrev pub if_error : Outcome → List ℕ → List PolicyFailure → List PolicyFailure
if_error (Error e) id fs = record { id = id; error = e } ∷ fs
if_error (Value v) id fs = fs

module _ (q : Request) (s : Store) where
  -- the permits that are true
  abbrev pub true_permits : List PolicyData → List (List ℕ)
  true_permits [] = []
  true_permits (p ∷ ps) =
      if_permit p.effect (if_true (outcome p q s) p.id (true_permits ps)) (true_permits ps)

  -- the forbids that are true
  abbrev pub true_forbids : List PolicyData → List (List ℕ)
  true_forbids [] = []
  true_forbids (p ∷ ps) =
      if_permit p.effect (true_forbids ps) (if_true (outcome p q s) p.id (true_forbids ps))

  -- the policies that have no value: they are skipped, and listed
  abbrev pub failures : List PolicyData → List PolicyFailure
  failures [] = []
  failures (p ∷ ps) = if_error (outcome p q s) p.id (failures ps)

-- Allow, for the true permits, where there is one and no true forbid; else Deny, for the true forbids
abbrev pub decided : List (List ℕ) → List (List ℕ) → List PolicyFailure → ResponseData
decided [] forbids errors = record { decision = Deny; reasons = forbids; errors = errors }
decided (p ∷ ps) [] errors = record { decision = Allow; reasons = p ∷ ps; errors = errors }
decided (p ∷ ps) (f ∷ fs) errors = record { decision = Deny; reasons = f ∷ fs; errors = errors }

abbrev pub response : List PolicyData → Request → Store → ResponseData
response ps q s = decided (true_permits q s ps) (true_forbids q s ps) (failures q s ps)
