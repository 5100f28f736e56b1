-- The decision, by whether some policy permits and whether some policy forbids.
use Rattle.std.proofs.Common.{◌≡◌, ℕ, Bool, true, false, not, ◌&&◌, ◌||◌, List, [], ◌∷◌, refl, sym, ap, ◌∙◌}
use Rattle.std.specs.List.{list_any}
use Rattle.plain_lemmas.proofs.Booleans.{and_parts_of}
use Rattle.policy_values.specs.Value.{truth}
use Rattle.entity_store.specs.declared.request.Request.{Request}
use Rattle.entity_store.specs.Store.{Store}
use Rattle.policy_core.specs.declared.outcome.Outcome.{Outcome}
use Rattle.policy_core.specs.declared.outcome.Outcome.TheVariants.{Value, Error}
use Rattle.policy_set.specs.Data.{PolicyData}
use Rattle.policy_set.specs.Response.{outcome, if_true, if_permit, true_permits, true_forbids, failures, decided, response}
use Rattle.policy_set.specs.declared.constraint.Effect.{Effect}
use Rattle.policy_set.specs.declared.constraint.Effect.TheVariants.{Permit, Forbid}
use Rattle.policy_set.specs.declared.response.Decision.TheVariants.{Allow}
use Rattle.policy_set.specs.declared.response.PolicyFailure.{PolicyFailure}
use Rattle.condition_truth.specs.Truth.{is_yes}
use Rattle.policy_compare.specs.Conditions.{is_permit, permits_there, forbids_there}

abbrev is_nil : {X : Type 0} → List X → Bool
is_nil [] = true
is_nil (x ∷ xs) = false

one_true : (o : Outcome) (id : List ℕ) (ids : List (List ℕ)) (b : Bool) → is_nil ids ≡ not b → is_nil (if_true o id ids) ≡ not (is_yes o || b)
one_true (Value (truth true)) id ids b h = refl
one_true (Value (truth false)) id ids b h = h
one_true (Value v) id ids b h = h
one_true (Error e) id ids b h = h

one_permit : (e : Effect) (o : Outcome) (id : List ℕ) (ids : List (List ℕ)) (b : Bool) → is_nil ids ≡ not b → is_nil (if_permit e (if_true o id ids) ids) ≡ not ((is_permit e && is_yes o) || b)
one_permit Permit o id ids b h = one_true o id ids b h
one_permit Forbid o id ids b h = h

one_forbid : (e : Effect) (o : Outcome) (id : List ℕ) (ids : List (List ℕ)) (b : Bool) → is_nil ids ≡ not b → is_nil (if_permit e ids (if_true o id ids)) ≡ not ((not (is_permit e) && is_yes o) || b)
one_forbid Permit o id ids b h = h
one_forbid Forbid o id ids b h = one_true o id ids b h

allow_back : (xs ys : List (List ℕ)) (fs : List PolicyFailure) → (decided xs ys fs).decision ≡ Allow → (is_nil xs ≡ false) × (is_nil ys ≡ true)
allow_back [] ys fs h = absurd (cc)
allow_back (x ∷ xs) [] fs h = (refl, refl)
allow_back (x ∷ xs) (y ∷ ys) fs h = absurd (cc)

allow_on : (xs ys : List (List ℕ)) (fs : List PolicyFailure) → is_nil xs ≡ false → is_nil ys ≡ true → (decided xs ys fs).decision ≡ Allow
allow_on [] ys fs h k = absurd (cc)
allow_on (x ∷ xs) [] fs h k = refl
allow_on (x ∷ xs) (y ∷ ys) fs h k = absurd (cc)

true_of_not : (b : Bool) → not b ≡ false → b ≡ true
true_of_not true h = refl
true_of_not false h = cc

module _ (q : Request) (s : Store) where
  permits_nil : (ps : List PolicyData) → is_nil (true_permits q s ps) ≡ not (list_any (permits_there q s) ps)
  permits_nil [] = refl
  permits_nil (p ∷ ps) = one_permit p.effect (outcome p q s) p.id (true_permits q s ps) (list_any (permits_there q s) ps) (permits_nil ps)

  forbids_nil : (ps : List PolicyData) → is_nil (true_forbids q s ps) ≡ not (list_any (forbids_there q s) ps)
  forbids_nil [] = refl
  forbids_nil (p ∷ ps) = one_forbid p.effect (outcome p q s) p.id (true_forbids q s ps) (list_any (forbids_there q s) ps) (forbids_nil ps)

  pub allowed_back : (ps : List PolicyData) → (response ps q s).decision ≡ Allow → list_any (permits_there q s) ps && not (list_any (forbids_there q s) ps) ≡ true
  allowed_back ps h =
      let k = allow_back (true_permits q s ps) (true_forbids q s ps) (failures q s ps) h in
      λ i. true_of_not (list_any (permits_there q s) ps) (sym (permits_nil ps) ∙ k.0) i && (sym (forbids_nil ps) ∙ k.1) i

  pub allowed_on : (ps : List PolicyData) → list_any (permits_there q s) ps && not (list_any (forbids_there q s) ps) ≡ true → (response ps q s).decision ≡ Allow
  allowed_on ps h =
      let k = and_parts_of (list_any (permits_there q s) ps) (not (list_any (forbids_there q s) ps)) h in
      allow_on (true_permits q s ps) (true_forbids q s ps) (failures q s ps) (permits_nil ps ∙ ap not k.0) (forbids_nil ps ∙ k.1)
