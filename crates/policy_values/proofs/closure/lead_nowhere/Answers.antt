use Rattle.std.proofs.Common.{inl, inr}
use Rattle.std.proofs.lemmas.List.{nil_from_length}
use Rattle.policy_values.proofs.Closed.{first_or_behind}
use Rattle.policy_values.proofs.closure.lead_nowhere.Goals as goal

pub loop-key-preserved : goal.loop-key-preserved
loop-key-preserved g c = λ m within. elim (c.loop-key.invariant m within) [
  | inl left ↦ elim (first_or_behind _ _ m (rw c.in-Some.ensures.steps at left)) [
    | inl here ↦ inr (rw (← here, ← c.in-Some-get.ensures.value) (nil_from_length c.in-Some-get.set.now.keys (rw c.as_set.ensures at (c.is_empty.ensures.0 c.if-is_empty.true))))
    | inr behind ↦ inl behind
  ]
  | inr empty ↦ inr empty
]
