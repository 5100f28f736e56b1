use Rattle.std.proofs.Common.{◌≡◌, true, drop}
use Rattle.policy_values.specs.Value.{vals_of}
use Rattle.reads_spec.specs.Restrict.{lists_id}
use Rattle.entity_loading.specs.Waiting.{Has}
use Rattle.entity_loading.proofs.NameSteps.{IsNaming}
use Rattle.entity_loading.proofs.names.add_ids.Given as goal

abbrev pub invariant-loop-value : goal.invariant-loop-value
invariant-loop-value l = IsNaming (λ y. lists_id y (vals_of l.values.items) ≡ true) (λ y. lists_id y (vals_of (drop l.value-index l.value-items)) ≡ true) (Has l.fn.ids) (Has l.ids)
