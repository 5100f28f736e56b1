use Rattle.std.proofs.Common.{◌≡◌, drop}
use Rattle.entity_loading.specs.Kept.{some_names}
use Rattle.entity_loading.proofs.kept_ancestors.some_names.Given as goal

abbrev pub invariant-loop-number : goal.invariant-loop-number
invariant-loop-number l = some_names l.named (drop l.number-index l.numbers) l.uid ≡ some_names l.named l.numbers l.uid
