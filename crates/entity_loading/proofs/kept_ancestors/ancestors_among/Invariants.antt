use Rattle.std.proofs.Common.{◌≡◌, ◌++◌}
use Rattle.std.specs.List.{filter}
use Rattle.entity_loading.specs.Kept.{some_names}
use Rattle.entity_loading.proofs.kept_ancestors.ancestors_among.Given as goal

abbrev pub invariant-loop-uid : goal.invariant-loop-uid
invariant-loop-uid l = l.ids.keys ++ filter (some_names l.named l.numbers) l.uid-iterator ≡ filter (some_names l.named l.numbers) l.entity.ancestors
