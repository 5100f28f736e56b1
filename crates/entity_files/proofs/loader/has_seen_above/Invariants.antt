use Rattle.std.proofs.Common.{◌≡◌}
use Rattle.std.specs.BTreeSet.{contains}
use Rattle.std.specs.List.{list_all}
use Rattle.policy_values.specs.Uid.{uid_cmp}
use Rattle.entity_files.proofs.loader.has_seen_above.Given as goal

-- what is left has the answer of the whole
abbrev pub invariant-loop-above : goal.invariant-loop-above
invariant-loop-above l = list_all (contains uid_cmp l.seen) l.above-iterator ≡ list_all (contains uid_cmp l.seen) l.entity.ancestors
