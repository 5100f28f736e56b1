use Rattle.std.proofs.Common.{vec_len}
use Rattle.std.specs.BTreeMap.{get}
use Rattle.policy_values.specs.Uid.{text_cmp}
use Rattle.table_loader.proofs.Entries.{IsFilling}
use Rattle.table_loader.proofs.entities.map_of.Given as goal

abbrev pub invariant-loop-key : goal.invariant-loop-key
invariant-loop-key l = IsFilling l.fn.entries.items l.entries.items (get text_cmp l.map)

abbrev pub decreases-loop-key : goal.decreases-loop-key
decreases-loop-key l = vec_len l.entries
