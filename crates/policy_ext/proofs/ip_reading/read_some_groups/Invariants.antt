use Rattle.std.proofs.Common.{◌≡◌, length}
use Rattle.std.specs.List.{slice_split}
use Rattle.policy_ext.specs.IpReading.{groups_after, is_colon, no_groups}
use Rattle.policy_ext.proofs.ip_reading.read_some_groups.Given as goal

abbrev pub invariant-loop-piece : goal.invariant-loop-piece
invariant-loop-piece l = groups_after l.read (slice_split is_colon l.rest) ≡ groups_after no_groups (slice_split is_colon l.text)

abbrev pub decreases-loop-piece : goal.decreases-loop-piece
decreases-loop-piece l = length l.rest
