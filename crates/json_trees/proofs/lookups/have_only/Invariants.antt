use Rattle.std.proofs.Common.{◌≡◌, drop, map}
use Rattle.json.specs.Value.{members_view}
use Rattle.json_trees.proofs.Found.{names_only}
use Rattle.json_trees.proofs.lookups.have_only.Given as goal

-- what is left decides
abbrev pub invariant-loop-member : goal.invariant-loop-member
invariant-loop-member l = names_only (map (λ s. s.now) l.names) (members_view (drop l.member-index l.member-items)) ≡ names_only (map (λ s. s.now) l.names) (members_view l.member-items)
