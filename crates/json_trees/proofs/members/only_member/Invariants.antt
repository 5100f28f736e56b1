use Rattle.std.proofs.Common.{◌≡◌, drop}
use Rattle.json.specs.Value.{members_view}
use Rattle.serde_json.specs.Data.{no_members}
use Rattle.json_trees.specs.Trees.{members_data}
use Rattle.json_trees.proofs.Named.{lone}
use Rattle.json_trees.proofs.members.only_member.Given as goal

-- with the one so far, the members that are left give all
abbrev pub invariant-loop-member : goal.invariant-loop-member
invariant-loop-member l = members_data (members_view (drop l.member-index l.member-items)) (lone l.only) ≡ members_data (members_view l.member-items) no_members
