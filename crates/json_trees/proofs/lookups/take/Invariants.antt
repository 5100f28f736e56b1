use Rattle.std.proofs.Common.{◌≡◌, ◌≤◌, length, take}
use Rattle.json.specs.Find.{get_member}
use Rattle.json.specs.Value.{members_view}
use Rattle.json_trees.proofs.lookups.take.Given as goal

-- the members before the index decide
abbrev pub invariant-loop-index : goal.invariant-loop-index
invariant-loop-index l = record {
  same : l.members ≡ l.fn.members;
  within : l.index ≤ length l.members.items;
  decide : get_member l.name (members_view (take l.index l.members.items)) ≡ get_member l.name (members_view l.members.items);
}

abbrev pub decreases-loop-index : goal.decreases-loop-index
decreases-loop-index l = l.index
