use Rattle.std.proofs.Common.{◌≡◌, ◌<◌, All, drop, length}
use Rattle.std.specs.Map.{values_of}
use Rattle.json.specs.Value.{members_view}
use Rattle.serde_json.specs.Data.{no_members}
use Rattle.json_trees.specs.Places.{placed_view}
use Rattle.json_trees.specs.Trees.{members_data}
use Rattle.json_trees.proofs.members.member_places.Given as goal

-- with those so far, the members that are left give all; each place is one of a member
abbrev pub invariant-loop-place : goal.invariant-loop-place
invariant-loop-place l = record {
  said : members_data (members_view (drop l.place l.members)) (placed_view l.members l.places.entries) ≡ members_data (members_view l.members) no_members;
  within : All (λ i. i < length l.members) (values_of l.places.entries);
}
