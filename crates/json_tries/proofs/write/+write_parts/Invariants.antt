use Rattle.std.proofs.Common.{◌≡◌, ◌-◌, length, map, take}
use Rattle.serde_json.specs.View.{view}
use Rattle.access_tries.specs.Trees.{branches_by, branch_at}
use Rattle.json_tries.specs.TrieJson.{fields_data, tags_data, roots_data}
use Rattle.json_tries.proofs.write.+write_parts.Given as goal

abbrev pub decreases-write_parts : goal.decreases-write_parts
decreases-write_parts l = length l.nodes.now - l.number

abbrev pub invariant-loop-link : goal.invariant-loop-link
invariant-loop-link l = record {
  fields : map view l.parts.fields.items ≡ fields_data (branches_by (branch_at l.nodes) (take l.link-index l.link-items));
  tags : map view l.parts.tags.items ≡ tags_data (branches_by (branch_at l.nodes) (take l.link-index l.link-items));
  roots : map view l.parts.roots.items ≡ roots_data (branches_by (branch_at l.nodes) (take l.link-index l.link-items));
}
