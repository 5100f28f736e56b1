use Rattle.std.proofs.Common.{◌≡◌, ◌+◌, length}
use Rattle.std.specs.Vec.Iter.{into_iter_items}
use Rattle.json_trees.specs.Trees.{trees_view}
use Rattle.json_document.specs.Policies.{no_policies, policies_of}
use Rattle.json_document.proofs.policies.read_policies.Given as goal

-- with the policies so far, what is left gives all
abbrev pub invariant-loop-item : goal.invariant-loop-item
invariant-loop-item l = record {
  counted : l.index + length (into_iter_items l.item-iterator) ≡ length l.fn.items.items;
  rest : policies_of l.index l.policies (trees_view (into_iter_items l.item-iterator)) ≡ policies_of 0 no_policies (trees_view l.fn.items.items);
}
