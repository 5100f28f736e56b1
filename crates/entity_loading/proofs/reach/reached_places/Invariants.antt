use Rattle.std.proofs.Common.{length}
use Rattle.entity_loading.specs.Reached.{IsExplored, AreThere}
use Rattle.entity_loading.proofs.SliceReachSteps.{height}
use Rattle.entity_loading.proofs.reach.reached_places.Given as goal

abbrev pub invariant-loop-nodes : goal.invariant-loop-nodes
invariant-loop-nodes l = record {
  explored : IsExplored l.trie l.request l.entities l.reached.keys l.pending.keys;
  reached_there : AreThere l.trie l.reached.keys;
  pending_there : AreThere l.trie l.pending.keys;
}

abbrev pub decreases-loop-nodes : goal.decreases-loop-nodes
decreases-loop-nodes l = height (length l.trie) l.pending.keys
