use Rattle.std.proofs.Common.{◌≡◌, ◌-◌, length, true, ◌&&◌, List, drop, map}
use Rattle.std.specs.List.{list_any}
use Rattle.access_tries.specs.declared.table.Link.{Link}
use Rattle.access_tries.specs.Edges.{edge_eq}
use Rattle.access_tries.specs.Paths.{edge_of}
use Rattle.access_tries.specs.Table.{at_path, has_mark}
use Rattle.reads_spec.specs.Paths.{Step}
use Rattle.entity_loading.proofs.demand.+marking.Given as goal

abbrev pub decreases-marks_some : goal.decreases-marks_some
decreases-marks_some l = length l.trie.now.nodes - l.trie.now.number

abbrev pub invariant-loop-link : goal.invariant-loop-link
invariant-loop-link l =
    (n : Step) (ns : List Step) → list_any (λ (k : Link). edge_eq k.edge (edge_of n) && at_path has_mark l.trie.nodes k.number (map edge_of ns)) l.link-items ≡ true
    → list_any (λ (k : Link). edge_eq k.edge (edge_of n) && at_path has_mark l.trie.nodes k.number (map edge_of ns)) (drop l.link-index l.link-items) ≡ true
