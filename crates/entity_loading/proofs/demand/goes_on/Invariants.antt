use Rattle.std.proofs.Common.{◌≡◌, true, ◌&&◌, [], drop, is_some}
use Rattle.std.specs.List.{list_any}
use Rattle.access_tries.specs.declared.table.Link.{Link}
use Rattle.access_tries.specs.Edges.{edge_eq}
use Rattle.access_tries.specs.Paths.{edge_of}
use Rattle.access_tries.specs.Table.{at_path}
use Rattle.reads_spec.specs.Paths.{Step}
use Rattle.entity_loading.proofs.demand.goes_on.Given as goal

abbrev pub invariant-loop-link : goal.invariant-loop-link
invariant-loop-link l =
    (n : Step) → list_any (λ (k : Link). edge_eq k.edge (edge_of n) && at_path is_some l.trie.nodes k.number []) l.link-items ≡ true
    → list_any (λ (k : Link). edge_eq k.edge (edge_of n) && at_path is_some l.trie.nodes k.number []) (drop l.link-index l.link-items) ≡ true
