use Rattle.std.proofs.Common.{◌≡◌, true, ◌&&◌, List, drop, map}
use Rattle.std.specs.List.{list_any}
use Rattle.access_tries.specs.declared.edge.Edge.TheVariants.{Root}
use Rattle.access_tries.specs.declared.edge.EntityRoot.{EntityRoot}
use Rattle.access_tries.specs.declared.table.Link.{Link}
use Rattle.access_tries.specs.Edges.{edge_eq}
use Rattle.access_tries.specs.Paths.{edge_of}
use Rattle.access_tries.specs.Table.{at_path, has_mark}
use Rattle.reads_spec.specs.Paths.{Step}
use Rattle.entity_loading.proofs.demand.is_demanded.Given as goal

abbrev pub invariant-loop-link : goal.invariant-loop-link
invariant-loop-link l =
    (r : EntityRoot) (ns : List Step) → list_any (λ (k : Link). edge_eq k.edge (Root r) && at_path has_mark l.trie.nodes k.number (map edge_of ns)) l.link-items ≡ true
    → list_any (λ (k : Link). edge_eq k.edge (Root r) && at_path has_mark l.trie.nodes k.number (map edge_of ns)) (drop l.link-index l.link-items) ≡ true
