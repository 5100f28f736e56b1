-- Paths and demands in order.
use Rattle.std.specs.Prelude.{List, fold}
use Rattle.std.specs.declared.cmp.Ordering.{Ordering}
use Rattle.std.specs.Ordering.{ordering_then}
use Rattle.std.specs.BTreeSet.{insert_key}
use Rattle.access_tries.specs.Paths.{AccessPath, path_cmp}

-- demands by their first paths, and then by their second ones
abbrev pub demand_cmp : AccessPath × AccessPath → AccessPath × AccessPath → Ordering
demand_cmp d e = ordering_then (path_cmp d.0 e.0) (path_cmp d.1 e.1)

-- paths in order with more of them, each once
abbrev pub with_paths : List AccessPath → List AccessPath → List AccessPath
with_paths ps qs = fold (insert_key path_cmp) ps qs

-- likewise demands
abbrev pub with_demands : List (AccessPath × AccessPath) →
    List (AccessPath × AccessPath) → List (AccessPath × AccessPath)
with_demands ds es = fold (insert_key demand_cmp) ds es
