-- Steps of walks that add to sets.
use Rattle.std.proofs.Common.{◌≡◌, ◌++◌, List, sym, ap, ◌∙◌}
use Rattle.std.specs.BTreeSet.{insert_key}
use Rattle.std.proofs.lemmas.List.Sums.{fold-append}
use Rattle.std.proofs.lemmas.List.Elements.{filter-append}
use Rattle.reads_spec.specs.Paths.{AccessPath, Demand, has_step}
use Rattle.reads_spec.specs.Reads.{with_step}
use Rattle.access_tries.specs.Paths.{path_cmp}
use Rattle.path_analysis.specs.PathOrder.{demand_cmp, with_paths, with_demands}

-- more is added after more
pub paths_more : (old xs ys : List AccessPath) → with_paths (with_paths old xs) ys ≡ with_paths old (xs ++ ys)
paths_more old xs ys = sym (fold-append (insert_key path_cmp) old xs ys)

pub demands_more : (old xs ys : List Demand) → with_demands (with_demands old xs) ys ≡ with_demands old (xs ++ ys)
demands_more old xs ys = sym (fold-append (insert_key demand_cmp) old xs ys)

pub longer_more : (old xs ys : List AccessPath) → with_paths (with_paths old (with_step xs)) (with_step ys) ≡ with_paths old (with_step (xs ++ ys))
longer_more old xs ys = paths_more old (with_step xs) (with_step ys) ∙ ap (λ l. with_paths old l) (sym (filter-append has_step xs ys))
