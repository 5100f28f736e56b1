use Rattle.std.proofs.Common.{◌≡◌, ◌≤◌, ◌+◌, ◌*◌, ◌++◌, map}
use Rattle.schema_types.specs.Ty.{size_of, size_of_attrs}
use Rattle.schema_types.specs.TyView.{attrs_of}
use Rattle.reads_spec.specs.Paths.{beyond, steps_of}
use Rattle.reads_spec.specs.PathTypes.{chains_in}
use Rattle.path_analysis.proofs.below.+chains.Given as goal

abbrev pub decreases-add_chains : goal.decreases-add_chains
decreases-add_chains l = 3 * size_of l.t.now

abbrev pub decreases-add_chains_in : goal.decreases-add_chains_in
decreases-add_chains_in l = 3 * size_of_attrs l.attributes.now + 1

-- what was found, and what is left
abbrev pub invariant-add_chains_in-loop-name : goal.invariant-add_chains_in-loop-name
invariant-add_chains_in-loop-name l = record {
  so_far : l.found.items ++ map (λ c. beyond l.path (steps_of c)) (chains_in (attrs_of l.name-iterator)) ≡ l.fn.found.items ++ map (λ c. beyond l.path (steps_of c)) (chains_in l.attributes);
  size : size_of_attrs (attrs_of l.name-iterator) ≤ size_of_attrs l.attributes;
}

abbrev pub decreases-add_field : goal.decreases-add_field
decreases-add_field l = 3 * size_of l.t.now + 2

abbrev pub decreases-add_with_chains : goal.decreases-add_with_chains
decreases-add_with_chains l = 3 * size_of l.t.now + 1
