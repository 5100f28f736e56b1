use Rattle.std.proofs.Common.{◌≡◌, ◌++◌, length, map}
use Rattle.std.specs.Vec.Iter.{into_iter_items, into_iter_len}
use Rattle.typecheck_rules.specs.Walked.{tree_of, findings_of_all}
use Rattle.typecheck_rules.specs.Found.{findings_from}
use Rattle.typecheck_operators.specs.Reported.{all_of}
use Rattle.typecheck_operators.proofs.parts.rest_of_all.Given as goal

-- what is taken so far, and then what is left
abbrev pub invariant-loop-w : goal.invariant-loop-w
invariant-loop-w l = record {
  trees : l.trees.items ++ map tree_of (all_of (into_iter_items l.w-iterator)) ≡ map tree_of (all_of l.fn.ws.items);
  found : findings_from l.found.items ++ findings_of_all (all_of (into_iter_items l.w-iterator)) ≡ findings_of_all (all_of l.fn.ws.items);
  len : into_iter_len l.w-iterator ≡ length (into_iter_items l.w-iterator);
}
