use Rattle.std.proofs.Common.{◌≡◌, ◌++◌, drop, length, vec_len}
use Rattle.std.specs.Vec.Iter.{into_iter_items, into_iter_len}
use Rattle.policy_expressions.specs.Tree.{trees_of}
use Rattle.typecheck_rules.specs.Operators.{arguments_fitting}
use Rattle.typecheck_operators.specs.Reported.{all_of}
use Rattle.typecheck_operators.proofs.call.arguments_fitting.Given as goal

-- the arguments so far, and then what is left
abbrev pub invariant-loop-w : goal.invariant-loop-w
invariant-loop-w l = record {
  all : all_of l.fitted.items ++ arguments_fitting (drop (vec_len l.fitted) l.types) (trees_of (drop (vec_len l.fitted) l.xs.items)) (all_of (into_iter_items l.w-iterator)) ≡ arguments_fitting l.types (trees_of l.xs.items) (all_of l.fn.ws.items);
  len : into_iter_len l.w-iterator ≡ length (into_iter_items l.w-iterator);
}
