use Rattle.std.proofs.Common.{◌≡◌, ◌++◌, length, option_map}
use Rattle.std.specs.Vec.Iter.{into_iter_items, into_iter_len}
use Rattle.json_expressions.specs.Nesting.{all_within}
use Rattle.json_expressions.proofs.nesting.take_all.Given as goal

-- those so far, and then those of what is left, are all
abbrev pub invariant-loop-read : goal.invariant-loop-read
invariant-loop-read g l = record {
  all : option_map (λ xs. l.all.items ++ xs) (all_within (into_iter_items l.read-iterator)) ≡ all_within l.fn.reads.items;
  len : into_iter_len l.read-iterator ≡ length (into_iter_items l.read-iterator);
}
