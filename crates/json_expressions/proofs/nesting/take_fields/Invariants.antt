use Rattle.std.proofs.Common.{◌≡◌, ◌++◌, option_map}
use Rattle.std.specs.Map.{keys_of}
use Rattle.json_expressions.specs.Nesting.{fields_within}
use Rattle.json_expressions.proofs.nesting.take_fields.Given as goal

-- those so far, and then those of what is left, are all
abbrev pub invariant-loop-name : goal.invariant-loop-name
invariant-loop-name g l = record {
  all : option_map (λ xs. l.all.entries ++ xs) (fields_within l.name-iterator) ≡ fields_within l.fn.reads.entries;
  keys : keys_of l.fn.reads.entries ≡ keys_of l.all.entries ++ keys_of l.name-iterator;
}
