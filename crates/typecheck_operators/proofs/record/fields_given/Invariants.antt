use Rattle.std.proofs.Common.{◌≡◌, ◌++◌, map, option_map}
use Rattle.std.specs.Map.{keys_of}
use Rattle.typecheck_operators.specs.Parts.{fields_given}
use Rattle.typecheck_operators.specs.Reported.{field_of}
use Rattle.typecheck_operators.proofs.record.fields_given.Given as goal

-- the types so far, and then those of what is left
abbrev pub invariant-loop-key : goal.invariant-loop-key
invariant-loop-key l = record {
  all : option_map (λ ts. l.types.entries ++ ts) (fields_given (map field_of l.key-iterator)) ≡ fields_given (map field_of l.fs.entries);
  keys : keys_of l.fs.entries ≡ keys_of l.types.entries ++ keys_of l.key-iterator;
}
