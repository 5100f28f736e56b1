use Rattle.std.proofs.Common.{◌≡◌, ◌++◌, map}
use Rattle.std.specs.Map.{keys_of}
use Rattle.typecheck_rules.specs.Walked.{findings_of_all}
use Rattle.typecheck_rules.specs.Operators.{parts_of}
use Rattle.typecheck_rules.specs.Found.{findings_from}
use Rattle.typecheck_operators.specs.Parts.{trees_in_fields}
use Rattle.typecheck_operators.specs.Reported.{field_of}
use Rattle.typecheck_operators.proofs.record.rest_of_fields.Given as goal

-- what is taken so far, and then what is left
abbrev pub invariant-loop-key : goal.invariant-loop-key
invariant-loop-key l = record {
  trees : l.trees.entries ++ trees_in_fields (map field_of l.key-iterator) ≡ trees_in_fields (map field_of l.fn.fs.entries);
  found : findings_from l.found.items ++ findings_of_all (parts_of (map field_of l.key-iterator)) ≡ findings_of_all (parts_of (map field_of l.fn.fs.entries));
  keys : keys_of l.fn.fs.entries ≡ keys_of l.trees.entries ++ keys_of l.key-iterator;
}
