use Rattle.std.proofs.Common.{◌≡◌, ◌++◌, map}
use Rattle.std.specs.Map.{keys_of}
use Rattle.schema_types.specs.Required.{required}
use Rattle.schema_types.proofs.ty.Attributes.with_required_attributes.Given as goal

-- what is made, before what is left
abbrev pub invariant-loop-key : goal.invariant-loop-key
invariant-loop-key l = record {
  all : map required l.fn.attrs.entries ≡ l.made.entries ++ map required l.key-iterator;
  keys : keys_of l.fn.attrs.entries ≡ keys_of l.made.entries ++ keys_of l.key-iterator;
}
