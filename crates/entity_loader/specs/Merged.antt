-- A value with what is known already.
use Rattle.std.specs.Prelude.{Option, Some, None}
use Rattle.policy_values.specs.Value.{Val}
use Rattle.reads_spec.specs.Merge.{merge}

-- what is known merged with the value; the value alone where nothing is known
abbrev pub merged_with : Option Val → Val → Option Val
merged_with None v = Some v
merged_with (Some known) v = merge known v
