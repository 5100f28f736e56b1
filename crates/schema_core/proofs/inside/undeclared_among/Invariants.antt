use Rattle.std.proofs.Common.{◌≡◌}
use Rattle.std.specs.Prelude.{is_some}
use Rattle.std.specs.Option.{option_copied}
use Rattle.policy_values.specs.Reaches.{at}
use Rattle.policy_values.specs.Uid.{text_cmp}
use Rattle.schema_core.specs.Lowest.{lowest_names}
use Rattle.schema_core.proofs.inside.undeclared_among.Given as goal

-- what is left, from what is found
abbrev pub invariant-loop-name : goal.invariant-loop-name
invariant-loop-name l = lowest_names (λ n. is_some (at text_cmp l.types.entries n)) (option_copied l.low) l.name-iterator ≡ lowest_names (λ n. is_some (at text_cmp l.types.entries n)) (option_copied l.fn.low) l.lub
