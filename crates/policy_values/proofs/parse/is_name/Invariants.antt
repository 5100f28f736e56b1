use Rattle.std.proofs.Common.{length}
use Rattle.std.specs.Prelude.{◌↔◌}
use Rattle.policy_values.specs.Name.{IsName}
use Rattle.policy_values.proofs.parse.is_name.Given as goal

-- the whole is a name exactly where what is left is one
abbrev pub invariant-words : goal.invariant-words
invariant-words l = IsName l.bytes ↔ IsName l.rest

abbrev pub decreases-words : goal.decreases-words
decreases-words l = length l.rest
