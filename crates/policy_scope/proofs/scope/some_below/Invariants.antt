use Rattle.std.proofs.Common.{◌≡◌}
use Rattle.std.specs.List.{list_any}
use Rattle.schema_core.specs.Schema.{type_below}
use Rattle.policy_scope.proofs.scope.some_below.Given as goal

-- those that are left decide
abbrev pub invariant-loop-ty : goal.invariant-loop-ty
invariant-loop-ty l = list_any (λ ty. type_below l.schema ty l.above) l.ty-iterator ≡ list_any (λ ty. type_below l.schema ty l.above) l.types.keys
