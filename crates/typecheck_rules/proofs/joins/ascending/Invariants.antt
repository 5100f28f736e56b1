use Rattle.std.proofs.Common.{◌≡◌, drop}
use Rattle.std.specs.Prelude.{fold}
use Rattle.std.specs.BTreeSet.{insert_key}
use Rattle.schema_types.specs.TyOrder.{ty_cmp}
use Rattle.typecheck_rules.specs.Own.{ascending}
use Rattle.typecheck_rules.proofs.joins.ascending.Given as goal

-- what is left is still to be added
abbrev pub invariant-loop-t : goal.invariant-loop-t
invariant-loop-t l = fold (insert_key ty_cmp) l.set.keys (drop l.t-index l.types) ≡ ascending l.types
