use Rattle.std.proofs.Common.{◌≡◌}
use Rattle.std.specs.Option.{option_copied}
use Rattle.conformance.specs.StoreRules.{first_store_fault}
use Rattle.conformance.proofs.Lacking.{IsWalk}
use Rattle.conformance.proofs.store.conforms.Given as goal

-- what is left has the answer of the whole, and the least entity that lacks an ancestor is among it
abbrev pub invariant-loop-entity : goal.invariant-loop-entity
invariant-loop-entity l = record {
  left : first_store_fault l.schema l.entity-iterator ≡ first_store_fault l.schema l.entities;
  walk : IsWalk l.entities (option_copied l.lacking) l.entity-iterator;
}
