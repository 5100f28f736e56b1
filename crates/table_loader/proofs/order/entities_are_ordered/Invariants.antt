use Rattle.std.specs.List.{AllByRecursion}
use Rattle.table_loader.specs.Order.{IsEntityOrdered}
use Rattle.table_loader.proofs.order.entities_are_ordered.Given as goal

-- what is left is still to be looked at
abbrev pub invariant-loop-entity : goal.invariant-loop-entity
invariant-loop-entity l = AllByRecursion IsEntityOrdered l.entity-iterator → AllByRecursion IsEntityOrdered l.entities
