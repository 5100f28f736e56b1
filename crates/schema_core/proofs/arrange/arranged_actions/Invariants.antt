use Rattle.std.proofs.Common.{◌≡◌, ◌++◌, map}
use Rattle.schema_core.specs.Arranged.{arranged_action}
use Rattle.schema_core.proofs.arrange.arranged_actions.Given as goal

abbrev pub invariant-loop-name : goal.invariant-loop-name
invariant-loop-name l = l.list.items ++ map (arranged_action l.actions.entries l.principals.entries l.resources.entries) l.name-iterator ≡ map (arranged_action l.actions.entries l.principals.entries l.resources.entries) l.fn.contexts.entries
