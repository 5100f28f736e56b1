-- Expressions whose notes say nothing, as those of policies.
use Rattle.std.specs.Prelude.{None}
use Rattle.policy_expressions.specs.Tree.{Tree, Mark}

abbrev pub Plain : Type 0
Plain = Tree (Mark (Unit {0}))

-- a mark that says nothing: no note, and no place
abbrev pub unmarked : Mark (Unit {0})
unmarked = record { note = tt; loc = None }
