-- How the roots of paths print.
use Rattle.std.specs.Prelude.{ℕ, List}
use Rattle.policy_values.specs.Show.{uid_text}
use Rattle.policy_expressions.specs.Show.{variable_text}
use Rattle.access_tries.specs.declared.edge.EntityRoot.{EntityRoot}
use Rattle.access_tries.specs.declared.edge.EntityRoot.TheVariants.{Literal, Var as Variable}

-- an id as ids print, a variable as it is written
abbrev pub root_text : EntityRoot → List ℕ
root_text (Literal u) = uid_text u.entity_type u.eid
root_text (Variable v) = variable_text v
