-- How errors and variables print.
use Rattle.std.specs.Prelude.{ℕ, List, codes}
use Rattle.policy_expressions.specs.declared.kinds.Var.{Var}
use Rattle.policy_expressions.specs.declared.kinds.Var.TheVariants.{Principal, Action, Resource, Context}
use Rattle.policy_expressions.specs.declared.expr.BuildError.{BuildError}
use Rattle.policy_expressions.specs.declared.expr.BuildError.TheVariants.{Nested, OutOfMemory}

-- why an expression was not built
abbrev pub build_error_text : BuildError → List ℕ
build_error_text Nested = codes "nested deeper than 400"
build_error_text OutOfMemory = codes "out of memory"

-- a variable as it is written
abbrev pub variable_text : Var → List ℕ
variable_text Principal = codes "principal"
variable_text Action = codes "action"
variable_text Resource = codes "resource"
variable_text Context = codes "context"
