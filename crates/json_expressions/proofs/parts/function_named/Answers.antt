use Rattle.std.proofs.Common.{rules}
use Rattle.json_values.proofs.NameTest.{name_found, name_missing}
use Rattle.json_expressions.proofs.parts.function_named.Goals as goal

pub returns-in-Some : goal.returns-in-Some
returns-in-Some c =
    let e = rw c.in-Some.is at c.in_ok-name.ensures in
    name_found _ _ (e.found.0 (search rules)) e.value

pub returns-in-None : goal.returns-in-None
returns-in-None c =
    let e = rw c.in-None.is at c.in_ok-name.ensures in
    name_missing _ (λ n. cc (e.found.1 n))
