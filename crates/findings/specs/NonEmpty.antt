-- Results, taken apart.
use Rattle.std.specs.Prelude.{List, [], ◌∷◌, Result, Ok, Err}
use Rattle.findings.specs.declared.nonempty.NonEmpty.{NonEmpty}

-- the errors, in their order
abbrev pub errors_in : {T : Type 0} {E : Type 0} → List (Result T E) → List E
errors_in [] = []
errors_in (Ok value ∷ results) = errors_in results
errors_in (Err error ∷ results) = error ∷ errors_in results

-- the items
abbrev pub items_of : {T : Type 0} → NonEmpty T → List T
items_of list = list.head ∷ list.tail.items
