-- Expressions that are nested no deeper than 400.
use Rattle.std.specs.Prelude.{ℕ, nat_lt, if◌then◌else◌, List, Option, Some, None, Result, Ok, Err}
use Rattle.policy_expressions.specs.Tree.{depth_of}
use Rattle.policy_expressions.specs.declared.expr.BuildError.{BuildError}
use Rattle.policy_expressions.specs.declared.expr.BuildError.TheVariants as build
use Rattle.policy_expressions.specs.declared.kinds.Loc.{Loc}
use Rattle.json_expressions.specs.Forms.{Plain, placed, folded, chained, paired, if_tree, join_tree, binary_tree}
use Rattle.json_expressions.specs.declared.forms.ListForm.{ListForm}
use Rattle.json_expressions.specs.declared.forms.ListForm.TheVariants as listed
use Rattle.json_expressions.specs.declared.nesting.Bounded.{Bounded}
use Rattle.json_expressions.specs.declared.nesting.Bounded.TheVariants.{Within, Nested}

-- what is read of an expression
abbrev pub Read : Type 0
Read = Bounded Plain

-- the expression, unless it is nested deeper than 400
abbrev pub bounded : Plain → Read
bounded x = if nat_lt 400 (depth_of x) then Nested else Within x

abbrev pub bounded_field : List ℕ × Plain → List ℕ × Read
bounded_field e = (e.0, bounded e.1)

-- what was built
abbrev pub build_of : Read → Result Plain BuildError
build_of (Within x) = Ok x
build_of Nested = Err build.Nested

-- what is made of expressions that are nested no deeper; of others nothing is made
abbrev pub on_one : (Plain → Plain) → Read → Read
on_one f (Within x) = bounded (f x)
on_one f Nested = Nested

abbrev pub both : Read → Read → Option (Plain × Plain)
both (Within x) (Within y) = Some (x, y)
both (Within x) Nested = None
both Nested r = None

abbrev pub on_two : (Plain → Plain → Plain) → Read → Read → Read
on_two f (Within x) (Within y) = bounded (f x y)
on_two f (Within x) Nested = Nested
on_two f Nested r = Nested

abbrev pub on_three : (Plain → Plain → Plain → Plain) → Read → Read → Read → Read
on_three f (Within x) r s = on_two (f x) r s
on_three f Nested r s = Nested

abbrev pub on_name : (Plain → List ℕ → Plain) → Read → List ℕ → Read
on_name f r name = on_one (λ x. f x name) r

-- what f makes of all, where none is nested deeper
abbrev pub on_all : {A : Type 0} → (A → Plain) → Option A → Read
on_all f None = Nested
on_all f (Some xs) = bounded (f xs)

abbrev pub listed_read : ListForm → List Read → Option Read
listed_read (listed.Fold j) rs = folded (on_two (join_tree j)) rs
listed_read listed.If rs = chained (on_three if_tree) rs
listed_read (listed.Binary op) rs = paired (on_two (binary_tree op)) rs

-- the place is put at what was read
abbrev pub placed_read : Loc → Read → Read
placed_read l (Within x) = Within (placed l x)
placed_read l Nested = Nested
