-- The parts of sets and of records.
use Rattle.std.specs.Prelude.{ℕ, List, Option, None}
use Rattle.schema_types.specs.Ty.{Ty}
use Rattle.policy_expressions.specs.Tree.{Tree, Mark}
use Rattle.reads_spec.specs.Paths.{Shape}
use Rattle.reads_spec.specs.Reads.{shape_of}

-- neither a type nor a place: neither matters to what is read
abbrev pub unmarked : Mark (Option Ty)
unmarked = record { note = None; loc = None }

-- a field, with where its value comes from
abbrev pub shaped : {A : Type 0} → List ℕ × Tree A → List ℕ × Shape
shaped e = (e.0, shape_of e.1)
