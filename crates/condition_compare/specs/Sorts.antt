-- What types say of truth values.
use Rattle.std.specs.Prelude.{◌≡◌, Bool, false, not, ◌&&◌, Option}
use Rattle.schema_types.specs.Ty.{Ty}
use Rattle.condition_truth.specs.Outlines.{sides, part_sides}
use Rattle.condition_compare.specs.declared.sort.Sort.{Sort}
use Rattle.condition_compare.specs.declared.sort.Sort.TheVariants.{True, False, Boolean, Other}

-- the sides of a part of the type are those of its sort, whether it has a value, and whether it is true
abbrev pub IsSort : Option Ty → Sort → Type 0
IsSort n True = (v t : Bool) → part_sides n v t ≡ sides v false
IsSort n False = (v t : Bool) → part_sides n v t ≡ sides false v
IsSort n Boolean = (v t : Bool) → part_sides n v t ≡ sides (v && t) (v && not t)
IsSort n Other = (v t : Bool) → part_sides n v t ≡ sides false false
