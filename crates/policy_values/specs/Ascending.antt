-- Lists in order.
use Rattle.std.specs.Prelude.{List, [], ◌∷◌}
use Rattle.std.specs.BTreeSet.{insert_key}
use Rattle.std.specs.declared.cmp.Ordering.{Ordering}

module _ {K : Type 0} (cmp : K → K → Ordering) where
  -- the items of a list in order, without repeats
  abbrev pub ascending_of : List K → List K
  ascending_of [] = []
  ascending_of (x ∷ xs) = insert_key cmp (ascending_of xs) x
