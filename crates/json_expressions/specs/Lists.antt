-- Lists of one item and of two.
use Rattle.std.specs.Prelude.{List, [], ◌∷◌, Option, Some, None}

-- the one item, where there is no other
abbrev pub only_of : {A : Type 0} → List A → Option A
only_of [] = None
only_of (x ∷ []) = Some x
only_of (x ∷ y ∷ zs) = None

-- the two items, where there are two
abbrev pub two_of : {A : Type 0} → List A → Option (A × A)
two_of [] = None
two_of (x ∷ []) = None
two_of (x ∷ y ∷ []) = Some (x, y)
two_of (x ∷ y ∷ z ∷ zs) = None
