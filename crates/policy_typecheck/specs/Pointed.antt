-- Values that are referred to.
use Rattle.std.specs.Prelude.{List, map}
use denote.Ref.{Bor}

abbrev pub pointed : {T : Type 0} → List (Bor T) → List T
pointed rs = map (λ r. r.now) rs
