-- What propositions in two say.
use Rattle.std.specs.Prelude.{◌≡◌, ◌<◌, ℕ, Bool, List, length}
use Rattle.propositions.specs.Circuits.{holds, Keeps}
use Rattle.propositions.specs.declared.circuit.Gate.{Gate}
use Rattle.propositions.specs.declared.two_sided.TwoSided.{TwoSided}

-- both are among the first k propositions
pub record AreWithin (k : ℕ) (x : TwoSided) : Type 0 where
  pub yes : x.yes < k
  pub no : x.no < k

-- the new circuit keeps the old one's propositions, and the two say what t and f say
pub record AddsTwo (old new : List Gate) (t f : (ℕ → Bool) → Bool) (x : TwoSided) : Type 0 where
  pub keeps : Keeps old new
  pub within : AreWithin (length new) x
  pub yes : (v : ℕ → Bool) → holds v new x.yes ≡ t v
  pub no : (v : ℕ → Bool) → holds v new x.no ≡ f v
