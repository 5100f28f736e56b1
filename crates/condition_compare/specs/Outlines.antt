-- What propositions say of conditions.
use Rattle.std.specs.Prelude.{◌≡◌, ◌<◌, ◌||◌, ℕ, Bool, List, length, if◌then◌else◌}
use Rattle.propositions.specs.Circuits.{holds, Keeps}
use Rattle.propositions.specs.TwoSided.{AreWithin}
use Rattle.propositions.specs.declared.circuit.Gate.{Gate}
use Rattle.propositions.specs.declared.two_sided.TwoSided.{TwoSided}
use Rattle.condition_truth.specs.Outlines.{Sides}
use Rattle.condition_compare.specs.Decisions.{sides_in}
use Rattle.condition_compare.specs.declared.condition.Condition.{Condition}
use Rattle.condition_compare.specs.Worlds.{World, Matches, KeepsAsked}
use Rattle.condition_compare.specs.declared.asked.Asked.{Asked}

-- propositions, and what their atoms ask
pub record State : Type 0 where
  pub gates : List Gate
  pub asked : List Asked

abbrev pub state : List Gate → List Asked → State
state gs xs = record { gates = gs; asked = xs }

pub record Grows (old new : State) : Type 0 where
  pub gates : Keeps old.gates new.gates
  pub asked : KeepsAsked old.asked new.asked

-- the proposition n says what f says of each world
pub record Says (s : State) (f : World → Bool) (n : ℕ) : Type 0 where
  pub within : n < length s.gates
  pub says : (w : World) (v : ℕ → Bool) → Matches w s.asked v → holds v s.gates n ≡ f w

-- the two propositions say the sides that f says of each world
pub record SaysSides (s : State) (f : World → Sides) (x : TwoSided) : Type 0 where
  pub within : AreWithin (length s.gates) x
  pub yes : (w : World) (v : ℕ → Bool) → Matches w s.asked v → holds v s.gates x.yes ≡ (f w).yes
  pub no : (w : World) (v : ℕ → Bool) → Matches w s.asked v → holds v s.gates x.no ≡ (f w).no

-- the state grew, and the proposition says what f says
pub record AddsOne (old new : State) (f : World → Bool) (n : ℕ) : Type 0 where
  pub grows : Grows old new
  pub one : Says new f n

pub record AddsSides (old new : State) (f : World → Sides) (x : TwoSided) : Type 0 where
  pub grows : Grows old new
  pub sides : SaysSides new f x

-- the state grew, and the first proposition says that one permits, the second that one forbids, as the old ones
-- say or by the condition
pub record AddsCondition (old new : State) (permits forbids : ℕ) (c : Condition) (n : ℕ × ℕ) : Type 0 where
  pub grows : Grows old new
  pub permits_within : n.0 < length new.gates
  pub forbids_within : n.1 < length new.gates
  pub permits_says : (w : World) (v : ℕ → Bool) → Matches w new.asked v →
      holds v new.gates n.0 ≡ (if c.permits then holds v old.gates permits || (sides_in w c).yes else holds v old.gates permits)
  pub forbids_says : (w : World) (v : ℕ → Bool) → Matches w new.asked v →
      holds v new.gates n.1 ≡ (if c.permits then holds v old.gates forbids else holds v old.gates forbids || (sides_in w c).yes)
