-- What the propositions of a circuit say.
use Rattle.std.specs.Prelude.{◌≡◌, ◌≤◌, ◌<◌, ℕ, Bool, false, not, ◌&&◌, ◌||◌, List, [], ◌∷◌, ◌++◌, length, slice_index_or}
use Rattle.propositions.specs.declared.circuit.Gate.{Gate}
use Rattle.propositions.specs.declared.circuit.Gate.TheVariants.{Constant, Atom, Negation, Both, Either}

-- whether a part holds, where v says which atoms hold and bs which of the parts before it
abbrev pub gate_holds : (ℕ → Bool) → List Bool → Gate → Bool
gate_holds v bs (Constant b) = b
gate_holds v bs (Atom i) = v i
gate_holds v bs (Negation x) = not (slice_index_or bs x false)
gate_holds v bs (Both x y) = slice_index_or bs x false && slice_index_or bs y false
gate_holds v bs (Either x y) = slice_index_or bs x false || slice_index_or bs y false

-- which parts hold, one after another
abbrev pub values_after : (ℕ → Bool) → List Bool → List Gate → List Bool
values_after v bs [] = bs
values_after v bs (g ∷ gs) = values_after v (bs ++ gate_holds v bs g ∷ []) gs

abbrev pub values : (ℕ → Bool) → List Gate → List Bool
values v gs = values_after v [] gs

-- whether the proposition of a number holds, where v says which atoms hold
unfoldable pub holds : (ℕ → Bool) → List Gate → ℕ → Bool
holds v gs n = slice_index_or (values v gs) n false

-- what the propositions of the old circuit say, they say in the new one
pub record Keeps (old new : List Gate) : Type 0 where
  pub longer : length old ≤ length new
  pub same : (v : ℕ → Bool) (n : ℕ) → n < length old → holds v new n ≡ holds v old n

-- the new circuit keeps the old one's propositions, and its proposition n says what f says
pub record Adds (old new : List Gate) (f : (ℕ → Bool) → Bool) (n : ℕ) : Type 0 where
  pub keeps : Keeps old new
  pub within : n < length new
  pub says : (v : ℕ → Bool) → holds v new n ≡ f v
