-- What is known of propositions, where of some atoms it is known whether they hold.
use Rattle.std.specs.Prelude.{◌≡◌, ℕ, Bool, true, false, not, List, [], ◌∷◌, ◌++◌, Option, Some, None, slice_index_or}
use Rattle.propositions.specs.declared.circuit.Gate.{Gate}
use Rattle.propositions.specs.declared.circuit.Gate.TheVariants.{Constant, Atom, Negation, Both, Either}

-- v says of atoms what is known
abbrev pub Agrees : (ℕ → Bool) → List (Option Bool) → Type 0
Agrees v known = (i : ℕ) (b : Bool) → slice_index_or known i None ≡ Some b → v i ≡ b

abbrev pub not_known : Option Bool → Option Bool
not_known None = None
not_known (Some b) = Some (not b)

-- where one of two fails, so do both, whatever the other is
abbrev pub both_known : Option Bool → Option Bool → Option Bool
both_known (Some false) y = Some false
both_known (Some true) y = y
both_known None (Some false) = Some false
both_known None y = None

abbrev pub either_known : Option Bool → Option Bool → Option Bool
either_known (Some true) y = Some true
either_known (Some false) y = y
either_known None (Some true) = Some true
either_known None y = None

-- what is known of a part, where the first list says what is known of atoms and the second of the parts
-- before
abbrev pub gate_known : List (Option Bool) → List (Option Bool) → Gate → Option Bool
gate_known atoms ks (Constant b) = Some b
gate_known atoms ks (Atom i) = slice_index_or atoms i None
gate_known atoms ks (Negation x) = not_known (slice_index_or ks x None)
gate_known atoms ks (Both x y) = both_known (slice_index_or ks x None) (slice_index_or ks y None)
gate_known atoms ks (Either x y) = either_known (slice_index_or ks x None) (slice_index_or ks y None)

abbrev pub known_after : List (Option Bool) → List (Option Bool) → List Gate → List (Option Bool)
known_after atoms ks [] = ks
known_after atoms ks (g ∷ gs) = known_after atoms (ks ++ gate_known atoms ks g ∷ []) gs

abbrev pub known_of : List (Option Bool) → List Gate → List (Option Bool)
known_of atoms gs = known_after atoms [] gs
