-- The members of a tree by their names.
use Rattle.std.specs.Prelude.{ℕ, zero, suc, List, [], ◌∷◌, map, Bool, false, not, Option, Some, None}
use Rattle.std.specs.Borrow.{Bor}
use Rattle.std.specs.Str.{bytes_eq}
use Rattle.json.specs.declared.value.Value.{Value}
use Rattle.serde_json.specs.Data.{Data, null, Members, no_members, member}
use Rattle.json_trees.specs.Trees.{tree_view}

-- the members of these names and values
abbrev pub named_of : List (List ℕ × Data) → Members
named_of [] = no_members
named_of (m ∷ ms) = member m.0 m.1 (named_of ms)

-- what the member at the place says; null where there is none
abbrev pub said_at : {A : Type 0} → List (Bor (List ℕ) × Value A) → ℕ → Data
said_at [] i = null
said_at (m ∷ ms) zero = tree_view m.1
said_at (m ∷ ms) (suc i) = said_at ms i

-- the members that stand at these places, by these names
abbrev pub placed_view : {A : Type 0} → List (Bor (List ℕ) × Value A) → List (Bor (List ℕ) × ℕ) → Members
placed_view ms es = named_of (map (λ e. (e.0.now, said_at ms e.1)) es)

-- whether the name is known, and another one
abbrev pub is_other : Option (List ℕ) → List ℕ → Bool
is_other None name = false
is_other (Some known) name = not (bytes_eq known name)
