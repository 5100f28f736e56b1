-- Lists that are read item by item.
use Rattle.std.specs.Prelude.{ℕ, List, ◌∷◌, Option, option_map, option_and_then}

-- the first and those behind it, where all are read
abbrev pub with_first : {A : Type 0} → Option A → Option (List A) → Option (List A)
with_first o os = option_and_then (λ x. option_map (λ xs. x ∷ xs) os) o

-- a field and those behind it, where all are read
abbrev pub with_field : {A : Type 0} → List ℕ → Option A →
    Option (List (List ℕ × A)) → Option (List (List ℕ × A))
with_field key o os = with_first (option_map (λ x. (key, x)) o) os
