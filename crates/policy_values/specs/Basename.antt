-- The last components of names, and the types of actions: those whose name's last component is `Action`.
use Rattle.std.specs.Prelude.{ℕ, Bool, ◌||◌, List, [], ◌∷◌, Option, Some, None, codes, drop, eqb, if◌then◌else◌}
use Rattle.std.specs.List.{ends_with, starts_with}
use Rattle.std.specs.Option.{option_or, unwrap_or}
use Rattle.std.specs.Str.{bytes_eq}

-- what stands behind the last two colons, where there are two
abbrev pub behind_colons : List ℕ → Option (List ℕ)
behind_colons [] = None
behind_colons (c ∷ cs) =
    option_or (behind_colons cs) (if starts_with eqb (c ∷ cs) (codes "::") then Some (drop 1 cs) else None)

-- the last component of a name
abbrev pub basename_of : List ℕ → List ℕ
basename_of name = unwrap_or (behind_colons name) name

-- the last component of the name is `Action`
abbrev pub is_action_type : List ℕ → Bool
is_action_type name = bytes_eq name (codes "Action") || ends_with eqb name (codes "::Action")
