-- The entries of a map under texts.
use Rattle.std.specs.Prelude.{◌≡◌, ℕ, List}
use Rattle.std.specs.declared.cmp.Ordering.TheVariants.{Greater}
use Rattle.std.specs.List.{AllByRecursion}
use Rattle.policy_values.specs.Uid.{text_cmp}

-- the key is greater than all keys
abbrev pub IsNext : List ℕ → List (List ℕ) → Type 0
IsNext k ks = AllByRecursion (λ l. text_cmp k l ≡ Greater) ks
