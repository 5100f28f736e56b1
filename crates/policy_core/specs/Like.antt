-- Whether a text matches a pattern.
use Rattle.std.specs.Prelude.{ℕ, Bool, true, false, ◌&&◌, ◌||◌, ◌==◌, List, [], ◌∷◌, if◌then◌else◌}
use Rattle.policy_expressions.specs.declared.kinds.PatternElem.{PatternElem}
use Rattle.policy_expressions.specs.declared.kinds.PatternElem.TheVariants.{Char, Wildcard}
use Rattle.policy_core.specs.declared.like.Left.{Left}
use Rattle.policy_core.specs.declared.like.Left.TheVariants as left

-- some tail of the characters passes the test; they themselves are one, and so is the empty list
abbrev pub some_tail : (List ℕ → Bool) → List ℕ → Bool
some_tail f [] = f []
some_tail f (c ∷ cs) = f (c ∷ cs) || some_tail f cs

-- the wildcard matches any run of characters, so that what follows it matches some tail; every other element
-- matches its character alone
abbrev pub matches : List PatternElem → List ℕ → Bool
matches [] [] = true
matches [] (c ∷ cs) = false
matches (Wildcard ∷ p) cs = some_tail (matches p) cs
matches (Char d ∷ p) [] = false
matches (Char d ∷ p) (c ∷ cs) = (c == d) && matches p cs

-- what is left behind the characters that a pattern and a text have in common: behind a wildcard the rest of
-- both, nothing to do where both are over, and no way on where they differ or one of them is over
pub data Behind : Type 0 where
  wildcard : List PatternElem → List ℕ → Behind
  whole : Behind
  nothing : Behind

abbrev pub behind_chars : List PatternElem → List ℕ → Behind
behind_chars [] [] = whole
behind_chars [] (c ∷ cs) = nothing
behind_chars (Wildcard ∷ p) cs = wildcard p cs
behind_chars (Char d ∷ p) [] = nothing
behind_chars (Char d ∷ p) (c ∷ cs) = if c == d then behind_chars p cs else nothing

-- the same, as code refers to it
abbrev pub seen : Left → Behind
seen (left.Wildcard p cs) = wildcard p.now cs.now
seen left.Whole = whole
seen left.Nothing = nothing
