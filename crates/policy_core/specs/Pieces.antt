-- Where a piece stands in a text.
use Rattle.std.specs.Prelude.{◌≡◌, ℕ, ◌+◌, ◌-◌, ◌<◌, ◌≤◌, List, [], ◌∷◌, ◌++◌, length, slice_index, map, Option, None, Some}
use denote.Ref.{Bor}
use Rattle.policy_expressions.specs.declared.kinds.PatternElem.{PatternElem}
use Rattle.policy_expressions.specs.declared.kinds.PatternElem.TheVariants.{Char, Wildcard}
use Rattle.policy_core.specs.declared.like.Piece.{Piece}

-- of the text's first i characters, those from place k on are the piece's, as far as both go
abbrev pub Agrees : (piece text : List ℕ) → (k i : ℕ) → Type 0
Agrees piece text k i =
    (j : ℕ) → j < length piece → k + j < i → slice_index text (k + j) ≡ slice_index piece j

-- the last `found` of the text's first i characters begin the piece, and from no earlier place, of those from
-- s on, do all that follow
pub record IsFound (piece text : List ℕ) (s i found : ℕ) : Type 0 where
  pub short : found ≤ i - s
  pub here : (k : ℕ) → k + found ≡ i → Agrees piece text k i
  pub before : (k : ℕ) → s ≤ k → k + found < i → ¬ Agrees piece text k i

-- one more character behind `found`, in whatever text
abbrev pub IsNext : (piece : List ℕ) → (found c next : ℕ) → Type 0
IsNext piece found c next = (text : List ℕ) (s i : ℕ) → s ≤ i → slice_index text i ≡ c →
    IsFound piece text s i found → IsFound piece text s (i + 1) next

-- the k-th border is the length of the longest part that begins the piece's first k characters, ends them,
-- and is not all of them
abbrev pub AreBorders : (piece borders : List ℕ) → Type 0
AreBorders piece borders = (k : ℕ) → k < length borders → IsFound piece piece 1 k (slice_index borders k)

-- the place behind the first one where the piece stands in the text, or none
abbrev pub IsEnd : (piece text : List ℕ) → Option ℕ → Type 0
IsEnd piece text None = (found : ℕ) × (found < length piece) × IsFound piece text 0 (length text) found
IsEnd piece text (Some end) = (end ≤ length text) × IsFound piece text 0 end (length piece)

-- what is left of a pattern behind its first piece: nothing, or a wildcard and more
abbrev pub pattern_left : Option (Bor (List PatternElem)) → List PatternElem
pattern_left None = []
pattern_left (Some left) = Wildcard ∷ left.now

abbrev pub pattern_of : Piece → List PatternElem
pattern_of piece = map Char piece.chars.items ++ pattern_left piece.left
