-- How a pattern is followed along a text.
use Rattle.std.proofs.Common.{◌≡◌, ◌≢◌, ℕ, zero, suc, ◌+◌, ◌<◌, ◌≤◌, Bool, true, false, ◌&&◌, ◌||◌, ◌==◌, eqb, if◌then◌else◌, List, [], ◌∷◌, ◌++◌, length, map, drop, slice_index, ◌-◌, refl, ap, ◌∙◌, sym, subst, ◌⊎◌, inl, inr, arith}
use Rattle.std.proofs.lemmas.Bool.{or_cases, or_right, or_left, and_parts, cases_Bool, cases_lt, eqb-true, eq-eqb}
use Rattle.std.proofs.lemmas.List.{get_or-drop, drop-drop, drop_all, length-drop}
use Rattle.std.specs.Cmp.Lexicographic.{pointwise}
use lib.Pointwise.{pointwise_long}
use Rattle.policy_expressions.specs.declared.kinds.PatternElem.{PatternElem}
use Rattle.policy_expressions.specs.declared.kinds.PatternElem.TheVariants.{Char, Wildcard}
use Rattle.policy_core.specs.Like.{some_tail, matches, Behind, wildcard, whole, nothing, behind_chars}
use Rattle.policy_core.specs.Pieces.{Agrees, IsFound}
use Rattle.plain_lemmas.proofs.Booleans.{equal_by_both_ways, or_false}

first_tail : (f : List ℕ → Bool) (cs : List ℕ) → f cs ≡ true → some_tail f cs ≡ true
first_tail f [] h = h
first_tail f (c ∷ cs) h = or_left (f (c ∷ cs)) (some_tail f cs) h

-- a tail of a tail is a tail
tail_of_tail : (f : List ℕ → Bool) (cs : List ℕ) → some_tail (some_tail f) cs ≡ true → some_tail f cs ≡ true
tail_of_tail f [] h = h
tail_of_tail f (c ∷ cs) h = here (or_cases (some_tail f (c ∷ cs)) (some_tail (some_tail f) cs) h) (tail_of_tail f cs)
  where
    here : (some_tail f (c ∷ cs) ≡ true) ⊎ (some_tail (some_tail f) cs ≡ true) → (some_tail (some_tail f) cs ≡ true → some_tail f cs ≡ true) → some_tail f (c ∷ cs) ≡ true
    here (inl i) later = i
    here (inr i) later = or_right (f (c ∷ cs)) (some_tail f cs) (later i)

-- what passes one test passes the other, at each tail
tails_pass : (f g : List ℕ → Bool) → ((cs : List ℕ) → f cs ≡ true → g cs ≡ true) → (cs : List ℕ) → some_tail f cs ≡ true → some_tail g cs ≡ true
tails_pass f g h [] i = h [] i
tails_pass f g h (c ∷ cs) i = here (or_cases (f (c ∷ cs)) (some_tail f cs) i) (tails_pass f g h cs)
  where
    here : (f (c ∷ cs) ≡ true) ⊎ (some_tail f cs ≡ true) → (some_tail f cs ≡ true → some_tail g cs ≡ true) → (g (c ∷ cs) || some_tail g cs) ≡ true
    here (inl j) later = or_left (g (c ∷ cs)) (some_tail g cs) (h (c ∷ cs) j)
    here (inr j) later = or_right (g (c ∷ cs)) (some_tail g cs) (later j)

-- what is left decides
abbrev pub matches_left : Behind → Bool
matches_left (wildcard p cs) = some_tail (matches p) cs
matches_left whole = true
matches_left nothing = false

pub matches_behind : (p : List PatternElem) (cs : List ℕ) → matches p cs ≡ matches_left (behind_chars p cs)
matches_behind [] [] = refl
matches_behind [] (c ∷ cs) = refl
matches_behind (Wildcard ∷ p) cs = refl
matches_behind (Char d ∷ p) [] = refl
matches_behind (Char d ∷ p) (c ∷ cs) = here (c == d) (matches_behind p cs)
  where
    here : (b : Bool) → matches p cs ≡ matches_left (behind_chars p cs) → (b && matches p cs) ≡ matches_left (if b then behind_chars p cs else nothing)
    here true e = e
    here false e = refl

-- behind a character of the pattern, one less of the text is left
one_less : (d : ℕ) (p : List PatternElem) (cs : List ℕ) → matches (Char d ∷ p) cs ≡ true → some_tail (matches p) cs ≡ true
one_less d p [] h = absurd (cc)
one_less d p (c ∷ cs) h = or_right (matches p (c ∷ cs)) (some_tail (matches p) cs) (first_tail (matches p) cs (and_parts (c == d) (matches p cs) h).1)

later_tails : (p q : List PatternElem) (cs ds : List ℕ) → behind_chars p cs ≡ wildcard q ds → some_tail (matches p) cs ≡ true → some_tail (matches q) ds ≡ true
later_tails [] q [] ds h i = absurd (cc)
later_tails [] q (c ∷ cs) ds h i = absurd (cc)
later_tails (Wildcard ∷ p) q cs ds h i =
    let e : p ≡ q = cc in
    let f : cs ≡ ds = cc in
    subst (λ r. some_tail (matches r) ds ≡ true) e (subst (λ es. some_tail (matches p) es ≡ true) f (tail_of_tail (matches p) cs i))
later_tails (Char d ∷ p) q [] ds h i = absurd (cc)
later_tails (Char d ∷ p) q (c ∷ cs) ds h i = here (c == d) h (later_tails p q cs ds)
  where
    tails : (matches (Char d ∷ p) (c ∷ cs) ≡ true) ⊎ (some_tail (matches (Char d ∷ p)) cs ≡ true) → some_tail (matches p) cs ≡ true
    tails (inl j) = first_tail (matches p) cs (and_parts (c == d) (matches p cs) j).1
    tails (inr j) = tail_of_tail (matches p) cs (tails_pass (matches (Char d ∷ p)) (some_tail (matches p)) (one_less d p) cs j)

    here : (b : Bool) → (if b then behind_chars p cs else nothing) ≡ wildcard q ds → (behind_chars p cs ≡ wildcard q ds → some_tail (matches p) cs ≡ true → some_tail (matches q) ds ≡ true) → some_tail (matches q) ds ≡ true
    here true k later = later k (tails (or_cases (matches (Char d ∷ p) (c ∷ cs)) (some_tail (matches (Char d ∷ p)) cs) i))
    here false k later = absurd (cc)

-- the first tail that fits up to a wildcard is enough
pub behind_wildcard : (p q : List PatternElem) (cs ds : List ℕ) → behind_chars p cs ≡ wildcard q ds → some_tail (matches p) cs ≡ some_tail (matches q) ds
behind_wildcard p q cs ds h =
    equal_by_both_ways (some_tail (matches p) cs) (some_tail (matches q) ds) (later_tails p q cs ds h)
    (λ i. first_tail (matches p) cs (matches_behind p cs ∙ ap matches_left h ∙ i))

-- tails that do not pass are left out
skip_tails : (f : List ℕ → Bool) (k : ℕ) (cs : List ℕ) → k ≤ length cs → ((j : ℕ) → j < k → f (drop j cs) ≡ false) → some_tail f cs ≡ some_tail f (drop k cs)
skip_tails f zero cs within fails = refl
skip_tails f (suc k) [] within fails = absurd (omega arith)
skip_tails f (suc k) (c ∷ cs) within fails =
    ap (λ b. b || some_tail f cs) (fails 0 (omega arith)) ∙ skip_tails f k cs (omega arith) (λ j below. fails (suc j) (omega arith))

-- the piece begins the text
abbrev pub Begins : (piece text : List ℕ) → Type 0
Begins piece text = (j : ℕ) → j < length piece → slice_index text j ≡ slice_index piece j

-- what matches a piece and more begins with it
piece_begins : (p : List PatternElem) (piece text : List ℕ) → matches (map Char piece ++ p) text ≡ true → (length piece ≤ length text) × Begins piece text
piece_begins p [] text m = (omega arith, λ j below. absurd (omega arith))
piece_begins p (d ∷ piece) [] m = absurd (cc)
piece_begins p (d ∷ piece) (c ∷ text) m =
    let parts = and_parts (c == d) (matches (map Char piece ++ p) text) m in
    let rest = piece_begins p piece text parts.1 in
    (let within = rest.0 in omega arith, each (eqb-true c d parts.0) rest.1)
  where
    each : c ≡ d → Begins piece text → Begins (d ∷ piece) (c ∷ text)
    each e begins zero below = e
    each e begins (suc j) below = begins j (omega arith)

-- and a text that begins with it goes on behind it
behind_piece : (p : List PatternElem) (piece text : List ℕ) → length piece ≤ length text → Begins piece text → behind_chars (map Char piece ++ p) text ≡ behind_chars p (drop (length piece) text)
behind_piece p [] text within begins = refl
behind_piece p (d ∷ piece) [] within begins = absurd (omega arith)
behind_piece p (d ∷ piece) (c ∷ text) within begins =
    ap (λ b. if b then behind_chars (map Char piece ++ p) text else nothing) (eq-eqb c d (begins 0 (omega arith)))
    ∙ behind_piece p piece text (omega arith) (λ j below. begins (suc j) (omega arith))

-- from a place where the piece does not stand, nothing matches
fails_at : (p : List PatternElem) (piece text : List ℕ) (j i : ℕ) → j ≤ length text → (j + length piece ≤ length text → ¬ Agrees piece text j i) → matches (map Char piece ++ p) (drop j text) ≡ false
fails_at p piece text j i inside differs = by_cases (cases_Bool (matches (map Char piece ++ p) (drop j text)))
  where
    by_cases : (matches (map Char piece ++ p) (drop j text) ≡ true) ⊎ (matches (map Char piece ++ p) (drop j text) ≡ false) → matches (map Char piece ++ p) (drop j text) ≡ false
    by_cases (inr fails) = fails
    by_cases (inl m) =
        let begins = piece_begins p piece (drop j text) m in
        let within : length piece ≤ length (drop j text) = begins.0 in
        absurd (differs (omega (arith, length-drop j text)) (λ i in_piece in_text. sym (get_or-drop j text i 0) ∙ begins.1 i in_piece))

-- behind the first place where its first piece stands, what follows it decides
pub piece_found : (p : List PatternElem) (piece text : List ℕ) (end : ℕ) → end ≤ length text → IsFound piece text 0 end (length piece) → some_tail (matches (map Char piece ++ (Wildcard ∷ p))) text ≡ some_tail (matches p) (drop end text)
piece_found p piece text end within f =
    skip_tails (matches whole_pattern) at text (omega arith) (λ j below. fails_at (Wildcard ∷ p) piece text j end (omega arith) (λ fits. f.before j (omega arith) (omega arith)))
    ∙ behind_wildcard whole_pattern p (drop at text) (drop (length piece) (drop at text)) (behind_piece (Wildcard ∷ p) piece (drop at text) (omega (arith, length-drop at text)) begins)
    ∙ ap (some_tail (matches p)) (drop-drop (length piece) at text ∙ ap (λ n. drop n text) ends)
  where
    whole_pattern : List PatternElem
    whole_pattern = map Char piece ++ (Wildcard ∷ p)

    at : ℕ
    at = end - length piece

    ends : at + length piece ≡ end
    ends = let short = f.short in omega arith

    begins : Begins piece (drop at text)
    begins j below = get_or-drop at text j 0 ∙ f.here at ends j below (let e = ends in omega arith)

-- and where it stands nowhere, nothing matches
pub not_found : (p : List PatternElem) (piece text : List ℕ) (found : ℕ) → found < length piece → IsFound piece text 0 (length text) found → some_tail (matches (map Char piece ++ p)) text ≡ false
not_found p piece text found less f =
    skip_tails (matches (map Char piece ++ p)) (length text) text (omega arith) (λ j below. fails j (omega arith))
    ∙ ap (some_tail (matches (map Char piece ++ p))) (drop_all (length text) text (omega arith))
    ∙ sym (ap (matches (map Char piece ++ p)) (drop_all (length text) text (omega arith)))
    ∙ fails (length text) (omega arith)
  where
    fails : (j : ℕ) → j ≤ length text → matches (map Char piece ++ p) (drop j text) ≡ false
    fails j inside = fails_at p piece text j (length text) inside (λ fits. f.before j (omega arith) (omega arith))

-- a piece alone is compared with as many characters
same_by_place : (piece cs : List ℕ) → pointwise eqb piece cs ≡ matches (map Char piece) cs
same_by_place [] [] = refl
same_by_place [] (c ∷ cs) = refl
same_by_place (d ∷ piece) [] = refl
same_by_place (d ∷ piece) (c ∷ cs) = ap (λ b. b && pointwise eqb piece cs) (either_way d c) ∙ ap (λ b. (c == d) && b) (same_by_place piece cs)
  where
    either_way : (a b : ℕ) → eqb a b ≡ eqb b a
    either_way a b = equal_by_both_ways (eqb a b) (eqb b a) (λ e. eq-eqb b a (sym (eqb-true a b e))) (λ e. eq-eqb a b (sym (eqb-true b a e)))

wrong_length : (piece cs : List ℕ) → length piece ≢ length cs → matches (map Char piece) cs ≡ false
wrong_length piece cs differ = by_cases (cases_Bool (matches (map Char piece) cs))
  where
    by_cases : (matches (map Char piece) cs ≡ true) ⊎ (matches (map Char piece) cs ≡ false) → matches (map Char piece) cs ≡ false
    by_cases (inr fails) = fails
    by_cases (inl m) = absurd (differ (pointwise_long eqb piece cs (same_by_place piece cs ∙ m)))

too_short : (piece cs : List ℕ) → length cs < length piece → some_tail (matches (map Char piece)) cs ≡ false
too_short piece [] below = wrong_length piece [] (omega arith)
too_short piece (c ∷ cs) below =
    ap (λ b. b || some_tail (matches (map Char piece)) cs) (wrong_length piece (c ∷ cs) (omega arith)) ∙ too_short piece cs (omega arith)

as_long : (piece cs : List ℕ) → length cs ≡ length piece → some_tail (matches (map Char piece)) cs ≡ matches (map Char piece) cs
as_long piece [] e = refl
as_long piece (c ∷ cs) e =
    ap (λ b. matches (map Char piece) (c ∷ cs) || b) (too_short piece cs (omega arith)) ∙ or_false (matches (map Char piece) (c ∷ cs))

-- so that the text has to end with it
pub ends_with_piece : (piece text : List ℕ) → pointwise eqb piece (drop (length text - length piece) text) ≡ some_tail (matches (map Char piece)) text
ends_with_piece piece text = same_by_place piece (drop (length text - length piece) text) ∙ by_cases (cases_lt (length text) (length piece))
  where
    by_cases : ((length text < length piece) ⊎ (length piece ≤ length text)) → matches (map Char piece) (drop (length text - length piece) text) ≡ some_tail (matches (map Char piece)) text
    by_cases (inl below) =
        wrong_length piece (drop (length text - length piece) text) (omega (arith, length-drop (length text - length piece) text)) ∙ sym (too_short piece text below)
    by_cases (inr fits) =
        sym (
        skip_tails (matches (map Char piece)) (length text - length piece) text (omega arith) (λ j below. wrong_length piece (drop j text) (omega (arith, length-drop j text)))
        ∙ as_long piece (drop (length text - length piece) text) (omega (arith, length-drop (length text - length piece) text))
        )
