-- How the characters of a text are followed along a piece and its borders.
use Rattle.std.proofs.Common.{◌≡◌, ℕ, ◌+◌, ◌-◌, ◌<◌, ◌≤◌, ◌≢◌, List, [], ◌∷◌, ◌++◌, length, get_or, slice_index, ap, ◌∙◌, sym, subst, ◌⊎◌, inl, inr, arith}
use Rattle.std.proofs.lemmas.Bool.{cases_lt, cases_order}
use Rattle.std.proofs.lemmas.List.{get_or_append_left, get_or_at, get_or_default, length_push}
use Rattle.policy_core.specs.Pieces.{Agrees, IsFound, AreBorders}

-- as `IsFound`, where the earlier places are known not to go on with one character more
pub record IsTried (piece text : List ℕ) (s i found : ℕ) : Type 0 where
  pub short : found ≤ i - s
  pub here : (k : ℕ) → k + found ≡ i → Agrees piece text k i
  pub before : (k : ℕ) → s ≤ k → k + found < i → ¬ Agrees piece text k (i + 1)

fewer_agree : (piece text : List ℕ) (k i : ℕ) → Agrees piece text k (i + 1) → Agrees piece text k i
fewer_agree piece text k i a j in_piece in_text = a j in_piece (omega arith)

pub tried_first : (piece text : List ℕ) (s i found : ℕ) → IsFound piece text s i found → IsTried piece text s i found
tried_first piece text s i found f = record {
  short = f.short;
  here = f.here;
  before = λ k from earlier a. f.before k from earlier (fewer_agree piece text k i a);
}

-- the character of the text behind what is found
one_differs : (piece text : List ℕ) (i found : ℕ) → found < length piece → slice_index text i ≢ slice_index piece found → (k : ℕ) → k + found ≡ i → ¬ Agrees piece text k (i + 1)
one_differs piece text i found in_piece differs k at a =
    differs (ap (slice_index text) (sym at) ∙ a found in_piece (omega arith))

pub one_more : (piece text : List ℕ) (s i found : ℕ) → s ≤ i → slice_index text i ≡ slice_index piece found → IsTried piece text s i found → IsFound piece text s (i + 1) (found + 1)
one_more piece text s i found from same t = record {
  short = let short = t.short in omega arith;
  here = λ k at j in_piece in_text. by_place k (omega arith) j in_piece (cases_lt (k + j) i) in_text;
  before = λ k from_s earlier. t.before k from_s (omega arith);
}
  where
    by_place : (k : ℕ) → k + found ≡ i → (j : ℕ) → j < length piece → ((k + j < i) ⊎ (i ≤ k + j)) → k + j < i + 1 → slice_index text (k + j) ≡ slice_index piece j
    by_place k at j in_piece (inl earlier) in_text = t.here k at j in_piece earlier
    by_place k at j in_piece (inr last) in_text =
        let is_i : k + j ≡ i = omega arith in
        let is_found : j ≡ found = omega arith in
        ap (slice_index text) is_i ∙ same ∙ ap (slice_index piece) (sym is_found)

pub none_left : (piece text : List ℕ) (s i : ℕ) → 0 < length piece → slice_index text i ≢ slice_index piece 0 → IsTried piece text s i 0 → IsFound piece text s (i + 1) 0
none_left piece text s i some differs t = record {
  short = omega arith;
  here = λ k at j in_piece in_text. absurd (omega arith);
  before = λ k from earlier. by_place k from earlier (cases_lt k i);
}
  where
    by_place : (k : ℕ) → s ≤ k → k + 0 < i + 1 → ((k < i) ⊎ (i ≤ k)) → ¬ Agrees piece text k (i + 1)
    by_place k from earlier (inl below) = t.before k from (omega arith)
    by_place k from earlier (inr last) = one_differs piece text i 0 some differs k (omega arith)

-- the next shorter part that may go on is the border
pub shorter : (piece text : List ℕ) (s i found border : ℕ) → 0 < found → found < length piece → slice_index text i ≢ slice_index piece found → IsFound piece piece 1 found border → IsTried piece text s i found → IsTried piece text s i border
shorter piece text s i found border some in_piece differs b t = record {
  short = let short = t.short in let less = b.short in omega arith;
  here = λ k at j in_piece_j in_text. later k (found - border) (let less = b.short in omega arith) (let less = b.short in omega arith) j in_piece_j (omega arith);
  before = λ k from earlier. by_place k from earlier (cases_order (k + found) i);
}
  where
    -- e places behind the one where `found` characters stand
    at_both : (k e : ℕ) → k + found ≡ i + e → e ≤ found → (j : ℕ) → e + j < found → slice_index text (k + j) ≡ slice_index piece (e + j)
    at_both k e at within j below =
        let here = t.here (i - found) (let short = t.short in omega arith) (e + j) (omega arith) (let short = t.short in omega arith) in
        let same : k + j ≡ i - found + (e + j) = let short = t.short in omega arith in
        ap (slice_index text) same ∙ here

    later : (k e : ℕ) → k + found ≡ i + e → e + border ≡ found → (j : ℕ) → j < length piece → k + j < i → slice_index text (k + j) ≡ slice_index piece j
    later k e at is_border j in_piece_j in_text = at_both k e at (omega arith) j (omega arith) ∙ b.here e is_border j in_piece_j (omega arith)

    none : (k e : ℕ) → k + found ≡ i + e → 1 ≤ e → e + border < found → ¬ Agrees piece text k (i + 1)
    none k e at some_e below a =
        b.before e some_e below (λ j in_piece_j in_found. sym (at_both k e at (omega arith) j in_found) ∙ a j in_piece_j (omega arith))

    by_place : (k : ℕ) → s ≤ k → k + border < i → (k + found ≡ i) ⊎ ((k + found < i) ⊎ (i < k + found)) → ¬ Agrees piece text k (i + 1)
    by_place k from earlier (inl same) = one_differs piece text i found in_piece differs k same
    by_place k from earlier (inr (inl below)) = t.before k from below
    by_place k from earlier (inr (inr above)) = none k (k + found - i) (omega arith) (omega arith) (omega arith)

-- at the start nothing is found
pub none_yet : (piece text : List ℕ) (s i : ℕ) → i ≤ s → IsFound piece text s i 0
none_yet piece text s i first = record {
  short = omega arith;
  here = λ k at j in_piece in_text. absurd (omega arith);
  before = λ k from earlier. absurd (omega arith);
}

-- one border more
pub border_added : (piece borders more : List ℕ) (found : ℕ) → more ≡ borders ++ (found ∷ []) → AreBorders piece borders → IsFound piece piece 1 (length borders) found → AreBorders piece more
border_added piece borders more found e b f k below = by_place (cases_lt k (length borders))
  where
    by_place : ((k < length borders) ⊎ (length borders ≤ k)) → IsFound piece piece 1 k (slice_index more k)
    by_place (inl old) =
        subst (IsFound piece piece 1 k) (sym (ap (λ xs. slice_index xs k) e ∙ get_or_append_left borders (found ∷ []) 0 k old)) (b k old)
    by_place (inr last) =
        let is_last : length borders ≡ k = omega (arith, ap length e, length_push borders found) in
        subst (IsFound piece piece 1 k) (sym (ap (λ xs. slice_index xs k) e ∙ get_or_at borders found [] 0 k is_last)) (subst (λ n. IsFound piece piece 1 n found) is_last f)

-- what a read gives
pub read_at : (xs : List ℕ) (i x : ℕ) → i < length xs → x ≡ get_or xs i x → slice_index xs i ≡ x
read_at xs i x below is = get_or_default xs i 0 x below ∙ sym is
