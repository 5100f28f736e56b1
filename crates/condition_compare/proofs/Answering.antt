-- What is asked, and where it stands.
use Rattle.std.proofs.Common.{◌≡◌, ◌<◌, ℕ, zero, suc, Bool, true, false, List, [], ◌∷◌, ◌++◌, Option, Some, None, length, slice_get, refl, sym, ap, ◌∙◌, arith}
use Rattle.plain_lemmas.proofs.Options.{some_injective}
use Rattle.condition_compare.specs.Worlds.{World, answer_in, Matches, KeepsAsked}
use Rattle.condition_compare.specs.declared.asked.Asked.{Asked}

get_before : (xs ys : List Asked) (i : ℕ) (x : Asked) → slice_get xs i ≡ Some x → slice_get (xs ++ ys) i ≡ Some x
get_before [] ys i x h = absurd (cc)
get_before (y ∷ xs) ys zero x h = h
get_before (y ∷ xs) ys (suc i) x h = get_before xs ys i x h

get_last : (xs : List Asked) (x : Asked) → slice_get (xs ++ x ∷ []) (length xs) ≡ Some x
get_last [] x = refl
get_last (y ∷ xs) x = get_last xs x

pub asks_more : (old new : List Asked) (x : Asked) → new ≡ old ++ x ∷ [] → KeepsAsked old new
asks_more old new x is = record { before = λ w v m. record { at = λ i y h. m.at i y (ap (λ zs. slice_get zs i) is ∙ get_before old (x ∷ []) i y h) } }

pub last_asked : (old new : List Asked) (x : Asked) (n : ℕ) → new ≡ old ++ x ∷ [] → n ≡ length old → (w : World) (v : ℕ → Bool) → Matches w new v → v n ≡ answer_in w x
last_asked old new x n is at w v m = m.at n x (ap (λ zs. slice_get zs n) is ∙ ap (λ k. slice_get (old ++ x ∷ []) k) at ∙ get_last old x)

-- the assignment that a world gives
abbrev answer_or : World → Option Asked → Bool
answer_or w (Some x) = answer_in w x
answer_or w None = false

abbrev pub assigned : World → List Asked → ℕ → Bool
assigned w xs i = answer_or w (slice_get xs i)

pub assigned_matches : (w : World) (xs : List Asked) → Matches w xs (assigned w xs)
assigned_matches w xs = record { at = λ i x h. ap (answer_or w) h }
