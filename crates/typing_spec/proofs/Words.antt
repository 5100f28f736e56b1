-- A word is a name.
use Rattle.std.proofs.Common.{◌≡◌, ℕ, suc, zero, List, [], ◌∷◌, slice_index, EachIndex, true, ◌||◌, arith, inl, codes}
use Rattle.std.specs.List.{list_all}
use Rattle.std.proofs.lemmas.Bool.{and_parts}
use Rattle.std.proofs.lemmas.Bool.Decides.{nat_tests}
use Rattle.policy_values.specs.Name.{IsHead, IsTail, IsName, last}
use Rattle.typing_spec.specs.Words.{is_letter, is_digit, is_word}

head : (c : ℕ) → is_letter c ≡ true → IsHead c
head c e = grind (arith, nat_tests)

tail : (c : ℕ) → (is_letter c || is_digit c) ≡ true → IsTail c
tail c e = grind (arith, nat_tests)

tails : (cs : List ℕ) → list_all (λ d. is_letter d || is_digit d) cs ≡ true → EachIndex cs (λ k. IsTail (slice_index cs k))
tails [] e k h = absurd (omega arith)
tails (c ∷ cs) e zero h = tail c (and_parts (is_letter c || is_digit c) _ e).0
tails (c ∷ cs) e (suc k) h = tails cs (and_parts (is_letter c || is_digit c) _ e).1 k (omega arith)

not_reserved : (c : ℕ) → is_letter c ≡ true → c ≡ 95 → ⊥
not_reserved c e h = grind (arith, nat_tests)

pub word_is_name : (cs : List ℕ) → is_word cs ≡ true → IsName cs
word_is_name [] e = cc
word_is_name (c ∷ cs) e =
    let p = and_parts (is_letter c) (list_all (λ d. is_letter d || is_digit d) cs) e in
    let each : EachIndex (c ∷ cs) (λ k. IsTail (slice_index (c ∷ cs) k)) = tails_after c cs (head c p.0) p.1 in
    last (c ∷ cs) (record { long = omega arith; head = head c p.0; each = each; allowed = λ h. not_reserved c p.0 (heads c cs h) })
  where
    tails_after : (c : ℕ) (cs : List ℕ) → IsHead c → list_all (λ d. is_letter d || is_digit d) cs ≡ true → EachIndex (c ∷ cs) (λ k. IsTail (slice_index (c ∷ cs) k))
    tails_after c cs h e zero l = inl h
    tails_after c cs h e (suc k) l = tails cs e k (omega arith)

    heads : (c : ℕ) (cs : List ℕ) → c ∷ cs ≡ codes "__cedar" → c ≡ 95
    heads c cs h = cc
