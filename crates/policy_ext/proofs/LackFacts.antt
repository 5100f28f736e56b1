-- Bytes that a text has, and cuts at them.
use Rattle.std.proofs.Common.{◌≡◌, ℕ, ◌^◌, ◌<◌, ◌≤◌, ◌==◌, ◌||◌, Bool, true, false, List, [], ◌∷◌, ◌++◌, Some, None, refl, ap, arith}
use Rattle.std.proofs.lemmas.Bool.{eq-eqb, ne_eqb}
use Rattle.std.proofs.lemmas.Fmt.{decimal_is_IsNumeral}
use Rattle.std.specs.Char.{digit_value}
use Rattle.std.specs.Fmt.{decimal}
use Rattle.std.specs.Str.Parse.{AllDigits}
use Rattle.policy_ext.specs.NumberReading.{cut}
use Rattle.policy_ext.proofs.NumberFacts.{neither}

-- the byte stands in the text
unfoldable pub has : ℕ → List ℕ → Bool
has c [] = false
has c (b ∷ bs) = (b == c) || has c bs

pub has_append : (c : ℕ) (xs ys : List ℕ) → has c xs ≡ false → has c ys ≡ false → has c (xs ++ ys) ≡ false
unfolding has
has_append c [] ys h k = k
has_append c (x ∷ xs) ys h k = let n = neither (x == c) (has c xs) h in rw (n.0) (has_append c xs ys n.1 k)

pub has_next : (c b : ℕ) (xs : List ℕ) → (b ≡ c → ⊥) → has c xs ≡ false → has c (b ∷ xs) ≡ false
unfolding has
has_next c b xs h k = rw (ne_eqb b c h) k

pub digits_lack : (radix c : ℕ) (ds : List ℕ) → radix ≤ digit_value c → AllDigits radix ds → has c ds ≡ false
unfolding has
digits_lack radix c [] h all = refl
digits_lack radix c (d ∷ ds) h all = has_next c d ds (λ e. absurd (omega (arith, all.0, ap digit_value e))) (digits_lack radix c ds h all.1)

pub decimal_lacks : (c n : ℕ) → 10 ≤ digit_value c → n < 2 ^ 64 → has c (decimal n) ≡ false
decimal_lacks c n h fits = digits_lack 10 c (decimal n) h (decimal_is_IsNumeral n fits).0.1

pub cut_none : (c : ℕ) (bs : List ℕ) → has c bs ≡ false → cut c bs ≡ None
unfolding has
cut_none c [] h = refl
cut_none c (b ∷ bs) h = let n = neither (b == c) (has c bs) h in rw (n.0, cut_none c bs n.1) refl

pub cut_lacking : (c : ℕ) (front back : List ℕ) → has c front ≡ false → cut c (front ++ c ∷ back) ≡ Some (front, back)
unfolding has
cut_lacking c [] back h = rw (eq-eqb c c refl) refl
cut_lacking c (b ∷ bs) back h = let n = neither (b == c) (has c bs) h in rw (n.0, cut_lacking c bs back n.1) refl

pub has_between : (c : ℕ) (xs ys : List ℕ) → has c (xs ++ c ∷ ys) ≡ true
unfolding has
has_between c [] ys = rw (eq-eqb c c refl) refl
has_between c (x ∷ xs) ys = rw (has_between c xs ys) (either (x == c)) where
  either : (t : Bool) → (t || true) ≡ true
  either true = refl
  either false = refl
