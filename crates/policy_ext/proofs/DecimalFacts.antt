-- What is read as a decimal is a decimal's text, and a decimal's text is read.
use Rattle.std.proofs.Common.{◌≡◌, ◌↔◌, ℕ, zero, suc, ◌+◌, ◌-◌, ◌*◌, ◌^◌, ◌≤◌, Bool, true, false, List, ◌∷◌, ◌++◌, length, Some, nat_lt, sym, ap, ◌∙◌, arith, ℤ, FitsSigned, w64}
use Rattle.std.proofs.lemmas.Bool.{ltb-false, le-ltb}
use Rattle.std.proofs.lemmas.Int.{ints}
use Rattle.std.proofs.Math.Nat.{le-mul_of_pos_right, one-le-pow}
use Rattle.std.specs.Str.Parse.{digits_value}
use Rattle.policy_ext.specs.Sign.{sign, signed}
use Rattle.policy_ext.specs.NumberReading.{number_of, cut, is_minus, without_minus}
use Rattle.policy_ext.specs.Decimal.{IsDecimal}
use Rattle.policy_ext.specs.DecimalReading.{decimal_from, decimal_of}
use Rattle.policy_ext.proofs.LackFacts.{cut_lacking, digits_lack}
use Rattle.policy_ext.proofs.NumberFacts.{bind, unless, number_found, number_is, cut_found, minus_found, minus_is, signed_found, signed_is}

decimal_found : (text : List ℕ) (v : ℤ) → decimal_of text ≡ Some v → IsDecimal text v
decimal_found text v e =
    let parts = bind _ (cut 46 (without_minus text)) v e in
    let few = unless (nat_lt 4 (length parts.0.1)) _ v parts.2 in
    let n = bind _ (number_of 10 parts.0.0) v few.1 in
    let m = bind _ (number_of 10 parts.0.1) v n.2 in
    let whole = number_found 10 _ n.0 n.1 in
    let part = number_found 10 _ m.0 m.1 in
    let value = signed_found _ _ v m.2 in
    record {
      minus = is_minus text;
      whole = parts.0.0;
      part = parts.0.1;
      spelled = minus_found text ∙ ap (λ (l : List ℕ). sign (is_minus text) ++ l) (cut_found 46 _ _ _ parts.1);
      whole_digits = whole.0;
      part_digits = part.0;
      short = omega (arith, ltb-false _ _ few.0);
      value = rw (sym whole.1, sym part.1) value.0;
      fits = value.1;
    }

bounded : (minus : Bool) (n : ℕ) (v : ℤ) → v ≡ signed minus n → FitsSigned w64 v → n ≤ 2 ^ 63
bounded true zero v is fits = omega arith
bounded true (suc n) v is fits = omega (arith, ints, fits.sfits, is)
bounded false n v is fits = omega (arith, ints, fits.sfits, is)

taken : {text : List ℕ} {v : ℤ} (d : IsDecimal text v) → digits_value 10 d.whole * 10000 + digits_value 10 d.part * 10 ^ (4 - length d.part) ≤ 2 ^ 63 → decimal_from d.minus d.whole d.part ≡ Some v
taken d size =
    let n = number_is 10 d.whole (omega arith) d.whole_digits (omega arith) in
    let m = number_is 10 d.part (omega arith) d.part_digits (omega (arith, le-mul_of_pos_right {m = 10 ^ (4 - length d.part)} (digits_value 10 d.part) (one-le-pow (4 - length d.part) 10 (omega arith)))) in
    rw (le-ltb 4 (length d.part) d.short, n, m) (signed_is d.minus _ (rw d.value at d.fits) ∙ ap Some (sym d.value))

decimal_is : (text : List ℕ) (v : ℤ) → IsDecimal text v → decimal_of text ≡ Some v
decimal_is text v d =
    let minus = minus_is d.minus d.whole (46 ∷ d.part) d.whole_digits in
    let is_sign : is_minus text ≡ d.minus = ap is_minus d.spelled ∙ minus.0 in
    let body : without_minus text ≡ d.whole ++ 46 ∷ d.part = ap without_minus d.spelled ∙ minus.1 in
    let parts = ap (cut 46) body ∙ cut_lacking 46 d.whole d.part (digits_lack 10 46 d.whole (omega arith) d.whole_digits.1) in
    let size = bounded d.minus _ v d.value d.fits in
    rw (parts, is_sign) (taken d size)

pub decimal_exact : (text : List ℕ) (v : ℤ) → (decimal_of text ≡ Some v) ↔ IsDecimal text v
decimal_exact text v = (decimal_found text v, decimal_is text v)
