-- IPv4: what is read is written so, and what is written so is read.
use Rattle.std.proofs.Common.{◌≡◌, ℕ, zero, suc, ◌^◌, ◌<◌, ◌≤◌, ◌==◌, ◌||◌, ◌&&◌, Bool, false, List, ◌∷◌, ◌++◌, length, Some, nat_lt, refl, sym, ap, ◌∙◌, arith}
use Rattle.std.proofs.lemmas.Bool.{ltb-false, le-ltb, eq-eqb, ne_eqb}
use Rattle.std.proofs.lemmas.Fmt.{decimal-digits_value, decimal_is_IsNumeral, first_decimal, decimal_digit}
use Rattle.std.proofs.lemmas.Str.Parse.{numerals_by_value, tells_digits}
use Rattle.std.specs.Fmt.{decimal}
use Rattle.std.specs.Prelude.{slice_index}
use Rattle.std.specs.Str.Parse.{digits_value}
use Rattle.std.proofs.lemmas.Option.{same_Some}
use Rattle.policy_ext.specs.NumberReading.{number_of, cut, plain_of}
use Rattle.policy_ext.specs.IpAddr.{IsIpv4}
use Rattle.policy_ext.specs.IpReading.{octet_at, ipv4_of}
use Rattle.policy_ext.proofs.LackFacts.{cut_lacking, digits_lack}
use Rattle.policy_ext.proofs.NumberFacts.{bind, mapped, unless, number_found, number_is, cut_found, neither}

no_zero : (x len : ℕ) → (x == 48 && nat_lt 1 len) ≡ false → 0 < len → x ≡ 48 → len ≡ 1
no_zero x len e some is = one (ap (λ (t : Bool). t && nat_lt 1 len) (sym (eq-eqb x 48 is)) ∙ e) where
  one : nat_lt 1 len ≡ false → len ≡ 1
  one f = omega (arith, ltb-false 1 len f)

pub plain_found : (most : ℕ) (ds : List ℕ) (n : ℕ) → most < 2 ^ 64 → plain_of most ds ≡ Some n → (ds ≡ decimal n) × (n ≤ most)
plain_found most ds n fits e =
    let read = bind _ (number_of 10 ds) n e in
    let num = number_found 10 ds read.0 read.1 in
    let kept = unless (nat_lt most read.0 || (slice_index ds 0 == 48 && nat_lt 1 (length ds))) (Some read.0) n read.2 in
    let tests = neither _ _ kept.0 in
    let is : read.0 ≡ n = same_Some _ _ kept.1 in
    let low : read.0 ≤ most = ltb-false _ _ tests.0 in
    let value : digits_value 10 ds ≡ n = sym num.1 ∙ is in
    let spelled : decimal (digits_value 10 ds) ≡ ds = decimal-digits_value (numerals_by_value _ tells_digits) ds num.0.1 num.0.0 (no_zero _ _ tests.1 num.0.0) (omega arith) in
    (sym spelled ∙ ap decimal value, omega arith)

plain_test : (n : ℕ) → n < 2 ^ 64 → (slice_index (decimal n) 0 == 48 && nat_lt 1 (length (decimal n))) ≡ false
plain_test zero fits = rw (decimal_digit 0 (omega arith)) refl
plain_test (suc n) fits = rw (ne_eqb (slice_index (decimal (suc n)) 0) 48 (λ e. absurd (omega (arith, first_decimal (suc n) (omega arith) fits)))) refl

pub plain_is : (most n : ℕ) → most < 2 ^ 64 → n ≤ most → plain_of most (decimal n) ≡ Some n
plain_is most n fits low =
    let num = decimal_is_IsNumeral n (omega arith) in
    let read = number_is 10 (decimal n) (omega arith) num.0 (omega (arith, num.1)) ∙ ap Some num.1 in
    rw (read) (rw (le-ltb most n low, plain_test n (omega arith)) refl)

octet_found : (text : List ℕ) (p : ℕ × List ℕ) → octet_at text ≡ Some p → (text ≡ decimal p.0 ++ 46 ∷ p.1) × (p.0 ≤ 255)
octet_found text p e =
    let parts = bind _ (cut 46 text) p e in
    let read = mapped (λ n. (n, parts.0.1)) (plain_of 255 parts.0.0) p parts.2 in
    let plain = plain_found 255 parts.0.0 read.0 (omega arith) read.1 in
    let front : parts.0.0 ≡ decimal p.0 = plain.0 ∙ ap (λ (q : ℕ × List ℕ). decimal q.0) read.2 in
    let back : parts.0.1 ≡ p.1 = ap (λ (q : ℕ × List ℕ). q.1) read.2 in
    let size : read.0 ≡ p.0 = ap (λ (q : ℕ × List ℕ). q.0) read.2 in
    (cut_found 46 text parts.0.0 parts.0.1 parts.1 ∙ ap (λ (l : List ℕ). l ++ 46 ∷ parts.0.1) front ∙ ap (λ (l : List ℕ). decimal p.0 ++ 46 ∷ l) back, omega (arith, plain.1))

octet_is : (n : ℕ) (rest : List ℕ) → n ≤ 255 → octet_at (decimal n ++ 46 ∷ rest) ≡ Some (n, rest)
octet_is n rest low =
    let num = decimal_is_IsNumeral n (omega arith) in
    rw (cut_lacking 46 (decimal n) rest (digits_lack 10 46 (decimal n) (omega arith) num.0.1)) (rw (plain_is 255 n (omega arith) low) refl)

pub ipv4_found : (text : List ℕ) (bits : ℕ) → ipv4_of text ≡ Some bits → IsIpv4 text bits
ipv4_found text bits e =
    let a = bind _ (octet_at text) bits e in
    let b = bind _ (octet_at a.0.1) bits a.2 in
    let c = bind _ (octet_at b.0.1) bits b.2 in
    let d = mapped _ (plain_of 255 c.0.1) bits c.2 in
    let first = octet_found text a.0 a.1 in
    let second = octet_found a.0.1 b.0 b.1 in
    let third = octet_found b.0.1 c.0 c.1 in
    let last = plain_found 255 c.0.1 d.0 (omega arith) d.1 in
    record {
      first = a.0.0;
      second = b.0.0;
      third = c.0.0;
      fourth = d.0;
      first_fits = first.1;
      second_fits = second.1;
      third_fits = third.1;
      fourth_fits = last.1;
      spelled = first.0 ∙ ap (λ (l : List ℕ). decimal a.0.0 ++ 46 ∷ l) (second.0 ∙ ap (λ (l : List ℕ). decimal b.0.0 ++ 46 ∷ l) (third.0 ∙ ap (λ (l : List ℕ). decimal c.0.0 ++ 46 ∷ l) last.0));
      value = sym d.2;
    }

pub ipv4_is : (text : List ℕ) (bits : ℕ) → IsIpv4 text bits → ipv4_of text ≡ Some bits
ipv4_is text bits v =
    ap ipv4_of v.spelled
    ∙ rw (octet_is v.first (decimal v.second ++ 46 ∷ (decimal v.third ++ 46 ∷ decimal v.fourth)) v.first_fits) (rw (octet_is v.second (decimal v.third ++ 46 ∷ decimal v.fourth) v.second_fits) (rw (octet_is v.third (decimal v.fourth) v.third_fits) (rw (plain_is 255 v.fourth (omega arith) v.fourth_fits) (ap Some (sym v.value)))))
