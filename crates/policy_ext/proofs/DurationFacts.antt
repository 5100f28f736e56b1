-- Durations: what is read is written so, and what is written so is read.
use Rattle.std.proofs.Common.{◌≡◌, ◌↔◌, ℕ, ◌+◌, ◌*◌, ◌^◌, ◌<◌, ◌≤◌, inl, inr, ◌==◌, ◌&&◌, not, true≢false, Bool, true, false, List, [], ◌∷◌, ◌++◌, length, Option, Some, None, nat_lt, cond, refl, sym, ap, ◌∙◌, arith, ℤ}
use Rattle.std.proofs.Math.Nat.{le-mul_of_pos_right}
use Rattle.std.proofs.lemmas.Bool.{ltb-true, lt-ltb, eqb-true, eq-eqb, eqb-false, and_parts, ne_eqb, not-true}
use Rattle.std.specs.Char.{digit_value, is_digit}
use Rattle.std.specs.Option.{option_and_then, option_map}
use Rattle.std.specs.Prelude.{unwrap_or}
use Rattle.std.specs.Str.Parse.{AllDigits, IsNumeral, digits_value}
use Rattle.std.proofs.lemmas.Option.{same_Some}
use Rattle.policy_ext.specs.NumberReading.{number_of, onto, is_minus, without_minus}
use Rattle.policy_ext.specs.Sign.{sign, signed}
use Rattle.policy_ext.specs.Duration.{units, IsSumOf, IsDuration}
use Rattle.policy_ext.specs.DurationReading.{cut_digits, starts_new, strip, part_at, sum_from, duration_of}
use Rattle.policy_ext.proofs.NumberFacts.{bind, mapped, unless, guard, number_found, number_is, minus_found, signed_found, signed_is, size_of}

digits_found : (text : List ℕ) → text ≡ (cut_digits text).0 ++ (cut_digits text).1
digits_found [] = refl
digits_found (b ∷ bs) = split (is_digit b 10) (digits_found bs) where
  split : (t : Bool) → bs ≡ (cut_digits bs).0 ++ (cut_digits bs).1 → b ∷ bs ≡ (cond {A = List ℕ × List ℕ} t (onto b (cut_digits bs)) ([], b ∷ bs)).0 ++ (cond {A = List ℕ × List ℕ} t (onto b (cut_digits bs)) ([], b ∷ bs)).1
  split true later = ap (λ (l : List ℕ). b ∷ l) later
  split false later = refl

-- text that begins with another byte than a digit, or is empty
digits_are : (ds rest : List ℕ) → AllDigits 10 ds → cut_digits rest ≡ ([], rest) → cut_digits (ds ++ rest) ≡ (ds, rest)
digits_are [] rest all stop = stop
digits_are (d ∷ ds) rest all stop = rw (lt-ltb (digit_value d) 10 all.0, digits_are ds rest all.1 stop) refl

strip_found : (ls text rest : List ℕ) → strip ls text ≡ Some rest → (text ≡ ls ++ rest) × (starts_new rest ≡ true)
strip_found [] text rest e =
    let some = guard (starts_new text) (Some text) rest e in
    let is = same_Some _ _ some.1 in
    (is, ap starts_new (sym is) ∙ some.0)
strip_found (l ∷ ls) [] rest e = cc
strip_found (l ∷ ls) (b ∷ bs) rest e =
    let some = guard (b == l) (strip ls bs) rest e in
    let later = strip_found ls bs rest some.1 in
    (ap (λ (x : ℕ). x ∷ bs) (eqb-true b l some.0) ∙ ap (λ (r : List ℕ). l ∷ r) later.0, later.1)

strip_is : (ls rest : List ℕ) → starts_new rest ≡ true → strip ls (ls ++ rest) ≡ Some rest
strip_is [] rest new = rw (new) refl
strip_is (l ∷ ls) rest new = rw (eq-eqb l l refl) (strip_is ls rest new)

part_found : (letters text : List ℕ) (p : ℕ × List ℕ) → part_at letters text ≡ Some p → (digits : List ℕ) × IsNumeral 10 digits × (text ≡ digits ++ (letters ++ p.1)) × (p.0 ≡ digits_value 10 digits)
part_found letters text p e =
    let rest = bind _ (strip letters (cut_digits text).1) p e in
    let n = mapped _ (number_of 10 (cut_digits text).0) p rest.2 in
    let num = number_found 10 (cut_digits text).0 n.0 n.1 in
    let end = strip_found letters (cut_digits text).1 rest.0 rest.1 in
    ((cut_digits text).0, num.0, digits_found text ∙ ap (λ (l : List ℕ). (cut_digits text).0 ++ l) (end.0 ∙ ap (λ (q : ℕ × List ℕ). letters ++ q.1) n.2), ap (λ (q : ℕ × List ℕ). q.0) (sym n.2) ∙ num.1)

sum_found : (us : List (List ℕ × ℕ)) (text : List ℕ) (n out : ℕ) → sum_from us text n ≡ Some out → (m : ℕ) × IsSumOf us text m × (out ≡ n + m)
sum_found [] text n out e =
    let some = guard (length text == 0) (Some n) out e in
    (0, (empty text (eqb-true _ _ some.0), refl), omega (arith, same_Some _ _ some.1)) where
      empty : (l : List ℕ) → length l ≡ 0 → l ≡ []
      empty [] e = refl
      empty (x ∷ xs) e = absurd (omega (arith, e))
sum_found (u ∷ us) text n out e = by (part_at u.0 text) refl (sum_found us (unwrap_or (part_at u.0 text) (0, text)).1 (n + (unwrap_or (part_at u.0 text) (0, text)).0 * u.1) out e) where
  by : (o : Option (ℕ × List ℕ)) → part_at u.0 text ≡ o → ((m : ℕ) × IsSumOf us (unwrap_or o (0, text)).1 m × (out ≡ n + (unwrap_or o (0, text)).0 * u.1 + m)) → (m : ℕ) × IsSumOf (u ∷ us) text m × (out ≡ n + m)
  by (Some p) is later =
      let part = part_found u.0 text p is in
      (digits_value 10 part.0 * u.1 + later.0, inr (part.0, p.1, later.0, part.1, part.2, later.1, refl), omega (arith, later.2, ap (λ (k : ℕ). k * u.1) part.3))
  by None is later = (later.0, inl later.1, omega (arith, later.2))

pub strip_empty : (ls text : List ℕ) → 0 < length ls → length text < 1 → None ≡ strip ls text
strip_empty [] text some none = absurd (omega arith)
strip_empty (l ∷ ls) [] some none = refl
strip_empty (l ∷ ls) (b ∷ bs) some none = absurd (omega arith)

are_letters : List ℕ → Bool
are_letters [] = true
are_letters (l ∷ ls) = not (is_digit l 10) && are_letters ls

same : List ℕ → List ℕ → Bool
same [] [] = true
same [] (b ∷ bs) = false
same (a ∷ more) [] = false
same (a ∷ more) (b ∷ bs) = b == a && same more bs

not_digit : (d l : ℕ) → is_digit d 10 ≡ true → is_digit l 10 ≡ false → (d == l) ≡ false
not_digit d l digit letter = ne_eqb d l (λ e. absurd (true≢false (sym digit ∙ ap (λ (x : ℕ). is_digit x 10) e ∙ letter)))

strip_other : (u v rest : List ℕ) → are_letters u ≡ true → are_letters v ≡ true → same u v ≡ false → starts_new rest ≡ true → strip u (v ++ rest) ≡ None
unfolding are_letters same
strip_other [] [] rest lu lv other new = cc
strip_other [] (b ∷ bs) rest lu lv other new = rw (not-true (is_digit b 10) (and_parts _ _ lv).0) refl
strip_other (l ∷ ls) [] [] lu lv other new = refl
strip_other (l ∷ ls) [] (d ∷ ds) lu lv other new = rw (not_digit d l new (not-true (is_digit l 10) (and_parts _ _ lu).0)) refl
strip_other (l ∷ ls) (b ∷ bs) rest lu lv other new = by (b == l) other (λ o. strip_other ls bs rest (and_parts _ _ lu).1 (and_parts _ _ lv).1 o new) where
  by : (t : Bool) → (t && same ls bs) ≡ false → (same ls bs ≡ false → strip ls (bs ++ rest) ≡ None) → cond t (strip ls (bs ++ rest)) None ≡ None
  by true o later = later o
  by false o later = refl

differs_from : List ℕ → List (List ℕ × ℕ) → Bool
differs_from u [] = true
differs_from u (v ∷ vs) = not (same u v.0) && differs_from u vs

is_unit : List ℕ × ℕ → Bool
is_unit u = are_letters u.0 && (nat_lt 0 (length u.0) && nat_lt 0 u.1)

are_units : List (List ℕ × ℕ) → Bool
are_units [] = true
are_units (u ∷ us) = is_unit u && (differs_from u.0 us && are_units us)

new_start : (us : List (List ℕ × ℕ)) (text : List ℕ) (m : ℕ) → IsSumOf us text m → starts_new text ≡ true
new_start [] text m s = ap starts_new s.0
new_start (u ∷ us) text m (inl s) = new_start us text m s
new_start (u ∷ us) text m (inr s) = ap starts_new s.4 ∙ first s.0 (u.0 ++ s.1) s.3 where
  first : (ds rest : List ℕ) → IsNumeral 10 ds → starts_new (ds ++ rest) ≡ true
  first [] rest is = absurd (omega (arith, is.0))
  first (d ∷ ds) rest is = lt-ltb (digit_value d) 10 is.1.0

letters_stop : (ls rest : List ℕ) → are_letters ls ≡ true → nat_lt 0 (length ls) ≡ true → cut_digits (ls ++ rest) ≡ ([], ls ++ rest)
unfolding are_letters
letters_stop [] rest letters some = absurd (true≢false (sym some))
letters_stop (l ∷ ls) rest letters some =
    let letter : is_digit l 10 ≡ false = not-true (is_digit l 10) (and_parts (not (is_digit l 10)) (are_letters ls) letters).0 in
    rw (letter) refl

part_by : (letters text : List ℕ) (d : List ℕ × List ℕ) → cut_digits text ≡ d → part_at letters text ≡ option_and_then (λ rest. option_map (λ n. (n, rest)) (number_of 10 d.0)) (strip letters d.1)
part_by letters text d e = ap (λ (d : List ℕ × List ℕ). option_and_then (λ rest. option_map (λ n. (n, rest)) (number_of 10 d.0)) (strip letters d.1)) e

skip : (u : List ℕ) (us : List (List ℕ × ℕ)) (text : List ℕ) (m : ℕ) → are_letters u ≡ true → nat_lt 0 (length u) ≡ true → differs_from u us ≡ true → are_units us ≡ true → IsSumOf us text m → part_at u text ≡ None
unfolding differs_from are_units is_unit
skip u [] text m letters some differs units s = ap (part_at u) s.0 ∙ rw (sym (strip_empty u [] (ltb-true _ _ some) (omega arith))) refl
skip u (v ∷ vs) text m letters some differs units (inl s) = skip u vs text m letters some (and_parts _ _ differs).1 (and_parts _ _ (and_parts _ _ units).1).1 s
skip u (v ∷ vs) text m letters some differs units (inr s) =
    let unit = and_parts _ _ (and_parts _ _ units).0 in
    let stop = letters_stop v.0 s.1 unit.0 (and_parts _ _ unit.1).0 in
    let other = strip_other u v.0 s.1 letters unit.0 (not-true _ (and_parts _ _ differs).0) (new_start vs s.1 s.2 s.5) in
    ap (part_at u) s.4 ∙ part_by u (s.0 ++ (v.0 ++ s.1)) (s.0, v.0 ++ s.1) (digits_are s.0 (v.0 ++ s.1) s.3.1 stop) ∙ rw (other) refl

part_is : (u : List ℕ × ℕ) (digits rest : List ℕ) → is_unit u ≡ true → IsNumeral 10 digits → digits_value 10 digits < 2 ^ 64 → starts_new rest ≡ true → part_at u.0 (digits ++ (u.0 ++ rest)) ≡ Some (digits_value 10 digits, rest)
unfolding is_unit
part_is u digits rest unit num fits new =
    let parts = and_parts _ _ unit in
    let stop = letters_stop u.0 rest parts.0 (and_parts _ _ parts.1).0 in
    part_by u.0 (digits ++ (u.0 ++ rest)) (digits, u.0 ++ rest) (digits_are digits (u.0 ++ rest) num.1 stop) ∙ rw (strip_is u.0 rest new, number_is 10 digits (omega arith) num fits) refl

sum_is : (us : List (List ℕ × ℕ)) (text : List ℕ) (m n : ℕ) → are_units us ≡ true → IsSumOf us text m → m < 2 ^ 64 → sum_from us text n ≡ Some (n + m)
unfolding are_units is_unit
sum_is [] text m n good s fits = ap (λ (l : List ℕ). sum_from [] l n) s.0 ∙ ap Some (omega (arith, s.1))
sum_is (u ∷ us) text m n good (inl s) fits =
    let unit = and_parts _ _ (and_parts _ _ good).0 in
    let rest = and_parts _ _ (and_parts _ _ good).1 in
    let skipped = skip u.0 us text m unit.0 (and_parts _ _ unit.1).0 rest.0 rest.1 s in
    ap (λ (o : Option (ℕ × List ℕ)). sum_from us (unwrap_or o (0, text)).1 (n + (unwrap_or o (0, text)).0 * u.1)) skipped ∙ sum_is us text m (n + 0 * u.1) rest.1 s fits ∙ ap Some (omega arith)
sum_is (u ∷ us) text m n good (inr s) fits =
    let unit = and_parts _ _ (and_parts _ _ good).0 in
    let rest = and_parts _ _ (and_parts _ _ good).1 in
    let value : digits_value 10 s.0 ≤ digits_value 10 s.0 * u.1 = le-mul_of_pos_right (digits_value 10 s.0) (ltb-true _ _ (and_parts _ _ unit.1).1) in
    let part = part_is u s.0 s.1 (and_parts _ _ good).0 s.3 (omega (arith, value, s.6)) (new_start us s.1 s.2 s.5) in
    ap (λ (l : List ℕ). sum_from (u ∷ us) l n) s.4
    ∙ ap (λ (o : Option (ℕ × List ℕ)). sum_from us (unwrap_or o (0, s.0 ++ (u.0 ++ s.1))).1 (n + (unwrap_or o (0, s.0 ++ (u.0 ++ s.1))).0 * u.1)) part
    ∙ sum_is us s.1 s.2 (n + digits_value 10 s.0 * u.1) rest.1 s.5 (omega (arith, s.6)) ∙ ap Some (omega (arith, s.6))

duration_found : (text : List ℕ) (v : ℤ) → duration_of text ≡ Some v → IsDuration text v
duration_found text v e =
    let some = unless (length (without_minus text) == 0) _ v e in
    let n = bind _ (sum_from units (without_minus text) 0) v some.1 in
    let sum = sum_found units (without_minus text) 0 n.0 n.1 in
    let value = signed_found (is_minus text) n.0 v n.2 in
    let same_sum : n.0 ≡ sum.0 = omega (arith, sum.2) in
    record { minus = is_minus text; body = without_minus text; sum = sum.0; spelled = minus_found text; some = omega (arith, eqb-false _ _ some.0); is_sum = sum.1; value = value.0 ∙ ap (signed (is_minus text)) same_sum; fits = value.1 }

duration_is : (text : List ℕ) (v : ℤ) → IsDuration text v → duration_of text ≡ Some v
unfolding are_units is_unit differs_from same are_letters
duration_is text v d =
    let minus = minus_new d.minus d.body (new_start units d.body d.sum d.is_sum) d.some in
    let size = size_of d.minus d.sum (rw d.value at d.fits) in
    let sum = sum_is units d.body d.sum 0 refl d.is_sum (omega (arith, size)) in
    let plain : 0 + d.sum ≡ d.sum = omega arith in
    ap duration_of d.spelled ∙ rw (minus.0, minus.1) (rw (ne_eqb (length d.body) 0 (λ e. absurd (omega (arith, e, d.some)))) (rw (sum, plain) (signed_is d.minus d.sum (rw d.value at d.fits) ∙ ap Some (sym d.value)))) where
      minus_new : (m : Bool) (body : List ℕ) → starts_new body ≡ true → 0 < length body → (is_minus (sign m ++ body) ≡ m) × (without_minus (sign m ++ body) ≡ body)
      minus_new true body new some = (refl, refl)
      minus_new false [] new some = absurd (omega arith)
      minus_new false (b ∷ bs) new some =
          let other : (b == 45) ≡ false = not_digit b 45 new refl in
          (other, rw other refl)

pub duration_exact : (text : List ℕ) (v : ℤ) → (duration_of text ≡ Some v) ↔ IsDuration text v
duration_exact text v = (duration_found text v, duration_is text v)
