-- Numbers, signs and cuts: what is read is written so, and what is written so is read.
use Rattle.std.proofs.Common.{◌||◌, ◌≡◌, ℕ, zero, suc, ◌+◌, ◌*◌, ◌^◌, ◌<◌, ◌≤◌, Bool, true, false, ◌==◌, List, [], ◌∷◌, ◌++◌, length, Option, Some, None, nat_lt, if◌then◌else◌, cond, refl, sym, ap, arith, ℤ, pos, neg_ℤ, FitsSigned, w64}
use Rattle.std.proofs.lemmas.Bool.{ltb-true, lt-ltb, ltb-false, le-ltb, eqb-true, eqb-false, and_parts, ne_eqb}
use Rattle.std.proofs.lemmas.Int.{ints}
use Rattle.std.proofs.Math.Nat.{le-mul_of_pos_right}
use Rattle.std.specs.Option.{option_and_then, option_map}
use Rattle.std.specs.Char.{digit_value}
use Rattle.std.specs.Str.Parse.{AllDigits, IsNumeral, digits_value, digits_value_after}
use Rattle.std.proofs.lemmas.Option.{same_Some}
use Rattle.policy_ext.specs.Sign.{sign, signed}
use Rattle.policy_ext.specs.NumberReading.{number_after, number_of, cut, onto, is_minus, without_minus, signed_of}

pub guard : {X : Type 0} (b : Bool) (o : Option X) (x : X) → (if b then o else None) ≡ Some x → (b ≡ true) × (o ≡ Some x)
guard true o x e = (refl, e)
guard false o x e = cc

pub unless : {X : Type 0} (b : Bool) (o : Option X) (x : X) → (if b then None else o) ≡ Some x → (b ≡ false) × (o ≡ Some x)
unless true o x e = cc
unless false o x e = (refl, e)

pub bind : {X Y : Type 0} (f : X → Option Y) (o : Option X) (y : Y) → option_and_then f o ≡ Some y → (x : X) × (o ≡ Some x) × (f x ≡ Some y)
bind f (Some x) y e = (x, refl, e)
bind f None y e = cc

pub mapped : {X Y : Type 0} (f : X → Y) (o : Option X) (y : Y) → option_map f o ≡ Some y → (x : X) × (o ≡ Some x) × (f x ≡ y)
mapped f (Some x) y e = (x, refl, cc)
mapped f None y e = cc

pub neither : (a b : Bool) → (a || b) ≡ false → (a ≡ false) × (b ≡ false)
neither true b e = cc
neither false b e = (refl, e)

number_after_found : (radix n : ℕ) (ds : List ℕ) (m : ℕ) → number_after radix n ds ≡ Some m → AllDigits radix ds × (m ≡ digits_value_after radix n ds)
number_after_found radix n [] m e = (tt, cc)
number_after_found radix n (c ∷ cs) m e =
    let step = guard _ _ m e in
    let tests = and_parts _ _ step.0 in
    let rest = number_after_found radix (n * radix + digit_value c) cs m step.1 in
    ((ltb-true _ _ tests.0, rest.0), rest.1)

value_grows : (radix n : ℕ) (ds : List ℕ) → 0 < radix → n ≤ digits_value_after radix n ds
value_grows radix n [] h = omega arith
value_grows radix n (c ∷ cs) h = omega (arith, value_grows radix (n * radix + digit_value c) cs h, le-mul_of_pos_right n h)

number_after_is : (radix n : ℕ) (ds : List ℕ) → 0 < radix → AllDigits radix ds → digits_value_after radix n ds < 2 ^ 64 → number_after radix n ds ≡ Some (digits_value_after radix n ds)
number_after_is radix n [] h all fits = refl
number_after_is radix n (c ∷ cs) h all fits =
    let low : n * radix + digit_value c < 2 ^ 64 = omega (arith, value_grows radix (n * radix + digit_value c) cs h) in
    rw (lt-ltb _ _ all.0, lt-ltb _ _ low) (number_after_is radix (n * radix + digit_value c) cs h all.1 fits)

pub number_found : (radix : ℕ) (ds : List ℕ) (m : ℕ) → number_of radix ds ≡ Some m → IsNumeral radix ds × (m ≡ digits_value radix ds)
number_found radix ds m e =
    let some = unless (length ds == 0) (number_after radix 0 ds) m e in
    let found = number_after_found radix 0 ds m some.1 in
    ((omega (arith, eqb-false (length ds) 0 some.0), found.0), found.1)

pub number_is : (radix : ℕ) (ds : List ℕ) → 0 < radix → IsNumeral radix ds → digits_value radix ds < 2 ^ 64 → number_of radix ds ≡ Some (digits_value radix ds)
number_is radix ds h is fits = rw (ne_eqb (length ds) 0 (omega (arith, is.0))) (number_after_is radix 0 ds h is.1 fits)

cut_step : (c b : ℕ) (bs front back : List ℕ) (t : Bool) → (b == c) ≡ t → ((f g : List ℕ) → cut c bs ≡ Some (f, g) → bs ≡ f ++ c ∷ g) → cond {A = Option (List ℕ × List ℕ)} t (Some ([], bs)) (option_map (onto b) (cut c bs)) ≡ Some (front, back) → b ∷ bs ≡ front ++ c ∷ back
cut_step c b bs front back true is later e =
    let p = same_Some _ _ e in
    let here : b ≡ c = eqb-true b c is in
    rw (sym (ap (λ (p : List ℕ × List ℕ). p.0) p), sym (ap (λ (p : List ℕ × List ℕ). p.1) p), here) refl
cut_step c b bs front back false is later e = mapped (cut c bs) refl e where
  mapped : (o : Option (List ℕ × List ℕ)) → cut c bs ≡ o → option_map (onto b) o ≡ Some (front, back) → b ∷ bs ≡ front ++ c ∷ back
  mapped (Some q) was e =
      let p = same_Some _ _ e in
      rw (sym (ap (λ (p : List ℕ × List ℕ). p.0) p), sym (ap (λ (p : List ℕ × List ℕ). p.1) p)) (ap (λ (l : List ℕ). b ∷ l) (later q.0 q.1 was))
  mapped None was e = cc

pub cut_found : (c : ℕ) (bs front back : List ℕ) → cut c bs ≡ Some (front, back) → bs ≡ front ++ c ∷ back
cut_found c [] front back e = cc
cut_found c (b ∷ bs) front back e = cut_step c b bs front back (b == c) refl (cut_found c bs) e

pub minus_found : (text : List ℕ) → text ≡ sign (is_minus text) ++ without_minus text
minus_found [] = refl
minus_found (b ∷ bs) = split (b == 45) refl where
  split : (t : Bool) → (b == 45) ≡ t → b ∷ bs ≡ sign t ++ cond t bs (b ∷ bs)
  split true is = rw (eqb-true b 45 is) refl
  split false is = refl

-- a text that begins with a digit after its sign
pub minus_is : (minus : Bool) (ds back : List ℕ) → IsNumeral 10 ds → (is_minus (sign minus ++ (ds ++ back)) ≡ minus) × (without_minus (sign minus ++ (ds ++ back)) ≡ ds ++ back)
minus_is true ds back is = (refl, refl)
minus_is false [] back is = absurd (omega (arith, is.0))
minus_is false (b ∷ ds) back is =
    let other : (b == 45) ≡ false = ne_eqb b 45 (λ e. absurd (omega (arith, is.1.0, ap digit_value e))) in
    (other, rw other refl)

pub signed_found : (minus : Bool) (n : ℕ) (v : ℤ) → signed_of minus n ≡ Some v → (v ≡ signed minus n) × FitsSigned w64 v
signed_found true n v e =
    let some = unless (nat_lt (2 ^ 63) n) (Some (neg_ℤ (pos n))) v e in
    let is : v ≡ neg_ℤ (pos n) = cc in
    (is, omega (arith, ints, ltb-false _ _ some.0))
signed_found false n v e =
    let some = guard (nat_lt n (2 ^ 63)) (Some (pos n)) v e in
    let is : v ≡ pos n = cc in
    (is, omega (arith, ints, ltb-true _ _ some.0))

small : (n : ℕ) → FitsSigned w64 (neg_ℤ (pos n)) → n ≤ 2 ^ 63
small zero fits = omega arith
small (suc n) fits = omega (arith, fits.sfits)

pub signed_is : (minus : Bool) (n : ℕ) → FitsSigned w64 (signed minus n) → signed_of minus n ≡ Some (signed minus n)
signed_is true n fits = rw (le-ltb (2 ^ 63) n (small n fits)) refl
signed_is false n fits = rw (lt-ltb n (2 ^ 63) (omega (arith, ints))) refl

-- a number that fits with its sign
pub size_of : (minus : Bool) (n : ℕ) → FitsSigned w64 (signed minus n) → n ≤ 2 ^ 63
size_of true n fits = small n fits
size_of false n fits = omega (arith, ints)
