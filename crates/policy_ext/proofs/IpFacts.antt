-- Addresses: what is read is written so, and what is written so is read.
use Rattle.std.proofs.Common.{◌≡◌, ℕ, suc, ◌+◌, ◌-◌, ◌*◌, ◌^◌, ◌<◌, ◌≤◌, ◌==◌, Bool, true, false, List, [], ◌∷◌, length, Option, Some, None, cond, refl, sym, ap, ◌∙◌, arith, add-one, length-append}
use Rattle.std.proofs.Math.Nat.{pow-suc, pow-le-pow_right, one-le-pow, pow-succ', mul_assoc, le-mul_of_pos_right, mul-le-mul_right, suc-mul}
use Rattle.std.proofs.lemmas.Int.Digits.{digits_value-lt}
use Rattle.std.proofs.lemmas.Nat.{pow-add}
use Rattle.std.specs.List.{slice_split, onto_first}
use Rattle.std.specs.Option.{option_and_then, option_map}
use Rattle.std.specs.Prelude.{IfSome}
use Rattle.policy_ext.specs.NumberReading.{number_of, cut, onto}
use Rattle.policy_ext.specs.IpReading.{is_colon, groups_after, with_group_of}
use Rattle.policy_ext.proofs.NumberFacts.{number_found, cut_found}

pub one_group_more : (count bits n : ℕ) → bits < 65536 ^ count → n < 65536 → bits * 65536 + n < 65536 ^ (count + 1)
one_group_more count bits n h small = rw (add-one) (omega (arith, pow-suc 65536 count))

pub fits_128 : (count n : ℕ) → count ≤ 8 → n < 65536 ^ count → n < 2 ^ 128
fits_128 count n few small = omega (arith, pow-le-pow_right {n = 65536} (omega arith) few)

number_small : (text : List ℕ) (n : ℕ) → number_of 16 text ≡ Some n → length text ≤ 4 → n < 65536
number_small text n e few =
    let is = number_found 16 text n e in
    omega (arith, digits_value-lt 16 text is.0.1, is.1, pow-le-pow_right {n = 16} (omega arith) few)

pub number_small_if : (text : List ℕ) (r : Option ℕ) → r ≡ number_of 16 text → length text ≤ 4 → IfSome r (λ n. n < 65536)
number_small_if text (Some n) e few = number_small text n (sym e) few
number_small_if text None e few = tt

pub shift_step : (n i more : ℕ) → i < more → (n * 65536) * 65536 ^ (more - (i + 1)) ≡ n * 65536 ^ (more - i)
shift_step n i more h =
    let next : more - i ≡ suc (more - (i + 1)) = omega arith in
    rw (next, pow-succ' 65536 (more - (i + 1))) (mul_assoc n 65536 (65536 ^ (more - (i + 1))))

pub shift_small : (n i more : ℕ) → i < more → n * 65536 ^ (more - i) < 2 ^ 128 → n * 65536 < 2 ^ 128
shift_small n i more h small = omega (arith, shift_step n i more h, le-mul_of_pos_right {m = 65536 ^ (more - (i + 1))} (n * 65536) (one-le-pow (more - (i + 1)) 65536 (omega arith)))

pub shift_room : (l r bits right : ℕ) → l + r < 8 → bits < 65536 ^ l → right < 65536 ^ r → bits * 65536 ^ (8 - l) + right < 2 ^ 128
shift_room l r bits right few small low =
    let rest : l + (8 - l) ≡ 8 = omega arith in
    let whole : 65536 ^ l * 65536 ^ (8 - l) ≡ 65536 ^ 8 = sym (pow-add 65536 l (8 - l)) ∙ ap (λ k. 65536 ^ k) rest in
    let tops : suc bits * 65536 ^ (8 - l) ≤ 65536 ^ l * 65536 ^ (8 - l) = mul-le-mul_right (65536 ^ (8 - l)) small in
    let under : 65536 ^ r ≤ 65536 ^ (8 - l) = pow-le-pow_right {n = 65536} (omega arith) (omega arith) in
    omega (arith, whole, tops, under, suc-mul bits (65536 ^ (8 - l)))

-- the pieces between colons, by the first of them
pieces_by : List ℕ → Option (List ℕ × List ℕ) → List (List ℕ)
pieces_by bs (Some p) = p.0 ∷ slice_split is_colon p.1
pieces_by bs None = bs ∷ []

pieces_by_cut : (bs : List ℕ) → slice_split is_colon bs ≡ pieces_by bs (cut 58 bs)
unfolding pieces_by
pieces_by_cut [] = refl
pieces_by_cut (b ∷ bs) = by_first (b == 58) (cut 58 bs) (pieces_by_cut bs) where
  by_first : (t : Bool) (o : Option (List ℕ × List ℕ)) → slice_split is_colon bs ≡ pieces_by bs o → cond t ([] ∷ slice_split is_colon bs) (onto_first b (slice_split is_colon bs)) ≡ pieces_by (b ∷ bs) (cond {A = Option (List ℕ × List ℕ)} t (Some ([], bs)) (option_map (onto b) o))
  by_first true o e = refl
  by_first false (Some p) e = rw e refl
  by_first false None e = rw e refl

-- one step of reading groups: r is what the first piece gives
pub groups_step : (bs f g : List ℕ) (read : ℕ × ℕ) (r all : Option (ℕ × ℕ)) → Some (f, g) ≡ cut 58 bs → r ≡ with_group_of read f → groups_after read (slice_split is_colon bs) ≡ all → option_and_then (λ next. groups_after next (slice_split is_colon g)) r ≡ all
unfolding pieces_by
groups_step bs f g read r all e w h = ap (option_and_then (λ next. groups_after next (slice_split is_colon g))) w ∙ sym (ap (groups_after read) (pieces_by_cut bs ∙ ap (pieces_by bs) (sym e))) ∙ h

then_some : {X : Type 0} (o : Option X) → option_and_then (λ x. Some x) o ≡ o
then_some (Some x) = refl
then_some None = refl

pub groups_last : (bs : List ℕ) (read : ℕ × ℕ) (all : Option (ℕ × ℕ)) → None ≡ cut 58 bs → groups_after read (slice_split is_colon bs) ≡ all → with_group_of read bs ≡ all
unfolding pieces_by
groups_last bs read all e h = sym (ap (groups_after read) (pieces_by_cut bs ∙ ap (pieces_by bs) (sym e)) ∙ then_some (with_group_of read bs)) ∙ h

pub cut_shorter : (c : ℕ) (bs f g : List ℕ) → Some (f, g) ≡ cut c bs → length g < length bs
cut_shorter c bs f g e = omega (arith, simp length-append at (ap length (cut_found c bs f g (sym e))))
