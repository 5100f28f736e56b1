-- Day numbers of dates, by jiff's calendar.
use Rattle.std.proofs.Common.{◌≡◌, ◌↔◌, ℕ, ◌*◌, ◌≤◌, Some, refl, sym, ap, ◌∙◌, arith, ℤ, pos, negsuc, ◌-ℤ◌, ◌*ℤ◌, neg_ℤ, zero, suc, ◌/◌, ◌<◌, int_div, FitsSigned, w8, w16, w32, w64, to_z, of_z}
use Rattle.std.proofs.lemmas.Int.{ints, to_z_pos, to_z-of_z}
use Rattle.jiff.proofs.Family.{epoch_day_same, epoch_day_range}
use Rattle.jiff.proofs.OnLiterals.{jiff_on_literals}
use Rattle.jiff.specs.Types.{Date}
use Rattle.jiff.specs.Words.{IsYmd, epoch_day}
use Rattle.std.proofs.lemmas.Option.{same_Some}
use Rattle.policy_ext.specs.DateTimeReading.{IsDayOf}

pub same_nat : {a b : ℕ} → pos a ≡ pos b → a ≡ b
same_nat e = cc

epoch : Date
epoch = record { year = pos 1970; month = 1; day = 1; year_in = (omega (arith, ints), omega (arith, ints)); month_in = (omega arith, omega arith); day_in = (omega arith, omega arith) }

zero_day : (date : Date) → IsYmd (pos 1970) (pos 1) (pos 1) date → epoch_day date ≡ pos 0
unfolding jiff_on_literals epoch
zero_day date is = epoch_day_same date epoch is.0 (same_nat is.1) (same_nat is.2) ∙ refl

negative_quotient : (m d : ℕ) → 0 < m → int_div (neg_ℤ (pos m)) (pos d) ≡ neg_ℤ (pos (m / d))
negative_quotient zero d h = absurd (omega arith)
negative_quotient (suc m) d h = refl

hours_of_days : (n : ℤ) → int_div (n *ℤ pos 86400000000000) (pos 3600000000000) ≡ n *ℤ pos 24
hours_of_days (pos n) = ap pos (omega arith)
hours_of_days (negsuc n) = negative_quotient (suc n * 86400000000000) 3600000000000 (omega arith) ∙ ap (λ k. neg_ℤ (pos k)) (omega arith)

days_of_hours : (n : ℤ) → int_div (n *ℤ pos 24) (pos 24) ≡ n
days_of_hours (pos n) = ap pos (omega arith)
days_of_hours (negsuc n) = let whole : suc n * 24 / 24 ≡ suc n = omega arith in negative_quotient (suc n * 24) 24 (omega arith) ∙ ap (λ k. neg_ℤ (pos k)) whole

-- the hours between midnight of 1970-01-01 and of another date
hours_between : (date start : Date) (nanos hours : ℤ) → IsYmd (pos 1970) (pos 1) (pos 1) start → nanos ≡ (epoch_day date -ℤ epoch_day start) *ℤ pos 86400000000000 → hours ≡ int_div nanos (pos 3600000000000) → hours ≡ epoch_day date *ℤ pos 24
hours_between date start nanos hours is e h =
    let plain : epoch_day date -ℤ epoch_day start ≡ epoch_day date = omega (arith, ints, zero_day start is) in
    h ∙ ap (λ k. int_div k (pos 3600000000000)) (e ∙ ap (λ k. k *ℤ pos 86400000000000) plain) ∙ hours_of_days (epoch_day date)

pub day_fits : (date : Date) → FitsSigned w32 (epoch_day date)
day_fits date = let range = epoch_day_range date in omega (arith, ints, range)

-- and their quotient
pub days_between : (date start : Date) (nanos hours : ℤ) → FitsSigned w64 hours → IsYmd (pos 1970) (pos 1) (pos 1) start → nanos ≡ (epoch_day date -ℤ epoch_day start) *ℤ pos 86400000000000 → hours ≡ int_div nanos (pos 3600000000000) → to_z w64 (of_z w64 (int_div (to_z w64 (of_z w64 hours)) (pos 24))) ≡ epoch_day date
days_between date start nanos hours fits is e h =
    let range = epoch_day_range date in
    let days = ap (λ k. int_div k (pos 24)) (to_z-of_z w64 hours fits ∙ hours_between date start nanos hours is e h) ∙ days_of_hours (epoch_day date) in
    ap (λ k. to_z w64 (of_z w64 k)) days ∙ to_z-of_z w64 (epoch_day date) (omega (arith, ints, range))

-- one date has these parts, and it has one day number
pub day_is : (year month day : ℕ) (date : Date) (number n : ℤ) → IsYmd (pos year) (pos month) (pos day) date → number ≡ epoch_day date → (Some number ≡ Some n) ↔ IsDayOf year month day n
day_is year month day date number n is e = (
  λ same. (date, is, sym (same_Some _ _ same) ∙ e),
  λ of. ap Some (e ∙ epoch_day_same date of.0 (is.0 ∙ sym of.1.0) (same_nat (is.1 ∙ sym of.1.1)) (same_nat (is.2 ∙ sym of.1.2)) ∙ sym of.2),
)

-- the parts as the numbers of 16 and 8 bits that jiff takes
pub narrow_parts : (year month day : ℕ) (date : Date) → year ≤ 9999 → month ≤ 99 → day ≤ 99 → IsYmd (to_z w16 year) (to_z w8 month) (to_z w8 day) date → IsYmd (pos year) (pos month) (pos day) date
narrow_parts year month day date fy fm fd is = (is.0 ∙ to_z_pos w16 year (omega arith), is.1 ∙ to_z_pos w8 month (omega arith), is.2 ∙ to_z_pos w8 day (omega arith))
