-- The point in time that a text stands for, as a function: day numbers are those of dates of jiff's calendar.
use Rattle.std.specs.Prelude.{ℕ, ◌≡◌, ◌≤◌, Bool, true, false, ◌&&◌, nat_le, List, ℤ, pos, Option, Some, None, refl}
use Rattle.std.specs.Int.{IsInRange}
use Rattle.std.specs.Option.{option_map}
use Rattle.std.proofs.Common.{arith}
use Rattle.std.proofs.lemmas.Bool.{and_parts}
use Rattle.std.proofs.lemmas.Bool.Decides.{nat_tests}
use Rattle.std.proofs.lemmas.Int.{ints}
use Rattle.jiff.specs.Types.{Date}
use Rattle.jiff.specs.Words.{IsYear, days_in_month, epoch_day}
use Rattle.policy_ext.specs.DateTimeReading.{date_at, clock_of, instant_of}

-- the calendar has the date
abbrev pub has_date : ℕ → ℕ → ℕ → Bool
has_date y m d =
    nat_le y 9999 && (nat_le 1 m && (nat_le m 12 && (nat_le 1 d && nat_le d (days_in_month (pos y) m))))

at_most : (m n : ℕ) → nat_le m n ≡ true → m ≤ n
at_most m n h = grind (arith, nat_tests)

pub in_calendar : (y m d : ℕ) → has_date y m d ≡ true →
    IsYear (pos y) × IsInRange 1 12 m × IsInRange 1 (days_in_month (pos y) m) d
in_calendar y m d h =
    let a = and_parts (nat_le y 9999)
    (nat_le 1 m && (nat_le m 12 && (nat_le 1 d && nat_le d (days_in_month (pos y) m)))) h in
    let b = and_parts (nat_le 1 m) (nat_le m 12 && (nat_le 1 d && nat_le d (days_in_month (pos y) m))) a.1 in
    let c = and_parts (nat_le m 12) (nat_le 1 d && nat_le d (days_in_month (pos y) m)) b.1 in
    let e = and_parts (nat_le 1 d) (nat_le d (days_in_month (pos y) m)) c.1 in
    let l = at_most y 9999 a.0 in (
      (omega (arith, ints), omega (arith, ints)),
      (at_most 1 m b.0, at_most m 12 c.0),
      (at_most 1 d e.0, at_most d (days_in_month (pos y) m) e.1),
    )

abbrev pub civil : (y m d : ℕ) → has_date y m d ≡ true → Date
civil y m d e =
    let p = in_calendar y m d e in
    record { year = pos y; month = m; day = d; year_in = p.0; month_in = p.1; day_in = p.2 }

abbrev pub dated : (y m d : ℕ) (b : Bool) → has_date y m d ≡ b → Option Date
dated y m d true e = Some (civil y m d e)
dated y m d false e = None

-- the date, where the calendar has it
abbrev pub date_of : ℕ → ℕ → ℕ → Option Date
date_of y m d = dated y m d (has_date y m d) refl

abbrev pub datetime_from : Option (ℕ × ℕ × ℕ × List ℕ) → Option ℤ
datetime_from (Some p) = instant_of (option_map (λ d. epoch_day d) (date_of p.0 p.1 p.2)) (clock_of p.3)
datetime_from None = None

abbrev pub datetime_of : List ℕ → Option ℤ
datetime_of text = datetime_from (date_at text)
