-- The texts of points in time, and what is asked of them.
use Rattle.std.specs.Prelude.{ℕ, ◌+◌, ◌*◌, ◌/◌, ◌%◌, ◌≡◌, ◌≤◌, ◌⊎◌, Bool, List, [], ◌∷◌, ◌++◌, ℤ, pos, ◌+ℤ◌, ◌-ℤ◌, ◌*ℤ◌, ◌≤ℤ◌, unsigned_abs, if◌then◌else◌}
use Rattle.std.specs.Int.{int_div_euclid, int_rem_euclid}
use Rattle.jiff.specs.Types.{Date}
use Rattle.jiff.specs.Words.{epoch_day}
use Rattle.policy_ext.specs.Sign.{signed}

-- a number as two, three and four digits
abbrev pub two : ℕ → List ℕ
two n = (48 + n / 10) ∷ ((48 + n % 10) ∷ [])

abbrev pub three : ℕ → List ℕ
three n = (48 + n / 100) ∷ two (n % 100)

abbrev pub four : ℕ → List ℕ
four n = two (n / 100) ++ two (n % 100)

-- YYYY-MM-DD of a date of jiff's calendar from the year 0 on; `number` is jiff's day number, 0 for
-- 1970-01-01.
pub record IsDay (text : List ℕ) (number : ℤ) : Type 0 where
  pub date : Date
  pub year_fits : pos 0 ≤ℤ date.year
  pub spelled : text ≡ four (unsigned_abs date.year) ++ 45 ∷ (two date.month ++ 45 ∷ two date.day)
  pub value : number ≡ epoch_day date

-- nothing, or a point (46) and three digits
abbrev pub IsFraction : List ℕ → ℕ → Type 0
IsFraction text millis = ((text ≡ []) × (millis ≡ 0)) ⊎ ((text ≡ 46 ∷ three millis) × (millis ≤ 999))

-- +hhmm or -hhmm
pub record IsOffset (text : List ℕ) (minutes : ℤ) : Type 0 where
  pub minus : Bool
  pub hour : ℕ
  pub minute : ℕ
  pub hour_fits : hour ≤ 23
  pub minute_fits : minute ≤ 59
  pub spelled : text ≡ (if minus then 45 else 43) ∷ (two hour ++ two minute)
  pub value : minutes ≡ signed minus (hour * 60 + minute)

-- Z (90) or an offset
abbrev pub IsZone : List ℕ → ℤ → Type 0
IsZone text minutes = ((text ≡ 90 ∷ []) × (minutes ≡ pos 0)) ⊎ IsOffset text minutes

-- Thh:mm:ss, a fraction and a zone, whose offset is subtracted: the milliseconds from the start of the day
-- in UTC
pub record IsClock (text : List ℕ) (millis : ℤ) : Type 0 where
  pub hour : ℕ
  pub minute : ℕ
  pub second : ℕ
  pub milli : ℕ
  pub offset : ℤ
  pub fraction : List ℕ
  pub zone : List ℕ
  pub hour_fits : hour ≤ 23
  pub minute_fits : minute ≤ 59
  pub second_fits : second ≤ 59
  pub is_fraction : IsFraction fraction milli
  pub is_zone : IsZone zone offset
  pub spelled : text ≡ 84 ∷ (two hour ++ 58 ∷ (two minute ++ 58 ∷ (two second ++ (fraction ++ zone))))
  pub value : millis ≡ pos (((hour * 60 + minute) * 60 + second) * 1000 + milli) -ℤ offset *ℤ pos 60000

-- A datetime's text is a day, and perhaps a time of day with its zone. It stands for v milliseconds from
-- 1970-01-01 in UTC.
pub record IsDateTime (text : List ℕ) (v : ℤ) : Type 0 where
  pub day : ℤ
  pub millis : ℤ
  pub front : List ℕ
  pub clock : List ℕ
  pub is_day : IsDay front day
  pub is_clock : ((clock ≡ []) × (millis ≡ pos 0)) ⊎ IsClock clock millis
  pub spelled : text ≡ front ++ clock
  pub value : v ≡ day *ℤ pos 86400000 +ℤ millis

-- the day of v, rounded down, and the milliseconds since it began
abbrev pub day_of : ℤ → ℤ
day_of v = int_div_euclid v (pos 86400000)

abbrev pub time_of : ℤ → ℤ
time_of v = int_rem_euclid v (pos 86400000)
