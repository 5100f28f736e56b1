-- How a datetime is read, step by step.
use Rattle.std.specs.Prelude.{ℕ, ◌+◌, ◌*◌, ◌-◌, Bool, true, false, ◌&&◌, ◌==◌, nat_lt, ◌≡◌, List, [], ◌∷◌, length, ℤ, pos, ◌+ℤ◌, ◌-ℤ◌, ◌*ℤ◌, if◌then◌else◌, Option, Some, None}
use Rattle.std.specs.Char.{is_ascii_digit}
use Rattle.std.specs.Option.{option_and_then, option_map}
use Rattle.jiff.specs.Types.{Date}
use Rattle.jiff.specs.Words.{IsYmd, epoch_day}
use Rattle.policy_ext.specs.Sign.{signed}

-- a number of two digits, and the rest
abbrev pub digits2 : List ℕ → Option (ℕ × List ℕ)
digits2 [] = None
digits2 (a ∷ []) = None
digits2 (a ∷ b ∷ rest) =
    if is_ascii_digit a && is_ascii_digit b then Some ((a - 48) * 10 + (b - 48), rest) else None

-- what follows the byte c
abbrev pub mark : ℕ → List ℕ → Option (List ℕ)
mark c [] = None
mark c (b ∷ bs) = if b == c then Some bs else None

-- what was read, where it is no more than `most`
abbrev pub up_to : ℕ → Option (ℕ × List ℕ) → Option (ℕ × List ℕ)
up_to most read = option_and_then (λ p. if nat_lt most p.0 then None else Some p) read

-- the year, month and day of YYYY-MM-DD, and the rest
abbrev pub date_at : List ℕ → Option (ℕ × ℕ × ℕ × List ℕ)
date_at text = option_and_then
    (λ c. option_and_then
    (λ y. option_and_then
    (λ r. option_and_then
    (λ m. option_and_then (λ t. option_map (λ d. (c.0 * 100 + y.0, m.0, d.0, d.1)) (digits2 t)) (mark 45 m.1))
    (digits2 r))
    (mark 45 y.1))
    (digits2 c.1))
    (digits2 text)

-- n is the day number of the date of jiff's calendar with these parts
abbrev pub IsDayOf : ℕ → ℕ → ℕ → ℤ → Type 0
IsDayOf year month day n = (date : Date) × IsYmd (pos year) (pos month) (pos day) date × (n ≡ epoch_day date)

-- a number of three digits, and the rest
abbrev pub digits3 : List ℕ → Option (ℕ × List ℕ)
digits3 [] = None
digits3 (a ∷ rest) =
    if is_ascii_digit a then option_map (λ p. ((a - 48) * 100 + p.0, p.1)) (digits2 rest) else None

-- the milliseconds of a point and three digits, or none, and the rest
abbrev pub fraction_at : List ℕ → Option (ℕ × List ℕ)
fraction_at [] = Some (0, [])
fraction_at (b ∷ bs) = if b == 46 then digits3 bs else Some (0, b ∷ bs)

-- x where nothing follows
abbrev pub at_end : {X : Type 0} → List ℕ → X → Option X
at_end text x = if length text == 0 then Some x else None

-- the minutes of hhmm with that sign
abbrev pub offset_of : Bool → List ℕ → Option ℤ
offset_of minus text = option_and_then
    (λ h. option_and_then (λ m. at_end m.1 (signed minus (h.0 * 60 + m.0))) (up_to 59 (digits2 h.1)))
    (up_to 23 (digits2 text))

abbrev pub zone_of : List ℕ → Option ℤ
zone_of [] = None
zone_of (b ∷ bs) =
    if b == 90 then at_end bs (pos 0)
    else (if b == 43 then offset_of false bs
    else (if b == 45 then offset_of true bs
    else None))

-- the seconds of hh:mm:ss, and the rest
abbrev pub hms_at : List ℕ → Option (ℕ × List ℕ)
hms_at text = option_and_then
    (λ h. option_and_then
    (λ r. option_and_then
    (λ m. option_and_then
    (λ t. option_map (λ s. ((h.0 * 60 + m.0) * 60 + s.0, s.1)) (up_to 59 (digits2 t))) (mark 58 m.1))
    (up_to 59 (digits2 r)))
    (mark 58 h.1))
    (up_to 23 (digits2 text))

-- the milliseconds from the start of the day
abbrev pub clock_of : List ℕ → Option ℤ
clock_of [] = Some (pos 0)
clock_of (b ∷ bs) =
    if b == 84 then option_and_then
    (λ s. option_and_then
    (λ f. option_map (λ z. pos (s.0 * 1000 + f.0) -ℤ z *ℤ pos 60000) (zone_of f.1)) (fraction_at s.1))
    (hms_at bs)
    else None

-- the milliseconds of a day and of a time since it began
abbrev pub instant_of : Option ℤ → Option ℤ → Option ℤ
instant_of day clock = option_and_then (λ d. option_map (λ c. d *ℤ pos 86400000 +ℤ c) clock) day
