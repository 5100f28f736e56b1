-- How a duration is read, step by step.
use Rattle.std.specs.Prelude.{ℕ, ◌+◌, ◌*◌, Bool, true, ◌==◌, List, [], ◌∷◌, length, ℤ, if◌then◌else◌, Option, Some, None, unwrap_or}
use Rattle.std.specs.Char.{is_digit}
use Rattle.std.specs.Option.{option_and_then, option_map}
use Rattle.policy_ext.specs.Duration.{units}
use Rattle.policy_ext.specs.NumberReading.{number_of, onto, is_minus, without_minus, signed_of}

-- the digits in front, and the rest
abbrev pub cut_digits : List ℕ → List ℕ × List ℕ
cut_digits [] = ([], [])
cut_digits (b ∷ bs) = if is_digit b 10 then onto b (cut_digits bs) else ([], b ∷ bs)

-- a digit or the end comes next
abbrev pub starts_new : List ℕ → Bool
starts_new [] = true
starts_new (b ∷ bs) = is_digit b 10

-- what follows the letters, where that is a digit or the end: so the letter m is not taken from ms
abbrev pub strip : List ℕ → List ℕ → Option (List ℕ)
strip [] text = if starts_new text then Some text else None
strip (l ∷ ls) [] = None
strip (l ∷ ls) (b ∷ bs) = if b == l then strip ls bs else None

-- a number and these letters, and what follows them
abbrev pub part_at : List ℕ → List ℕ → Option (ℕ × List ℕ)
part_at letters text =
    option_and_then (λ rest. option_map (λ n. (n, rest)) (number_of 10 (cut_digits text).0))
    (strip letters (cut_digits text).1)

-- the same, and 0 where that unit does not come next
abbrev pub part_of : List ℕ → List ℕ → ℕ × List ℕ
part_of letters text = unwrap_or (part_at letters text) (0, text)

-- n and the sum of the rest of the text
abbrev pub sum_from : List (List ℕ × ℕ) → List ℕ → ℕ → Option ℕ
sum_from [] text n = if length text == 0 then Some n else None
sum_from (unit ∷ later) text n = sum_from later (part_of unit.0 text).1 (n + (part_of unit.0 text).0 * unit.1)

abbrev pub duration_of : List ℕ → Option ℤ
duration_of text =
    if length (without_minus text) == 0 then None
    else option_and_then (λ n. signed_of (is_minus text) n) (sum_from units (without_minus text) 0)
