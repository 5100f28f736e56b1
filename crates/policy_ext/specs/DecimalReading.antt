-- How a decimal is read, step by step.
use Rattle.std.specs.Prelude.{ℕ, ◌+◌, ◌*◌, ◌-◌, ◌^◌, Bool, nat_lt, List, length, ℤ, if◌then◌else◌, Option, None}
use Rattle.std.specs.Option.{option_and_then}
use Rattle.policy_ext.specs.NumberReading.{number_of, cut, is_minus, without_minus, signed_of}

-- the ten-thousandths of a sign, the digits before the point and those after it
abbrev pub decimal_from : Bool → List ℕ → List ℕ → Option ℤ
decimal_from minus whole part =
    if nat_lt 4 (length part) then None
    else option_and_then
    (λ n. option_and_then (λ m. signed_of minus (n * 10000 + m * 10 ^ (4 - length part))) (number_of 10 part))
    (number_of 10 whole)

abbrev pub decimal_of : List ℕ → Option ℤ
decimal_of text =
    option_and_then (λ parts. decimal_from (is_minus text) parts.0 parts.1) (cut 46 (without_minus text))
