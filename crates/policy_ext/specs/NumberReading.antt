-- How numbers, signs and separators are read, step by step. Private functions cite these definitions; public
-- clauses cite relations.
use Rattle.std.specs.Prelude.{ℕ, ◌+◌, ◌*◌, ◌^◌, Bool, true, false, ◌&&◌, ◌||◌, ◌==◌, slice_index, nat_lt, length, List, [], ◌∷◌, ℤ, pos, neg_ℤ, if◌then◌else◌, Option, Some, None}
use Rattle.std.specs.Char.{digit_value, is_digit}
use Rattle.std.specs.Option.{option_map, option_and_then}

-- the number that the digits write after those of n, where it has 64 bits
abbrev pub number_after : ℕ → ℕ → List ℕ → Option ℕ
number_after radix n [] = Some n
number_after radix n (c ∷ cs) =
    if is_digit c radix && nat_lt (n * radix + digit_value c) (2 ^ 64)
    then number_after radix (n * radix + digit_value c) cs
    else None

-- the number that one or more digits write
abbrev pub number_of : ℕ → List ℕ → Option ℕ
number_of radix digits = if length digits == 0 then None else number_after radix 0 digits

-- one more byte before the first part
abbrev pub onto : ℕ → List ℕ × List ℕ → List ℕ × List ℕ
onto b parts = (b ∷ parts.0, parts.1)

-- what stands before and after the first byte `mark`
abbrev pub cut : ℕ → List ℕ → Option (List ℕ × List ℕ)
cut mark [] = None
cut mark (b ∷ bs) = if b == mark then Some ([], bs) else option_map (onto b) (cut mark bs)

-- the text begins with a minus
abbrev pub is_minus : List ℕ → Bool
is_minus [] = false
is_minus (b ∷ bs) = b == 45

-- the text without a minus in front
abbrev pub without_minus : List ℕ → List ℕ
without_minus [] = []
without_minus (b ∷ bs) = if b == 45 then bs else b ∷ bs

-- the number with its sign, where it has 64 signed bits
abbrev pub signed_of : Bool → ℕ → Option ℤ
signed_of true n = if nat_lt (2 ^ 63) n then None else Some (neg_ℤ (pos n))
signed_of false n = if nat_lt n (2 ^ 63) then Some (pos n) else None

-- the number, up to `most`, of digits with no zero before others
abbrev pub plain_of : ℕ → List ℕ → Option ℕ
plain_of most digits = option_and_then
    (λ n. if nat_lt most n || (slice_index digits 0 == 48 && nat_lt 1 (length digits)) then None else Some n)
    (number_of 10 digits)
