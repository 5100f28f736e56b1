-- The users of a sample, as numbers.
use Rattle.std.proofs.Common.{◌≡◌, ℕ, zero, suc, ◌+◌, ◌*◌, ◌^◌, ◌<◌, ◌≤◌, ◌%◌, List, ◌∷◌, map, refl, ap, arith}
use Rattle.std.specs.Fn.{iterate}
use Rattle.std.specs.List.{AllByRecursion, join_with_byte, range_with_len}
use Rattle.json_samples.specs.Sample.{next_state, draw, user_text, users_text}

-- a user, with a level and a manager, in a group
pub record Drawn : Type 0 where
  pub number : ℕ
  pub level : ℕ
  pub manager : ℕ
  pub group : ℕ

-- its numbers are within the bounds of draws
pub record IsDrawn (u : Drawn) : Type 0 where
  pub number : u.number < 2 ^ 64
  pub level : u.level < 100
  pub manager : u.manager < 2 ^ 64
  pub group : u.group < 10

abbrev pub AreDrawn : List Drawn → Type 0
AreDrawn us = AllByRecursion IsDrawn us

abbrev pub text_of : Drawn → List ℕ
text_of u = user_text u.number u.level u.manager u.group

-- the user number i of size users, drawn from the state x
abbrev from_state : ℕ → ℕ → ℕ → Drawn
from_state x size i = record { number = i; level = draw x 2 % 100; manager = draw x 1 % size; group = draw x 0 % 10 }

-- the user number i that is drawn from the seed
abbrev pub drawn : ℕ → ℕ → ℕ → Drawn
drawn seed size i = from_state (iterate next_state (3 * i) seed) size i

-- n users, from the one with the number a on
abbrev pub users_from : ℕ → ℕ → ℕ → ℕ → List Drawn
users_from seed size a n = map (drawn seed size) (range_with_len a n)

is_drawn : (a b c size i : ℕ) → i < size → size < 2 ^ 64 → IsDrawn (record { number = i; level = a % 100; manager = b % size; group = c % 10 })
is_drawn a b c size i below small = record { number = omega arith; level = omega arith; manager = omega arith; group = omega arith }

pub are_drawn : (seed size a n : ℕ) → size < 2 ^ 64 → a + n ≤ size → AreDrawn (users_from seed size a n)
are_drawn seed size a zero small below = tt
are_drawn seed size a (suc n) small below =
    let x : ℕ = iterate next_state (3 * a) seed in
    (is_drawn (draw x 2) (draw x 1) (draw x 0) size a (omega arith) small, are_drawn seed size (a + 1) n small (omega arith))

texts_from : (seed size a n : ℕ) → map text_of (users_from seed size a n) ≡ map (λ i. text_of (drawn seed size i)) (range_with_len a n)
texts_from seed size a zero = refl
texts_from seed size a (suc n) = ap (λ ts. text_of (drawn seed size a) ∷ ts) (texts_from seed size (a + 1) n)

pub texts_are : (seed size n : ℕ) → join_with_byte 44 (map text_of (users_from seed size 0 n)) ≡ users_text seed size n
unfolding users_text
texts_are seed size n = ap (join_with_byte 44) (texts_from seed size 0 n)
