-- What a set or a record holds is no larger than all that it holds.
use Rattle.std.proofs.Common.{ℕ, ◌<◌, ◌≤◌, zero, suc, List, [], ◌∷◌, length, get_or, arith, ◌++◌}
use Rattle.policy_values.specs.Value.{Val, size_of, size_of_all, size_of_fields, vals_of, fields_of}

-- no element is larger than all together
pub size_of-get_or : (xs : List Val) (i : ℕ) (d : Val) → i < length xs → size_of (get_or xs i d) ≤ size_of_all (vals_of xs)
size_of-get_or [] i d h = absurd (omega arith)
size_of-get_or (x ∷ xs) zero d h = omega arith
size_of-get_or (x ∷ xs) (suc i) d h = omega (arith, size_of-get_or xs i d (omega arith))

pub size_of-seam : (es : List (List ℕ × Val)) (e : List ℕ × Val) (rest : List (List ℕ × Val)) → size_of e.1 ≤ size_of_fields (fields_of (es ++ e ∷ rest))
size_of-seam [] e rest = omega arith
size_of-seam (d ∷ es) e rest = omega (arith, size_of-seam es e rest)
