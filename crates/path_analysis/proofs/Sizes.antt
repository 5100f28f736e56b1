-- The size of a shape among several.
use Rattle.std.proofs.Common.{◌≡◌, ℕ, zero, suc, ◌+◌, ◌≤◌, ◌<◌, List, [], ◌∷◌, length, get_or, arith, subst, sym}
use Rattle.reads_spec.specs.Paths.{Shape}
use Rattle.path_analysis.specs.ShapeView.{one_of_all, size_of}

size_of-get_or : (xs : List Shape) (i : ℕ) (d : Shape) → i < length xs → size_of (get_or xs i d) + 1 ≤ size_of (one_of_all xs)
size_of-get_or [] i d h = absurd (omega arith)
size_of-get_or (x ∷ xs) zero d h = omega arith
size_of-get_or (x ∷ xs) (suc i) d h = omega (arith, size_of-get_or xs i d (omega arith))

-- in the form that the call on an element of a loop asks
pub size_in : (xs ys : List Shape) (i : ℕ) (x : Shape) → x ≡ get_or xs i x → xs ≡ ys → i < length xs → size_of x + 1 ≤ size_of (one_of_all ys)
size_in xs ys i x is same h =
    subst (λ zs. size_of x + 1 ≤ size_of (one_of_all zs)) same (subst (λ z. size_of z + 1 ≤ size_of (one_of_all xs)) (sym is) (size_of-get_or xs i x h))
