-- Parts of values are smaller.
use Rattle.std.proofs.Common.{◌≡◌, ℕ, ◌<◌, ◌≤◌, List, length, get_or, ap, arith}
use Rattle.policy_values.specs.Value.{Val, size_of, size_of_all, vals_of}
use Rattle.policy_values.proofs.Sizes.{size_of-get_or}

pub size_in : (xs ys : List Val) (i : ℕ) (x : Val) → x ≡ get_or xs i x → xs ≡ ys → i < length xs → size_of x ≤ size_of_all (vals_of ys)
size_in xs ys i x e p h = omega (arith, ap size_of e, size_of-get_or xs i x h, ap (λ zs. size_of_all (vals_of zs)) p)
