-- The level of `if`, by its branches.
use Rattle.std.proofs.Common.{◌≡◌, ℕ, max, Bool, true, false, Option, Some, None, cond, refl, ap, arith}
use Rattle.level_spec.specs.Levels.{greater, if_level}

none_left : (o : Option ℕ) → greater o (Some 0) ≡ o
none_left None = refl
none_left (Some k) = let e : max k 0 ≡ k = omega arith in ap Some e

none_right : (o : Option ℕ) → greater (Some 0) o ≡ o
none_right None = refl
none_right (Some k) = let e : max 0 k ≡ k = omega arith in ap Some e

-- a branch that is not reached counts as the least level
pub branches : (b c : Bool) (j k : Option ℕ) → greater (cond b j (Some 0)) (cond c k (Some 0)) ≡ if_level b c j k
branches true true j k = refl
branches true false j k = none_left j
branches false true j k = none_right k
branches false false j k = refl
