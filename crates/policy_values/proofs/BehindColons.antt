-- What stands behind the last place of two colons.
use Rattle.std.proofs.Common.{◌≡◌, ℕ, zero, suc, ◌<◌, ◌≤◌, false, List, [], ◌∷◌, ◌++◌, length, drop, codes, eqb, Some, None, arith, ap, sym, subst, ◌∙◌, refl}
use Rattle.std.specs.Prelude.{Option, if◌then◌else◌}
use Rattle.std.specs.List.{starts_with}
use Rattle.std.specs.Option.{option_or, unwrap_or}
use Rattle.std.specs.Str.Pattern.{RFindsText, LacksTextAt}
use Rattle.std.proofs.lemmas.Str.Pattern.{starts_text}
use Rattle.policy_values.specs.Basename.{behind_colons, basename_of}

-- what stands behind the colons that the list begins with
abbrev front : ℕ → List ℕ → Option (List ℕ)
front c cs = if starts_with eqb (c ∷ cs) (codes "::") then Some (drop 1 cs) else None

none_behind : (s : List ℕ) → ((i : ℕ) → i ≤ length s → LacksTextAt (codes "::") s i) → behind_colons s ≡ None
none_behind [] lacks = refl
none_behind (c ∷ cs) lacks =
    let here : false ≡ starts_with eqb (c ∷ cs) (codes "::") = starts_text false (codes "::") (c ∷ cs) (lacks 0 (omega arith)) in
    ap (λ o. option_or o (front c cs)) (none_behind cs (λ i le. lacks (suc i) (omega arith)))
    ∙ ap (λ b. if b then Some (drop 1 cs) else None) (sym here)

from_nil : (b : List ℕ) → [] ≡ codes "::" ++ b → ⊥
from_nil b p = cc

some_behind : (s b : List ℕ) (i : ℕ) → ((k : ℕ) → i < k → k ≤ length s → LacksTextAt (codes "::") s k) → drop i s ≡ codes "::" ++ b → behind_colons s ≡ Some b
some_behind s b zero lacks e =
    let after : (k : ℕ) → 0 < k → k ≤ length (codes "::" ++ b) → LacksTextAt (codes "::") (codes "::" ++ b) k = subst (λ t. (k : ℕ) → 0 < k → k ≤ length t → LacksTextAt (codes "::") t k) e lacks in
    subst (λ t. behind_colons t ≡ Some b) (sym e)
    (ap (λ o. option_or o (Some b)) (none_behind (58 ∷ b) (λ k le. after (suc k) (omega arith) (omega arith))))
some_behind [] b (suc i) lacks e = absurd (from_nil b e)
some_behind (c ∷ cs) b (suc i) lacks e =
    ap (λ o. option_or o (front c cs)) (some_behind cs b i (λ k lt le. lacks (suc k) (omega arith) (omega arith)) e)

pub basename_whole : (s : List ℕ) → RFindsText (codes "::") s None → basename_of s ≡ s
basename_whole s lacks = ap (λ o. unwrap_or o s) (none_behind s lacks)

pub basename_behind : (s : List ℕ) (i j : ℕ) → RFindsText (codes "::") s (Some (i, j)) → basename_of s ≡ drop j s
basename_behind s i j found = ap (λ o. unwrap_or o s) (some_behind s (drop j s) i found.0 found.1.split)
