-- The least level is the least.
use Rattle.std.proofs.Common.{◌≡◌, ◌<◌, ℕ, ◌+◌, max, nat_lt, nat_le, Bool, true, false, ◌&&◌, List, [], ◌∷◌, Option, Some, None, refl, ap, ◌∙◌, arith}
use Rattle.std.specs.Prelude.{MatchOption}
use Rattle.std.specs.List.{list_all}
use Rattle.level_spec.specs.Levels.{greater, least, is_below, dereferences, passes, least_level}
use Rattle.level_spec.specs.Least.{LeastLevelIsLeast}
use Rattle.plain_lemmas.proofs.Booleans.{and_false}

-- the level is there, and no greater
abbrev at_most : ℕ → Option ℕ → Bool
at_most n None = false
at_most n (Some m) = nat_le m n

greater_at_most : (n k m : ℕ) → (nat_lt k n && nat_le m n) ≡ nat_le (max (k + 1) m) n
greater_at_most n k m = here (nat_lt k n) refl (nat_le m n) refl
  where
    here : (b : Bool) → nat_lt k n ≡ b → (c : Bool) → nat_le m n ≡ c → (b && c) ≡ nat_le (max (k + 1) m) n
    here true i true j = search (arith)
    here true i false j = search (arith)
    here false i c j = search (arith)

all_at_most : (n : ℕ) (os : List (Option ℕ)) → list_all (is_below n) os ≡ at_most n (least os)
all_at_most n [] = search (arith)
all_at_most n (None ∷ os) = refl
all_at_most n (Some k ∷ os) = ap (λ b. nat_lt k n && b) (all_at_most n os) ∙ here (least os)
  where
    here : (o : Option ℕ) → (nat_lt k n && at_most n o) ≡ at_most n (greater (Some (k + 1)) o)
    here None = and_false (nat_lt k n)
    here (Some m) = greater_at_most n k m

pub least_is_least : LeastLevelIsLeast
least_is_least v e = here (least_level v e) (λ n. all_at_most n (dereferences v e))
  where
    here : (o : Option ℕ) → ((n : ℕ) → passes v n e ≡ at_most n o) → MatchOption o ((n : ℕ) → passes v n e ≡ false) (λ m. (passes v m e ≡ true) × ((n : ℕ) → n < m → passes v n e ≡ false))
    here None f = f
    here (Some m) f = ((f m ∙ itself m), (λ n l. f n ∙ below n l))
      where
        itself : (m : ℕ) → nat_le m m ≡ true
        itself m = search (arith)

        below : (n : ℕ) → n < m → nat_le m n ≡ false
        below n l = search (arith)
