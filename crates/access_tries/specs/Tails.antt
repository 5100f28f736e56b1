-- Addresses in their order, and what is left of them behind their first edges.
use Rattle.std.specs.Prelude.{◌≡◌, ℕ, suc, Bool, true, false, cond, List, [], ◌∷◌, drop, map, Option, Some, None}
use Rattle.std.specs.List.{AllByRecursion}
use Rattle.std.specs.Borrow.{Bor}
use Rattle.std.specs.Ordering.{is_lt}
use Rattle.std.specs.Cmp.Lexicographic.{slice_cmp}
use Rattle.access_tries.specs.declared.edge.Edge.{Edge}
use Rattle.access_tries.specs.Edges.{Address, edge_cmp, edge_eq}

-- what is behind the first edges of each address, as many as the depth
abbrev pub tails : ℕ → List (Bor Address) → List Address
tails depth rs = map (λ a. drop depth a.now) rs

-- the second address is not before the first
abbrev pub IsNoSooner : Address → Address → Type 0
IsNoSooner t u = is_lt (slice_cmp edge_cmp u t) ≡ false

-- no address is before an earlier one
abbrev pub Rise : List Address → Type 0
Rise [] = Unit {0}
Rise (t ∷ ts) = AllByRecursion (IsNoSooner t) ts × Rise ts

-- whether the address begins with the edge; without one, whether it has no edge
abbrev pub begins : Option Edge → Address → Bool
begins None [] = true
begins None (f ∷ t) = false
begins (Some e) [] = false
begins (Some e) (f ∷ t) = edge_eq f e

-- how many of the addresses begin so, from the first on
abbrev pub run : Option Edge → List Address → ℕ
run o [] = 0
run o (t ∷ ts) = cond (begins o t) (suc (run o ts)) 0
