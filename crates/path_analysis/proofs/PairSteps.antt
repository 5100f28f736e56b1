-- Steps of the walk through pairs.
use Rattle.std.proofs.Common.{◌≡◌, ℕ, ◌+◌, ◌<◌, List, ◌++◌, map, length, get_or, drop, sym, ap, ◌∙◌}
use Rattle.std.proofs.lemmas.List.{at_drop_more}
use Rattle.reads_spec.specs.Paths.{AccessPath, Demand}
use Rattle.reads_spec.specs.Reads.{pairs}
use Rattle.path_analysis.specs.PathOrder.{with_demands}
use Rattle.path_analysis.proofs.SetSteps.{demands_more}

abbrev pub with_each : AccessPath → List AccessPath → List Demand
with_each p rs = map (λ r. (p, r)) rs

-- what was added with one path more, and what is left
pub pairs_next : (ps rs : List AccessPath) (i : ℕ) (p : AccessPath) → p ≡ get_or ps i p → i < length ps → (old new : List Demand) → new ≡ with_demands old (with_each p rs) →
    (all : List Demand) → with_demands old (pairs (drop i ps) rs) ≡ all → with_demands new (pairs (drop (i + 1) ps) rs) ≡ all
pairs_next ps rs i p is h old new added all left =
    let rest = pairs (drop (i + 1) ps) rs in
    ap (λ l. with_demands l rest) added ∙ demands_more old (with_each p rs) rest
    ∙ ap (λ q. with_demands old (with_each q rs ++ rest)) is
    ∙ ap (λ l. with_demands old l) (sym (at_drop_more (λ xs. pairs xs rs) ps i p h))
    ∙ left
