use Rattle.std.proofs.Common.{◌≡◌, ℕ, List, [], ◌∷◌, map, ap, sym, ◌∙◌, refl}
use Rattle.std.specs.List.{flat_map}
use Rattle.std.specs.Str.{chars}
use Rattle.std.proofs.Output.{has_written_of_eq}
use Rattle.std.proofs.lemmas.Iterator.{YieldsList-from_chars}
use Rattle.std.proofs.lemmas.Iterator.Consumers.{YieldsList-end}
use Rattle.policy_values.specs.Show.{escaped_char}
use Rattle.policy_values.proofs.show.QuotedDisplay.fmt.Goals as goal

map_same : (xs : List ℕ) → map (λ c. c) xs ≡ xs
map_same [] = refl
map_same (x ∷ xs) = ap (λ ys. x ∷ ys) (map_same xs)

pub returns-clause-writes : goal.returns-clause-writes
returns-clause-writes g c =
    let text = c.as_str-text.result.now in
    let t = YieldsList-end (YieldsList-from_chars text c.as_str-text.utf8 cc) c.loop-c.yielded _ c.loop-c.yielded_by _ _ c.in-None.is c.next.ensures.steps in
    let e = sym (map_same c.loop-c.yielded) ∙ t.0 in
    λ p ok. has_written_of_eq _ _ _ _ _ (ap (flat_map escaped_char) (e ∙ ap chars c.as_str-text.ensures)) (c.loop-c.invariant p)
