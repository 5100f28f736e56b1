use Rattle.std.proofs.Common.{◌≡◌, ℕ, List, [], ◌∷◌, map, ap, sym, ◌∙◌, refl}
use Rattle.std.specs.Str.{chars}
use Rattle.std.proofs.lemmas.Iterator.{YieldsList-from_chars}
use Rattle.std.proofs.lemmas.Iterator.Consumers.{YieldsList-end}
use Rattle.policy_core.proofs.like.chars_of.Goals as goal

map_same : (xs : List ℕ) → map (λ c. c) xs ≡ xs
map_same [] = refl
map_same (x ∷ xs) = ap (λ ys. x ∷ ys) (map_same xs)

pub returns : goal.returns
returns c =
    let text = c.as_str-text.result.now in
    let t = YieldsList-end (YieldsList-from_chars text c.as_str-text.utf8 cc) c.loop-c.yielded _ c.loop-c.yielded_by _ _ c.in-None.is c.next.ensures.steps in
    c.loop-c.invariant ∙ sym (map_same c.loop-c.yielded) ∙ t.0 ∙ ap chars c.as_str-text.ensures
