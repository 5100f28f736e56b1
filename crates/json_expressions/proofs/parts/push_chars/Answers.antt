use Rattle.std.proofs.Common.{◌≡◌, ◌∷◌, ◌++◌, List, [], map, ℕ, ap, sym, ◌∙◌, refl}
use Rattle.std.proofs.lemmas.Iterator.{YieldsList-from_chars}
use Rattle.std.proofs.lemmas.Iterator.Consumers.{YieldsList-end}
use Rattle.policy_expressions.specs.declared.kinds.PatternElem.TheVariants.{Char}
use Rattle.json_expressions.proofs.parts.push_chars.Goals as goal

map_same : (xs : List ℕ) → map (λ c. c) xs ≡ xs
map_same [] = refl
map_same (x ∷ xs) = ap (λ ys. x ∷ ys) (map_same xs)

pub returns : goal.returns
returns c =
    let text = c.args.text.now in
    let t = YieldsList-end (YieldsList-from_chars text c.utf8.text cc) c.loop-c.yielded _ c.loop-c.yielded_by _ _ c.in-None.is c.next.ensures.steps in
    c.loop-c.invariant ∙ ap (λ cs. c.args.elements.items ++ map Char cs) (sym (map_same c.loop-c.yielded) ∙ t.0)
