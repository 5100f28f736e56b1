use Rattle.std.proofs.Common.{◌≡◌, ap, ◌∙◌, refl}
use Rattle.std.specs.Bool.{Decides}
use Rattle.std.specs.Cmp.{unsigned_Decides}
use Rattle.std.specs.Cmp.Lexicographic.{pointwise}
use Rattle.std.proofs.lemmas.Slice.Eq.{slice_eq-Decides}
use Rattle.policy_expressions.specs.declared.kinds.PatternElem.{PatternElem}
use Rattle.policy_expressions.specs.declared.kinds.PatternElem.TheVariants.{Char, Wildcard}
use Rattle.policy_expressions.specs.contracts.kinds.PatternElemPartialEq.TheImpl.{eq-value}
use Rattle.policy_expressions.proofs.shape.same_pattern.Goals as goal

-- elements are equal where the derived test says so
element_decides : (a b : PatternElem) → Decides (eq-value.it a b) (a ≡ b)
element_decides Wildcard Wildcard = (λ h. refl, λ h. refl)
element_decides (Char c) (Char d) = let e = unsigned_Decides c d in (λ h. ap Char (e.0 h), λ h. e.1 (cc))
element_decides Wildcard (Char d) = (λ h. absurd (cc), λ h. absurd (cc))
element_decides (Char c) Wildcard = (λ h. absurd (cc), λ h. absurd (cc))

pub returns : goal.returns
returns c =
    slice_eq-Decides element_decides c.args.a.now c.args.b.now c.eq.result
    (c.eq.ensures ∙ (λ i. pointwise eq-value.it (c.elements.ensures i) (c.elements-2.ensures i)))
