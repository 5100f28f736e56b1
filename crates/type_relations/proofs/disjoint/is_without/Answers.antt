use Rattle.std.proofs.Common.{not, ap, ◌∙◌, sym}
use Rattle.type_relations.proofs.ApartSteps.{without}
use Rattle.type_relations.proofs.disjoint.is_without.Goals as goal

pub returns : goal.returns
returns c = let w = without c.args.lub.now c.args.name.now in (λ h. w.0 (sym (ap not c.contains.ensures) ∙ h), λ f. ap not c.contains.ensures ∙ w.1 f)
