use Rattle.std.proofs.Common.{not, ap, ◌∙◌, sym}
use Rattle.type_relations.proofs.ApartSteps.{outside}
use Rattle.type_relations.proofs.disjoint.is_outside.Goals as goal

pub returns : goal.returns
returns c = let w = outside c.args.name.now c.args.lub.now in (λ h. w.0 (sym (ap not c.contains.ensures) ∙ h), λ f. ap not c.contains.ensures ∙ w.1 f)
