use Rattle.std.proofs.Common.{◌∙◌, sym}
use Rattle.std.specs.declared.cmp.Ordering.TheVariants.{Less, Equal, Greater}
use Rattle.type_relations.proofs.ApartSteps.{differing}
use Rattle.type_relations.proofs.disjoint.differ.Goals as goal

pub returns-in-Less : goal.returns-in-Less
returns-in-Less c = differing c.args.a.now c.args.b.now Less (sym c.cmp.ensures ∙ c.in-Less.is)

pub returns-in-Equal : goal.returns-in-Equal
returns-in-Equal c = differing c.args.a.now c.args.b.now Equal (sym c.cmp.ensures ∙ c.in-Equal.is)

pub returns-in-Greater : goal.returns-in-Greater
returns-in-Greater c = differing c.args.a.now c.args.b.now Greater (sym c.cmp.ensures ∙ c.in-Greater.is)
