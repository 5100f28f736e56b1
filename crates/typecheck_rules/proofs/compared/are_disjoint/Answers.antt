use Rattle.typecheck_rules.proofs.Apart.{disjoint_test}
use Rattle.typecheck_rules.proofs.compared.are_disjoint.Goals as goal

pub returns : goal.returns
returns c = disjoint_test c.are_types_disjoint.result c.args.t.now c.args.u.now c.are_types_disjoint.ensures
