use Rattle.std.proofs.lemmas.Result.{IfOk-weaker}
use Rattle.access_tries.proofs.With.{with_end}
use Rattle.access_tries.proofs.tries.with_node.Goals as goal

pub returns-else-number-b-clause-with : goal.returns-else-number-b-clause-with
returns-else-number-b-clause-with c = IfOk-weaker c.united_from-else-number-b.result _ _ (λ t w. with_end c.args.a.now c.args.b.now t.items c.args.number c.if-number-b.false w) c.united_from-else-number-b.ensures.with
