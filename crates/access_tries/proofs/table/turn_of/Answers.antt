use Rattle.std.proofs.Common.{sym, ◌∙◌, arith}
use Rattle.access_tries.proofs.Merging.{before_own, before_rest, takes_equal, before_equal, other_way}
use Rattle.access_tries.proofs.table.turn_of.Goals as goal

pub returns-then-p-xs-clause-before_ys : goal.returns-then-p-xs-clause-before_ys
returns-then-p-xs-clause-before_ys c = before_own c.args.ys.now c.args.q c.index-ys-q.result (omega (arith, c.requires.some, c.if-p-xs.true)) c.index-ys-q.is c.requires.ys_ascend

pub returns-then-q-ys-clause-before_xs : goal.returns-then-q-ys-clause-before_xs
returns-then-q-ys-clause-before_xs c = before_own c.args.xs.now c.args.p c.index-xs-p.result (omega (arith, c.requires.p_in, c.if-p-xs.false)) c.index-xs-p.is c.requires.xs_ascend

pub returns-in-Less-clause-before_xs : goal.returns-in-Less-clause-before_xs
returns-in-Less-clause-before_xs c = before_own c.args.xs.now c.args.p c.index-xs-p.result (omega (arith, c.requires.p_in, c.if-p-xs.false)) c.index-xs-p.is c.requires.xs_ascend

pub returns-in-Less-clause-before_ys : goal.returns-in-Less-clause-before_ys
returns-in-Less-clause-before_ys c = before_rest c.args.ys.now c.args.q c.index-ys-q-2.result (omega (arith, c.requires.q_in, c.if-q-ys.false)) c.index-ys-q-2.is c.index-xs-p.result.edge c.requires.ys_ascend (sym c.compare.ensures ∙ c.in-Less.is)

pub returns-in-Equal-clause-right : goal.returns-in-Equal-clause-right
returns-in-Equal-clause-right c = takes_equal c.args.ys.now c.args.q c.index-ys-q-2.result (omega (arith, c.requires.q_in, c.if-q-ys.false)) c.index-ys-q-2.is c.index-xs-p.result.edge c.args.ny (sym c.compare.ensures ∙ c.in-Equal.is)

pub returns-in-Equal-clause-before_xs : goal.returns-in-Equal-clause-before_xs
returns-in-Equal-clause-before_xs c = before_own c.args.xs.now c.args.p c.index-xs-p.result (omega (arith, c.requires.p_in, c.if-p-xs.false)) c.index-xs-p.is c.requires.xs_ascend

pub returns-in-Equal-clause-before_ys : goal.returns-in-Equal-clause-before_ys
returns-in-Equal-clause-before_ys c = before_equal c.args.ys.now c.args.q c.index-ys-q-2.result (omega (arith, c.requires.q_in, c.if-q-ys.false)) c.index-ys-q-2.is c.index-xs-p.result.edge c.requires.ys_ascend (sym c.compare.ensures ∙ c.in-Equal.is)

pub returns-in-Greater-clause-before_xs : goal.returns-in-Greater-clause-before_xs
returns-in-Greater-clause-before_xs c = before_rest c.args.xs.now c.args.p c.index-xs-p.result (omega (arith, c.requires.p_in, c.if-p-xs.false)) c.index-xs-p.is c.index-ys-q-2.result.edge c.requires.xs_ascend (other_way c.index-xs-p.result.edge c.index-ys-q-2.result.edge (sym c.compare.ensures ∙ c.in-Greater.is))

pub returns-in-Greater-clause-before_ys : goal.returns-in-Greater-clause-before_ys
returns-in-Greater-clause-before_ys c = before_own c.args.ys.now c.args.q c.index-ys-q-2.result (omega (arith, c.requires.q_in, c.if-q-ys.false)) c.index-ys-q-2.is c.requires.ys_ascend
