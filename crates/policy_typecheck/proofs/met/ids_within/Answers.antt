use Rattle.std.proofs.Common.{sym, ◌∙◌}
use Rattle.policy_typecheck.proofs.MetActions.{within_more, within_still}
use Rattle.policy_typecheck.proofs.met.ids_within.Goals as goal

pub loop-uid-preserved-then-is_in : goal.loop-uid-preserved-then-is_in
loop-uid-preserved-then-is_in c = within_still c.args.schema.now c.args.uids.now c.loop-uid.uid-index c.uid-item.result c.loop-uid-test.true c.uid-item.is c.requires c.loop-uid.ids.keys c.loop-uid.invariant (sym c.is_in.ensures ∙ c.if-is_in.true)

pub loop-uid-preserved : goal.loop-uid-preserved
loop-uid-preserved c = within_more c.args.schema.now c.args.uids.now c.loop-uid.uid-index c.uid-item.result c.loop-uid-test.true c.uid-item.is c.loop-uid.ids.keys _ c.loop-uid.invariant c.in_ok-add_within.ensures
