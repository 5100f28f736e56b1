use Rattle.std.proofs.Common.{◌∙◌, sym, Some, None}
use Rattle.policy_ext.proofs.IpFacts.{groups_step, groups_last, cut_shorter}
use Rattle.policy_ext.proofs.ip_reading.read_some_groups.Goals as goal

pub returns-in_err-read : goal.returns-in_err-read
returns-in_err-read c = c.from_residual.ensures ∙ groups_step c.loop-piece.rest.now c.in-Some.piece.now c.in-Some.more.now c.loop-piece.read None _ c.in-Some.ensures (sym c.in_err-read.was ∙ c.with_group.ensures) c.loop-piece.invariant

pub loop-piece-smaller : goal.loop-piece-smaller
loop-piece-smaller c = cut_shorter 58 c.loop-piece.rest.now c.in-Some.piece.now c.in-Some.more.now c.in-Some.ensures

pub loop-piece-preserved : goal.loop-piece-preserved
loop-piece-preserved c = groups_step c.loop-piece.rest.now c.in-Some.piece.now c.in-Some.more.now c.loop-piece.read (Some c.in_ok-read.read) _ c.in-Some.ensures (sym c.in_ok-read.was ∙ c.with_group.ensures) c.loop-piece.invariant

pub returns : goal.returns
returns c = c.with_group-2.ensures ∙ groups_last c.loop-piece.rest.now c.loop-piece.read _ c.in_default.ensures c.loop-piece.invariant
