use Rattle.std.proofs.Common.{ap, ◌∙◌}
use Rattle.std.specs.Fn.{iterate}
use Rattle.json_samples.specs.Sample.{next_state}
use Rattle.json_samples.proofs.Users.{three_more, written_first, written_more}
use Rattle.json_samples.proofs.texts.add_users.Goals as goal

pub loop-i-init : goal.loop-i-init
loop-i-init c = record { written = written_first c.args.seed c.args.size _; state_is = c.new-draws.ensures }

pub loop-i-preserved : goal.loop-i-preserved
loop-i-preserved c = record {
  written = written_more c.args.seed c.args.size c.loop-i.i _ _ _ _ _ c.loop-i.invariant.written c.in_ok-add_comma.ensures c.in_ok-add_user.ensures.added c.loop-i.invariant.state_is;
  state_is = c.in_ok-add_user.ensures.steps ∙ ap (iterate next_state 3) c.loop-i.invariant.state_is ∙ three_more c.args.seed c.loop-i.i;
}
