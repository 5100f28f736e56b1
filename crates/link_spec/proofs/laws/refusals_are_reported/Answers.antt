use Rattle.link_spec.proofs.Refused.{refusals_reported}
use Rattle.link_spec.proofs.laws.refusals_are_reported.Goals as goal

pub returns : goal.returns
returns c = refusals_reported c.refusal_is_reported.ensures
