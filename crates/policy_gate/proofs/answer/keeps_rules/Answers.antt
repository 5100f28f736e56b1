use Rattle.policy_gate.proofs.Says.{keeping}
use Rattle.policy_gate.proofs.answer.keeps_rules.Goals as goal

pub returns : goal.returns
returns c = keeping c.laws.ensures c.args.document.now c.is_well_made.ensures c.requires
