use Rattle.policy_validate.proofs.NoErrors.{template_accepted, link_kept}
use Rattle.policy_validate.proofs.laws.entries_are_accepted.Goals as goal

pub returns : goal.returns
returns c schema = record {
  written = template_accepted schema c.check_is_exact.ensures c.refusals_are_reported.ensures;
  linked = link_kept schema;
}
