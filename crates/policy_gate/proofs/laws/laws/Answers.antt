use Rattle.policy_gate.proofs.laws.laws.Goals as goal

pub returns : goal.returns
returns c = record {
  errors = c.no_errors_where_accepted.ensures;
  errors_at = c.no_errors_where_accepted_at.ensures;
  requests = c.request_rules_are_exact.ensures;
  stores = c.store_rules_are_exact.ensures;
  levels = c.accepted_levels_are_sound.ensures;
  slices = c.slices_are_enough.ensures;
  outcomes = c.outcomes_are_allowed.ensures;
  impossible = c.impossible_is_never_true.ensures;
  never = c.never_is_never_true.ensures;
  least = c.least_levels_are_least.ensures;
  candidates = c.candidates_keep_rules.ensures;
}
