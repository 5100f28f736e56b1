use Rattle.principal_listing.proofs.Keeping.{keep_rules}
use Rattle.principal_listing.proofs.laws.candidates_keep_rules.Goals as goal

pub returns : goal.returns
returns c = keep_rules c.request_rules_are_exact.ensures
