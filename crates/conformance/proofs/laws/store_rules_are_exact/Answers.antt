use Rattle.conformance.proofs.Stores.{stores_exact}
use Rattle.conformance.proofs.laws.store_rules_are_exact.Goals as goal

pub returns : goal.returns
returns c = stores_exact
