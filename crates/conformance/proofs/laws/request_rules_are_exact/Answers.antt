use Rattle.conformance.proofs.Requests.{requests_exact}
use Rattle.conformance.proofs.laws.request_rules_are_exact.Goals as goal

pub returns : goal.returns
returns c = requests_exact
