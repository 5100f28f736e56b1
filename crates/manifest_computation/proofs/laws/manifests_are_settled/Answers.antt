use Rattle.manifest_computation.proofs.Settled.{settled}
use Rattle.manifest_computation.proofs.laws.manifests_are_settled.Goals as goal

pub returns : goal.returns
returns c = settled c.same_tries_are_equal.ensures
