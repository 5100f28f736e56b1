use Rattle.live_manifest.proofs.Unions.{tries_unions}
use Rattle.live_manifest.proofs.laws.tries_of_sets_are_unions.Goals as goal

pub returns : goal.returns
returns c = tries_unions
