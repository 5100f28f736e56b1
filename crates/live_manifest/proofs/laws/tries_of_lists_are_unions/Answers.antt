use Rattle.live_manifest.proofs.Unions.{lists_united}
use Rattle.live_manifest.proofs.laws.tries_of_lists_are_unions.Goals as goal

pub returns : goal.returns
returns c = lists_united
