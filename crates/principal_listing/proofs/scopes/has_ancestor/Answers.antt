use Rattle.principal_listing.proofs.Unmet.{listed}
use Rattle.principal_listing.proofs.scopes.has_ancestor.Goals as goal

pub returns : goal.returns
returns c = listed c.has_ancestor.result c.args.uid.now c.args.entity.now.ancestors c.has_ancestor.ensures
