use Rattle.json.proofs.Trees.{view-Object}
use Rattle.json_trees.proofs.lookups.has_only.Goals as goal

pub returns-in-Object : goal.returns-in-Object
returns-in-Object c = rw (c.in-Object.is, view-Object c.in-Object.members) c.have_only.ensures
