use Rattle.std.proofs.Common.{Some, sym, ap}
use Rattle.json.proofs.Trees.{view-Array}
use Rattle.json_trees.proofs.Said.{items_said}
use Rattle.json_trees.proofs.lookups.into_items.Goals as goal

pub returns-in-Array : goal.returns-in-Array
returns-in-Array c = rw (c.in-Array.is, view-Array c.in-Array.items) (ap Some (sym (items_said c.in-Array.items.items)))
