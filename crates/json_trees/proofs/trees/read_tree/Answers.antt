use Rattle.std.proofs.Common.{ap, sym, ◌∙◌}
use Rattle.json_trees.specs.Trees.{tree_of}
use Rattle.json_trees.proofs.Said.{bytes_read, bytes_refused}
use Rattle.json_trees.proofs.trees.read_tree.Goals as goal

pub returns-in_default : goal.returns-in_default
returns-in_default c = sym (bytes_refused c.args.bytes.now c.in_default.ensures.cases.0)

pub returns : goal.returns
returns c = c.in_range.ensures ∙ sym (bytes_read c.args.bytes.now _ c.in-Ok.ensures.cases.1 (c.in_ok-tree.ensures ∙ ap tree_of c.in-Ok.ensures.cases.0))
