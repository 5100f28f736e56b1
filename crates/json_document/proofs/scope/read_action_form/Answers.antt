use Rattle.json_trees.specs.Trees.{tree_view}
use Rattle.json_values.specs.Names.{uid_of, uids_of}
use Rattle.std.proofs.Common.{Some}
use Rattle.json_document.proofs.Actions.{other_member}
use Rattle.json_document.proofs.scope.read_action_form.Goals as goal

pub returns-in_default : goal.returns-in_default
returns-in_default c =
    let d = tree_view c.args.tree.now in
    other_member c.args.key.now (uid_of d) (uids_of (Some d)) c.in_default.not-text c.in_default.not-in
