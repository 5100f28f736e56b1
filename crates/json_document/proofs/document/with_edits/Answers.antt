use Rattle.std.proofs.Common.{[], subst, rules}
use Rattle.json_trees.specs.Trees.{trees_view}
use Rattle.json_document.specs.Edits.{edits_of}
use Rattle.json_document.specs.Faults.{ComesTo}
use Rattle.json_document.proofs.document.with_edits.Goals as goal

pub returns : goal.returns
returns c =
    let read = subst (λ ts. ComesTo (λ es. es) c.read_edits.result (edits_of [] (trees_view ts.items))) c.replace.ensures.value c.read_edits.ensures in
    search rules
