use Rattle.std.proofs.Common.{[], subst, rules}
use Rattle.json_trees.specs.Trees.{trees_view}
use Rattle.json_document.specs.Faults.{ComesTo}
use Rattle.json_document.specs.Request.{requests_of}
use Rattle.json_document.proofs.document.with_requests.Goals as goal

pub returns : goal.returns
returns c =
    let read = subst (λ ts. ComesTo (λ qs. qs) c.read_requests.result (requests_of [] (trees_view ts.items))) c.replace.ensures.value c.read_requests.ensures in
    search rules
