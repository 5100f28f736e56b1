use Rattle.std.proofs.Common.{subst, rules}
use Rattle.json_trees.specs.Trees.{trees_view}
use Rattle.json_document.specs.Faults.{ComesTo}
use Rattle.json_document.specs.Policies.{no_policies, policies_of}
use Rattle.json_document.proofs.document.with_policies.Goals as goal

pub returns : goal.returns
returns c =
    let read = subst (λ ts. ComesTo (λ s. s) c.read_policies.result (policies_of 0 no_policies (trees_view ts.items))) c.replace.ensures.value c.read_policies.ensures in
    search rules
