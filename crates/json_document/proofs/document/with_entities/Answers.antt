use Rattle.std.proofs.Common.{subst, rules}
use Rattle.json_trees.specs.Trees.{trees_view}
use Rattle.json_document.specs.Faults.{MayComeTo}
use Rattle.json_document.specs.Store.{IsStoreOf}
use Rattle.json_document.proofs.document.with_entities.Goals as goal

pub returns : goal.returns
returns c =
    let read = subst (λ ts. MayComeTo c.read_store.result (IsStoreOf (trees_view ts.items))) c.replace.ensures.value c.read_store.ensures in
    search rules

pub returns-2 : goal.returns-2
returns-2 c =
    let read = subst (λ ts. MayComeTo c.read_store.result (IsStoreOf (trees_view ts.items))) c.replace.ensures.value c.read_store.ensures in
    search rules
