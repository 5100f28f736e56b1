use Rattle.std.proofs.Common.{◌∙◌, sym, subst}
use Rattle.std.proofs.lemmas.Result.{IfOk-weaker}
use Rattle.reads_spec.specs.Restrict.{part}
use Rattle.entity_loading.specs.Names.{IsKept}
use Rattle.entity_loading.specs.Kept.{along_nodes, with_names, AreNodes, AreNamed}
use Rattle.entity_loading.proofs.SliceKeptSteps.{are_nodes, restricted_is}
use Rattle.entity_loading.proofs.restricted.restricted_store.Goals as goal

pub parts_of-requires-clause-there : goal.parts_of-requires-clause-there
parts_of-requires-clause-there c =
    subst (λ ns. AreNodes ns c.in_ok-numbers.numbers) (sym c.nodes-nodes.ensures.nodes) (are_nodes c.args.trie.now c.in_ok-places.places.keys c.in_ok-numbers.numbers c.in_ok-places.ensures.there c.in_ok-numbers.ensures)

pub slice_of-requires-clause-there : goal.slice_of-requires-clause-there
slice_of-requires-clause-there c =
    subst (λ ns. AreNodes ns c.in_ok-numbers.numbers) (sym c.nodes-nodes.ensures.nodes) (are_nodes c.args.trie.now c.in_ok-places.places.keys c.in_ok-numbers.numbers c.in_ok-places.ensures.there c.in_ok-numbers.ensures)

pub returns : goal.returns
returns c = record {
  restricted = λ reads demands fit.
      let t = c.args.trie.now in
      let q = c.args.request.now in
      let s = c.args.entities.now in
      let m = c.in_ok-numbers.numbers in
      let nodes = c.nodes-nodes.ensures.nodes in
      let kept = c.in_ok-kept.kept in
      let sets = c.in_ok-named.named in
      let is_kept = subst (λ ns. IsKept kept (part (along_nodes ns m) s)) nodes c.in_ok-kept.ensures in
      let named = subst (λ ns. AreNamed ns q c.in_ok-places.places.keys kept sets) nodes c.in_ok-named.ensures in
      let all = restricted_is reads demands t fit q s c.in_ok-places.places.keys c.in_ok-places.ensures.reached m c.in_ok-numbers.ensures kept is_kept c.in_ok-places.ensures.there sets named in
      IfOk-weaker c.slice_of.result _ _ (λ r is. is ∙ (λ i. part (with_names (nodes i) m sets) s) ∙ sym all) c.slice_of.ensures;
}
