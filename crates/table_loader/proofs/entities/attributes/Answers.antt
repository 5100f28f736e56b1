use Rattle.std.proofs.Common.{List, ℕ, cond, None, ap, sym, ◌∙◌, subst}
use Rattle.std.specs.BTreeMap.{get, is_at}
use Rattle.std.specs.Map.{lookup}
use Rattle.policy_values.specs.Uid.{text_cmp}
use Rattle.access_tries.specs.Views.{ViewData, children_of}
use Rattle.table_loader.specs.RowsState.{attribute_at}
use Rattle.table_loader.proofs.Attributes.{IsTaking, asks_children, taking_start, taking_more}
use Rattle.table_loader.proofs.RowSteps.{rows_here, rows_later}
use Rattle.table_loader.proofs.entities.attributes.Goals as goal

pub loop-key-init : goal.loop-key-init
loop-key-init g c = record {
  goes_on = rows_here (g.R.Rows.state c.args.rows.now);
  found = λ t known.
      let a = attribute_at t c.args.uid.now in
      let all = children_of c.args.trie.now in
      let f = get text_cmp c.new-attrs.result in
      subst (λ (cs : List (List ℕ × ViewData)). IsTaking a all cs f)
      (sym (c.into_iter-key-iterator.ensures.into_iter_gives ∙ c.children-key-items.ensures.children))
      (taking_start a all f (λ k. ap (λ es. lookup (is_at (text_cmp k)) es) c.new-attrs.ensures.empty));
}

pub loop-key-preserved : goal.loop-key-preserved
loop-key-preserved g c =
    let old = g.R.Rows.state c.args.rows.now in
    let mid = g.R.Rows.state c.loop-key.rows in
    let new = g.R.Rows.state c.put_attribute.new.rows in
    record {
      goes_on = rows_later old mid new c.loop-key.invariant.goes_on c.put_attribute.ensures.goes_on;
      found = λ t known.
          let a = attribute_at t c.args.uid.now in
          let all = children_of c.args.trie.now in
          let f = get text_cmp c.loop-key.attrs in
          let before = c.loop-key.invariant.found t (c.put_attribute.ensures.goes_on.known t known) in
          taking_more a all (c.in-Some.key.now, c.in-Some._behind) c.next.new.self f (get text_cmp c.put_attribute.new.attrs)
          (subst (λ (cs : List (List ℕ × ViewData)). IsTaking a all cs f) c.in-Some.ensures.steps before)
          (c.in_ok-put_attribute.ensures.put t known);
    }

pub returns-clause-found : goal.returns-clause-found
returns-clause-found g c = λ t known k.
    let a = attribute_at t c.args.uid.now in
    let all = children_of c.args.trie.now in
    let f = get text_cmp c.loop-key.attrs in
    let done = subst (λ (cs : List (List ℕ × ViewData)). IsTaking a all cs f) c.in-None.ensures.steps.0 (c.loop-key.invariant.found t known) in
    done.is k ∙ ap (λ b. cond b (a k) None) (sym (asks_children c.args.trie.now c.nodes-nodes.ensures.table k))
