use Rattle.std.proofs.Common.{◌≡◌, true, is_some, map, ap, subst, arith}
use Rattle.std.specs.BTreeMap.{get}
use Rattle.std.specs.Ordering.{nat_cmp}
use Rattle.std.proofs.lemmas.Bool.{false≢true}
use Rattle.policy_values.specs.Value.{entity}
use Rattle.access_tries.specs.Views.{whole}
use Rattle.entity_loading.specs.Names.{SomeNames}
use Rattle.entity_loading.specs.Waiting.{Gives, Adds}
use Rattle.entity_loading.proofs.WaitSteps.{popped, new_from, fewer_left, gives_all, nothing_left}
use Rattle.entity_loading.proofs.roots.name_waiting.Goals as goal

pub loop-number-smaller : goal.loop-number-smaller
loop-number-smaller c =
    let ns = c.args.nodes.now in
    let n = c.in-Some.number in
    let uids = c.in-Some.uids in
    let old = c.loop-number.waiting in
    let rest = c.pop_first.new.self in
    let new = c.name_each_entity.new.waiting in
    let some = c.in-Some.ensures in
    let there = c.loop-number.invariant.there in
    let found : is_some (get nat_cmp old n) ≡ true = ap (λ o. is_some o) some.value in
    fewer_left ns n uids rest.entries old new some.removal (there n found).1
    (new_from n uids old rest some.value some.updates.0 ns some.least there c.new-trie.result c.new-trie.ensures new c.in_ok-name_each_entity.ensures.later)

pub loop-number-preserved : goal.loop-number-preserved
loop-number-preserved c =
    let ns = c.args.nodes.now in
    let n = c.in-Some.number in
    let uids = c.in-Some.uids in
    let old = c.loop-number.waiting in
    let rest = c.pop_first.new.self in
    let ids = c.loop-number.ids in
    let new_ids = c.name_each_entity.new.ids in
    let new = c.name_each_entity.new.waiting in
    let some = c.in-Some.ensures in
    let later = new_from n uids old rest some.value some.updates.0 ns some.least c.loop-number.invariant.there c.new-trie.result c.new-trie.ensures new c.in_ok-name_each_entity.ensures.later in
    record {
      given = λ s kept y.
          let a = subst (λ v. Adds (SomeNames s (map entity uids.keys) v) (Gives s v ids rest) (Gives s v new_ids new)) c.new-trie.ensures (c.in_ok-name_each_entity.ensures.named s kept) in
          let p = popped n uids old rest some.value some.updates.0 s (whole ns) ids y new_ids new a in
          let i = c.loop-number.invariant.given s kept y in
          (λ g. i.0 (p.0 g), λ g. p.1 (i.1 g));
      there = λ m h. (omega arith, (later m h).1);
    }

pub returns : goal.returns
returns c = λ s kept y.
    let ns = c.args.nodes.now in
    let none = nothing_left c.loop-number.waiting (λ h. false≢true (c.in_default.ensures.variant.1 h)) in
    let i = c.loop-number.invariant.given s kept y in
    let g = gives_all s (whole ns) c.loop-number.ids c.loop-number.waiting y none in
    (λ h. i.0 (g.0 h), λ h. g.1 (i.1 h))
