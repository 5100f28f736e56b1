use Rattle.std.proofs.Common.{◌≡◌, sym, ◌∙◌, Some}
use Rattle.policy_values.specs.Reaches.{at, Leads}
use Rattle.std.specs.Map.{keys_of}
use Rattle.std.specs.Map.Iter.{deref_pair}
use Rattle.std.proofs.lemmas.Bool.{false≢true}
use Rattle.std.proofs.lemmas.Map.Views.{All-turn, btree_set_contains_iff}
use Rattle.policy_values.proofs.Least.{least_here, rest_more}
use Rattle.policy_values.proofs.Reaches.{Leads-key, Leads-at}
use Rattle.policy_values.proofs.checks.first_own.Goals as goal

pub loop-key-init : goal.loop-key-init
loop-key-init g c = rw c.into_iter-key-iterator.ensures.into_iter_gives.0 (record {
  ordered = c.into_iter-key-iterator.ensures.into_iter_gives.5;
  among = λ q h. Leads-key g.K.Ord.cmp c.args.steps.now.entries q q h;
})

pub returns-then-contains : goal.returns-then-contains
returns-then-contains g c =
    let gives = c.into_iter-key-iterator.ensures.into_iter_gives in
    let here = All-turn deref_pair (λ e. at g.K.Ord.cmp c.args.steps.now.entries e.0 ≡ Some e.1) _ _ _ _ _ _ _ gives.6 gives.0 c.loop-key.yielded_by c.in-Some.is c.next.ensures.steps in
    least_here g.met.K.Ord.total g.met.K.Key.exact (λ q. Leads g.K.Ord.cmp c.args.steps.now.entries q q) c.in-Some.key.now (keys_of c.next.new.self)
    (rw c.in-Some.ensures.steps at c.loop-key.invariant)
    ((Leads-at g.K.Ord.cmp c.args.steps.now.entries _ _ here _).1 ((btree_set_contains_iff g.met.K.Ord.total g.met.K.Key.exact c.in-Some.next.now c.in-Some.key.now).0 (sym (rw c.as_set.ensures at c.contains.ensures) ∙ c.if-contains.true)))

pub loop-key-preserved : goal.loop-key-preserved
loop-key-preserved g c =
    let gives = c.into_iter-key-iterator.ensures.into_iter_gives in
    let here = All-turn deref_pair (λ e. at g.K.Ord.cmp c.args.steps.now.entries e.0 ≡ Some e.1) _ _ _ _ _ _ _ gives.6 gives.0 c.loop-key.yielded_by c.in-Some.is c.next.ensures.steps in
    rest_more g.met.K.Ord.total g.met.K.Key.exact (λ q. Leads g.K.Ord.cmp c.args.steps.now.entries q q) c.in-Some.key.now (keys_of c.next.new.self)
    (rw c.in-Some.ensures.steps at c.loop-key.invariant)
    (λ own. false≢true (sym c.if-contains.false ∙ (rw c.as_set.ensures at c.contains.ensures ∙ (btree_set_contains_iff g.met.K.Ord.total g.met.K.Key.exact c.in-Some.next.now c.in-Some.key.now).1 ((Leads-at g.K.Ord.cmp c.args.steps.now.entries _ _ here _).0 own))))
