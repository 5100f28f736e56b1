use Rattle.std.proofs.Common.{◌≡◌, Some}
use Rattle.policy_values.specs.Reaches.{at, IsNotClosed}
use Rattle.std.specs.Map.{keys_of}
use Rattle.std.specs.Map.Iter.{deref_pair}
use Rattle.std.proofs.lemmas.Map.Views.{All-turn}
use Rattle.policy_values.proofs.Least.{least_here, rest_more, none_left}
use Rattle.policy_values.proofs.Reaches.{Leads-key, Leads-at}
use Rattle.policy_values.proofs.checks.first_not_closed.Goals as goal

pub loop-key-init : goal.loop-key-init
loop-key-init g c = rw c.into_iter-key-iterator.ensures.into_iter_gives.0 (record {
  ordered = c.into_iter-key-iterator.ensures.into_iter_gives.5;
  among = λ q h. Leads-key g.K.Ord.cmp c.args.steps.now.entries q h.0 h.2;
})

pub returns-then-not-is_closed : goal.returns-then-not-is_closed
returns-then-not-is_closed g c =
    let gives = c.into_iter-key-iterator.ensures.into_iter_gives in
    let here = All-turn deref_pair (λ e. at g.K.Ord.cmp c.args.steps.now.entries e.0 ≡ Some e.1) _ _ _ _ _ _ _ gives.6 gives.0 c.loop-key.yielded_by c.in-Some.is c.next.ensures.steps in
    let w = rw (c.if-not-is_closed.true, c.as_set.ensures) at c.is_closed.ensures in
    let at = Leads-at g.K.Ord.cmp c.args.steps.now.entries c.in-Some.key.now c.in-Some.next.now here in
    least_here g.met.K.Ord.total g.met.K.Key.exact (IsNotClosed g.K.Ord.cmp c.args.steps.now.entries) c.in-Some.key.now (keys_of c.next.new.self)
    (rw c.in-Some.ensures.steps at c.loop-key.invariant) (w.0, w.1, (at w.0).1 w.2, w.3, λ s. w.4 ((at w.1).0 s))

pub loop-key-preserved : goal.loop-key-preserved
loop-key-preserved g c =
    let gives = c.into_iter-key-iterator.ensures.into_iter_gives in
    let here = All-turn deref_pair (λ e. at g.K.Ord.cmp c.args.steps.now.entries e.0 ≡ Some e.1) _ _ _ _ _ _ _ gives.6 gives.0 c.loop-key.yielded_by c.in-Some.is c.next.ensures.steps in
    let w = rw (c.if-not-is_closed.false, c.as_set.ensures) at c.is_closed.ensures in
    let at = Leads-at g.K.Ord.cmp c.args.steps.now.entries c.in-Some.key.now c.in-Some.next.now here in
    rest_more g.met.K.Ord.total g.met.K.Key.exact (IsNotClosed g.K.Ord.cmp c.args.steps.now.entries) c.in-Some.key.now (keys_of c.next.new.self)
    (rw c.in-Some.ensures.steps at c.loop-key.invariant) (λ b. b.4 ((at b.1).1 (w b.0 b.1 ((at b.0).0 b.2) b.3)))

pub returns : goal.returns
returns g c = none_left g.met.K.Ord.total g.met.K.Key.exact (IsNotClosed g.K.Ord.cmp c.args.steps.now.entries) (rw c.in-None.ensures.steps.0 at c.loop-key.invariant)
