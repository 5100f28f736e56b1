use Rattle.std.proofs.Common.{◌≡◌, Some, ap}
use Rattle.std.specs.Map.{keys_of}
use Rattle.policy_values.specs.Reaches.{at}
use Rattle.std.specs.Map.Iter.{deref_pair}
use Rattle.std.proofs.lemmas.Map.Views.{All-turn}
use Rattle.policy_values.proofs.Back.{turned_first, turned_key, turned_step, turned_all}
use Rattle.policy_values.proofs.reverse.reversed.Goals as goal

pub loop-key-init : goal.loop-key-init
loop-key-init g c = rw c.into_iter-key-iterator.ensures.into_iter_gives.0 (turned_first g.met.K.Ord.total g.met.K.Key.exact c.args.steps.now.entries c.new-back.result.entries c.new-back.ensures.empty)

pub loop-other-init : goal.loop-other-init
loop-other-init g c =
    let gives = c.into_iter-key-iterator.ensures.into_iter_gives in
    let here = All-turn deref_pair (λ e. at g.K.Ord.cmp c.args.steps.now.entries e.0 ≡ Some e.1) _ _ _ _ _ _ _ gives.6 gives.0 c.loop-key.yielded_by c.in-Some.is c.next.ensures.steps in
    rw (c.into_iter-other-iterator.ensures.into_iter_gives.0, c.as_set-other-items.ensures)
    (turned_key g.met.K.Ord.total g.met.K.Key.exact c.args.steps.now.entries c.loop-key.back.entries c.put.new.steps.entries _ _ c.in-Some.key.now c.in-Some.next.now c.loop-key.invariant (ap keys_of c.in-Some.ensures.steps) here c.in_ok-put.ensures.keys c.in_ok-put.ensures.leads)

pub loop-other-preserved : goal.loop-other-preserved
loop-other-preserved g c =
    turned_step g.met.K.Ord.total g.met.K.Key.exact c.args.steps.now.entries c.loop-other.back.entries c.add_step.new.steps.entries _ _ _ c.in-Some.key.now c.in-Some-other.other.now c.loop-other.invariant
    c.in-Some-other.ensures.steps c.in_ok-add_step.ensures.keys c.in_ok-add_step.ensures.leads

pub returns : goal.returns
returns g c = turned_all g.met.K.Ord.total g.met.K.Key.exact c.args.steps.now.entries c.loop-key.back.entries (rw c.in-None.ensures.steps.0 at c.loop-key.invariant)
