use Rattle.std.proofs.Common.{◌≡◌, Some, ap}
use Rattle.std.specs.Option.{option_copied}
use Rattle.policy_values.specs.Reaches.{at}
use Rattle.std.specs.Map.{keys_of}
use Rattle.std.specs.Map.Iter.{deref_pair}
use Rattle.std.proofs.lemmas.Map.Views.{All-turn}
use Rattle.policy_values.proofs.LeastOutside.{so_far_first, so_far_more, so_far_all}
use Rattle.policy_values.proofs.checks.least_outside.Goals as goal

pub loop-set-init : goal.loop-set-init
loop-set-init g c = rw c.into_iter-set-iterator.ensures.into_iter_gives.0 (so_far_first g.met.A.Ord.total g.met.A.Key.exact g.met.K.Ord.total c.args.steps.now.entries c.args.sets.now.entries c.into_iter-set-iterator.ensures.into_iter_gives.5)

pub loop-set-preserved : goal.loop-set-preserved
loop-set-preserved g c =
    let gives = c.into_iter-set-iterator.ensures.into_iter_gives in
    let here = All-turn deref_pair (λ e. at g.A.Ord.cmp c.args.sets.now.entries e.0 ≡ Some e.1) _ _ _ _ _ _ _ gives.6 gives.0 c.loop-set.yielded_by c.in-Some.is c.next.ensures.steps in
    so_far_more g.met.A.Ord.total g.met.A.Key.exact g.met.K.Ord.total c.args.steps.now.entries c.args.sets.now.entries _ _ _ _ (option_copied c.loop-set.least) (option_copied c.first_unlisted.result) (option_copied c.lower-least.result) c.loop-set.invariant (ap keys_of c.in-Some.ensures.steps) here (rw c.as_set.ensures at c.first_unlisted.ensures) c.lower-least.ensures

pub returns : goal.returns
returns g c = so_far_all g.met.A.Ord.total g.met.A.Key.exact g.met.K.Ord.total c.args.steps.now.entries c.args.sets.now.entries _ (rw c.in-None.ensures.steps.0 at c.loop-set.invariant)
