use Rattle.std.proofs.Common.{refl}
use Rattle.schema_core.proofs.Filled.{added_more, added_all}
use Rattle.schema_core.proofs.sets.add_all.Goals as goal

pub loop-key-init : goal.loop-key-init
loop-key-init g c = rw c.into_iter-key-iterator.ensures.into_iter_gives.0 (record { ordered = c.requires; keys = λ q. refl })

pub loop-key-preserved : goal.loop-key-preserved
loop-key-preserved g c =
    let same = g.met.K.Key.copies c.in-Some.key.now c.in_ok-clone.field-0 c.in_ok-clone.ensures.cases in
    added_more g.met.K.Ord.total c.args.set.now.keys c.args.keys.now.keys _ _ _ _ c.in-Some.key.now c.loop-key.invariant c.in-Some.ensures.steps c.in_ok-insert.ensures.ordered (λ q. rw (← same) (c.in_ok-insert.ensures.updates.0 q))

pub returns-clause-has : goal.returns-clause-has
returns-clause-has g c = added_all g.K.Ord.cmp c.args.set.now.keys c.args.keys.now.keys _ _ c.loop-key.invariant c.in-None.ensures.steps.0

pub returns-clause-ordered : goal.returns-clause-ordered
returns-clause-ordered g c = c.loop-key.invariant.ordered
