use Rattle.std.proofs.Common.{[], refl, arith}
use Rattle.std.proofs.lemmas.List.{nil_from_length}
use Rattle.schema_core.proofs.Filled.{added_more, added_all}
use Rattle.schema_core.proofs.sets.set_of.Goals as goal

pub loop-key-init : goal.loop-key-init
loop-key-init g c = rw c.into_iter-key-iterator.ensures.into_iter_gives.0 (record { ordered = c.new-set.ensures.ordered; keys = λ q. rw c.new-set.ensures.empty refl })

pub loop-key-preserved : goal.loop-key-preserved
loop-key-preserved g c =
    added_more g.met.K.Ord.total [] c.args.keys.items _ _ _ _ c.in-Some.key c.loop-key.invariant c.in-Some.ensures.steps.0 c.in_ok-insert.ensures.ordered (λ q. c.in_ok-insert.ensures.updates.0 q)

pub returns-clause-has : goal.returns-clause-has
returns-clause-has g c = added_all g.K.Ord.cmp [] c.args.keys.items c.loop-key.set.keys _ c.loop-key.invariant (nil_from_length _ (omega (arith, c.in-None.ensures.steps.0)))

pub returns-clause-ordered : goal.returns-clause-ordered
returns-clause-ordered g c = c.loop-key.invariant.ordered
