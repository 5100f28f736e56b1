use Rattle.std.proofs.Common.{take, refl}
use Rattle.condition_risks.specs.Sides.{remembered}
use Rattle.condition_risks.specs.Listed.{expressions}
use Rattle.condition_risks.proofs.Merging.{taken_more, taken_all}
use Rattle.condition_risks.proofs.sides.first_of.Goals as goal

pub loop-x-preserved : goal.loop-x-preserved
loop-x-preserved c = record {
  so_far = taken_more (λ zs. zs) (λ z zs. refl) refl (take remembered (expressions c.args.xs.now.items)) c.deref-x-items.result.now c.args.xs.now.items c.deref-x-items.ensures.value
      c.loop-x.x-index c.loop-x.all.items c.remember.new.all.items c.x-item.result c.x-item.is c.loop-x-test.true c.in_ok-remember.ensures.added c.loop-x.invariant.so_far;
  few = c.in_ok-remember.ensures.few;
}

pub returns-clause-first : goal.returns-clause-first
returns-clause-first c =
    taken_all (λ zs. zs) (λ z zs. refl) refl (take remembered (expressions c.args.xs.now.items)) c.deref-x-items.result.now c.args.xs.now.items c.deref-x-items.ensures.value
    c.loop-x.x-index c.loop-x.all.items c.loop-x-test.false c.loop-x.invariant.few c.loop-x.invariant.so_far
