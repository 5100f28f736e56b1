use Rattle.std.proofs.Common.{◌++◌, ◌∷◌, [], Bool, not, filter, take, refl}
use Rattle.std.proofs.lemmas.List.Elements.{filter-append}
use Rattle.typing_spec.specs.Typing.{Typed}
use Rattle.condition_risks.specs.Sides.{is_found, remembered}
use Rattle.condition_risks.specs.Listed.{expressions}
use Rattle.condition_risks.proofs.Merging.{taken_more, taken_all}
use Rattle.condition_risks.proofs.sides.remember_new.Goals as goal

pub loop-y-preserved : goal.loop-y-preserved
loop-y-preserved c =
    let new : Typed → Bool = λ y. not (is_found (expressions c.args.xs.now.items) y) in
    record {
      so_far = taken_more (filter new) (λ z zs. filter-append new (z ∷ []) zs) refl
          (take remembered (expressions c.args.all.now.items ++ filter new (expressions c.args.ys.now.items)))
          c.deref-y-items.result.now c.args.ys.now.items c.deref-y-items.ensures.value c.loop-y.y-index c.loop-y.all.items c.remember_if_new.new.all.items
          c.y-item.result c.y-item.is c.loop-y-test.true c.in_ok-remember_if_new.ensures.added c.loop-y.invariant.so_far;
      few = c.in_ok-remember_if_new.ensures.few;
    }

pub returns : goal.returns
returns c =
    let new : Typed → Bool = λ y. not (is_found (expressions c.args.xs.now.items) y) in
    taken_all (filter new) (λ z zs. filter-append new (z ∷ []) zs) refl
    (take remembered (expressions c.args.all.now.items ++ filter new (expressions c.args.ys.now.items)))
    c.deref-y-items.result.now c.args.ys.now.items c.deref-y-items.ensures.value c.loop-y.y-index c.loop-y.all.items
    c.loop-y-test.false c.loop-y.invariant.few c.loop-y.invariant.so_far
