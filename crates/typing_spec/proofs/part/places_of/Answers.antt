use Rattle.std.proofs.Common.{◌<◌, ◌∙◌, subst, sym}
use Rattle.typing_spec.proofs.PlaceSteps.{one_more}
use Rattle.typing_spec.proofs.part.places_of.Goals as goal

pub loop-place-preserved : goal.loop-place-preserved
loop-place-preserved c = one_more c.loop-place.places c.insert.new.self c.args.items.now.items c.loop-place.place c.loop-place.place c.index.result.now (subst (λ n. c.loop-place.place < n) (c.len-place-end.ensures ∙ c.args.items.now.ok.0) c.loop-place-test.true)
    (rw (sym c.index.ensures, sym c.print.ensures) c.in_ok-insert.ensures.updates) c.loop-place.invariant
