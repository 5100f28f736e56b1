use Rattle.std.proofs.Common.{◌||◌, drop, sym, ap, ◌∙◌, ◌+◌, ◌∷◌}
use Rattle.std.proofs.lemmas.List.{at_drop_more}
use Rattle.typing_spec.specs.Capability.{has_cap}
use Rattle.typing_spec.specs.Recovered.{lends}
use Rattle.typing_spec.proofs.GivenSteps.{given_left}
use Rattle.typing_spec.proofs.known.hold_all.Goals as goal

pub loop-k-preserved : goal.loop-k-preserved
loop-k-preserved c x =
    let left = drop (c.loop-k.k-index + 1) c.args.items.now in
    let taken = at_drop_more (λ ys. has_cap ys x) c.args.items.now c.loop-k.k-index c.k-item.result c.loop-k-test.true ∙ ap (λ e. has_cap (e ∷ left) x) (sym c.k-item.is) in
    ap (λ ks. lends ks x || has_cap left x) c.in_ok-insert.ensures.keys ∙
    given_left c.loop-k.held.keys _ left x ∙
    ap (λ b. lends c.loop-k.held.keys x || b) (sym taken) ∙
    c.loop-k.invariant x
