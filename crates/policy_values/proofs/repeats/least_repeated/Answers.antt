use Rattle.std.proofs.Common.{◌∙◌, ◌≡◌, ◌++◌, ◌∷◌, [], ◌+◌, take, refl, sym}
use Rattle.std.specs.Option.{option_copied}
use Rattle.std.proofs.lemmas.Bool.{not-true, not-false}
use Rattle.std.proofs.lemmas.List.{take_more, take_all}
use Rattle.policy_values.proofs.Seen.{seen_more, found, fresh, least_new, least_again}
use Rattle.policy_values.proofs.repeats.least_repeated.Goals as goal
use Rattle.policy_values.proofs.repeats.least_repeated.Goals.{then-not-branch, else-not-branch}

pub loop-key-preserved : goal.loop-key-preserved
loop-key-preserved g c =
    let x = c.key-item.result in
    let xs = take c.loop-key.key-index c.args.keys.now in
    let next : take (c.loop-key.key-index + 1) c.args.keys.now ≡ xs ++ x ∷ [] = take_more c.args.keys.now c.loop-key.key-index x c.loop-key-test.true ∙ rw (← c.key-item.is) refl in
    rw next (record {
      seen = seen_more g.met.K.Ord.total g.met.K.Key.exact _ _ _ x c.loop-key.invariant.seen (λ q. c.in_ok-insert.ensures.updates.0 (record { ref_ptr = (0, 0); now = q }));
      least = elim c.if-not-branch.branch [
        | then-not-branch w ↦
            let there = found g.met.K.Ord.total g.met.K.Key.exact xs _ x c.loop-key.invariant.seen (not-false _ (sym c.in_ok-insert.ensures.added ∙ w.if-not-branch.true)) in
            rw (w.least-is, w.lower-least.ensures) (least_again g.met.K.Ord.total g.met.K.Key.exact xs x (option_copied c.loop-key.least) there c.loop-key.invariant.least)
        | else-not-branch w ↦
            let new = fresh g.met.K.Ord.total g.met.K.Key.exact xs _ x c.loop-key.invariant.seen (not-true _ (sym c.in_ok-insert.ensures.added ∙ w.if-not-branch.false)) in
            rw w.least-is (least_new g.met.K.Ord.total g.met.K.Key.exact xs x (option_copied c.loop-key.least) new c.loop-key.invariant.least)
      ];
    })

pub returns : goal.returns
returns g c = rw (take_all c.loop-key.key-index c.args.keys.now c.loop-key-test.false, c.in-None.is) at c.loop-key.invariant.least
