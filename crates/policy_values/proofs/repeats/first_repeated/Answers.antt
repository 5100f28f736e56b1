use Rattle.std.proofs.Common.{◌∙◌, ◌≡◌, ◌++◌, ◌∷◌, [], ◌+◌, Some, None, Contains, length, take, arith, refl, sym}
use Rattle.std.specs.List.{slice_get}
use borrow.Author.Count.{below_more}
use Rattle.std.proofs.lemmas.Bool.{not-true, not-false}
use Rattle.std.proofs.lemmas.List.{take_more}
use Rattle.std.proofs.lemmas.Option.{slice_get_read}
use Rattle.std.specs.Ordering.{nat_cmp}
use Rattle.policy_values.specs.Least.{IsLeastIfAny}
use Rattle.policy_values.specs.Repeated.{StandsEarlier}
use Rattle.policy_values.proofs.Seen.{seen_more, found, fresh, not_after, some_repeated}
use Rattle.policy_values.proofs.Repeated.{earlier_within}
use Rattle.policy_values.proofs.repeats.first_repeated.Goals as goal

pub returns-then-not-branch : goal.returns-then-not-branch
returns-then-not-branch g c =
    let xs = take c.loop-i.i c.args.keys.now in
    let x = c.index-keys-i.result in
    let at : slice_get c.args.keys.now c.loop-i.i ≡ Some x = slice_get_read c.args.keys.now (length c.args.keys.now) c.loop-i.i x refl c.loop-i-test.true c.index-keys-i.is in
    let there : Contains xs x = found g.met.K.Ord.total g.met.K.Key.exact xs _ x c.loop-i.invariant.seen (not-false _ (sym c.in_ok-insert.ensures.added ∙ c.if-not-branch.true)) in
    let first : IsLeastIfAny nat_cmp (StandsEarlier c.args.keys.now) (Some c.loop-i.i) = record { holds = rw at there; least = λ j h. not_after c.loop-i.i j (λ below. c.loop-i.invariant.before j below h) } in
    record { place = first; repeated = some_repeated c.args.keys.now (Some c.loop-i.i) first }

pub loop-i-preserved : goal.loop-i-preserved
loop-i-preserved g c =
    let xs = take c.loop-i.i c.args.keys.now in
    let x = c.index-keys-i.result in
    let at : slice_get c.args.keys.now c.loop-i.i ≡ Some x = slice_get_read c.args.keys.now (length c.args.keys.now) c.loop-i.i x refl c.loop-i-test.true c.index-keys-i.is in
    let next : take (c.loop-i.i + 1) c.args.keys.now ≡ xs ++ x ∷ [] = take_more c.args.keys.now c.loop-i.i x c.loop-i-test.true ∙ rw (← c.index-keys-i.is) refl in
    let new = fresh g.met.K.Ord.total g.met.K.Key.exact xs _ x c.loop-i.invariant.seen (not-true _ (sym c.in_ok-insert.ensures.added ∙ c.if-not-branch.false)) in
    record {
      seen = rw next (seen_more g.met.K.Ord.total g.met.K.Key.exact xs _ _ x c.loop-i.invariant.seen (λ q. c.in_ok-insert.ensures.updates.0 (record { ref_ptr = (0, 0); now = q })));
      before = below_more (λ j. StandsEarlier c.args.keys.now j → ⊥) c.loop-i.i c.loop-i.invariant.before (λ h. new (rw at at h));
    }

pub returns : goal.returns
returns g c =
    let none : IsLeastIfAny nat_cmp (StandsEarlier c.args.keys.now) None = λ j h. c.loop-i.invariant.before j (omega (arith, earlier_within c.args.keys.now j h, c.loop-i-test.false)) h in
    record { place = none; repeated = some_repeated c.args.keys.now None none }
