use Rattle.std.proofs.Common.{◌≡◌, false, Contains, is_some, sym, ◌∙◌}
use Rattle.policy_values.specs.Reaches.{at}
use Rattle.std.specs.Map.Iter.{deref}
use Rattle.std.proofs.lemmas.Bool.{false≢true}
use Rattle.std.proofs.lemmas.List.Elements.{All-contains_itself}
use Rattle.std.proofs.lemmas.Map.Views.{All-turn}
use Rattle.policy_values.proofs.Least.{least_here, rest_more}
use Rattle.policy_values.proofs.checks.first_unlisted.Goals as goal

pub returns-then-not-contains_key : goal.returns-then-not-contains_key
returns-then-not-contains_key g c =
    let gives = c.into_iter-key-iterator.ensures.into_iter_gives in
    least_here g.met.K.Ord.total g.met.K.Key.exact (λ q. (is_some (at g.K.Ord.cmp c.args.steps.now.entries q) ≡ false) × Contains c.args.next.now.keys q) c.in-Some.key.now c.next.new.self
    (rw c.in-Some.ensures.steps at c.loop-key.invariant)
    (sym c.contains_key.ensures ∙ c.if-not-contains_key.true, All-turn deref (Contains c.args.next.now.keys) _ _ _ _ _ _ _ (All-contains_itself c.args.next.now.keys) gives.0 c.loop-key.yielded_by c.in-Some.is c.next.ensures.steps)

pub loop-key-preserved : goal.loop-key-preserved
loop-key-preserved g c =
    rest_more g.met.K.Ord.total g.met.K.Key.exact (λ q. (is_some (at g.K.Ord.cmp c.args.steps.now.entries q) ≡ false) × Contains c.args.next.now.keys q) c.in-Some.key.now c.next.new.self
    (rw c.in-Some.ensures.steps at c.loop-key.invariant)
    (λ p. false≢true (sym p.0 ∙ (sym c.contains_key.ensures ∙ c.if-not-contains_key.false)))
