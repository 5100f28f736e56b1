use Rattle.std.proofs.Common.{IsSome, sym, ◌∙◌}
use Rattle.std.specs.BTreeMap.{get}
use Rattle.std.specs.Map.Iter.{deref}
use Rattle.std.proofs.lemmas.Bool.{false≢true}
use Rattle.std.proofs.lemmas.Map.Views.{All-turn}
use Rattle.policy_values.specs.Uid.{uid_cmp, uid_cmp_total, exact_uid}
use Rattle.policy_values.proofs.Least.{least_here, rest_more, none_left}
use Rattle.schema_core.specs.Outline.{IsNoAction}
use Rattle.schema_core.specs.Listing.{listed_outline}
use Rattle.schema_core.proofs.checks.first_no_action.Goals as goal

pub loop-uid-init : goal.loop-uid-init
loop-uid-init c = record {
  ordered = rw (c.into_iter-uid-iterator.ensures.into_iter_gives, c.keys-uid-items.ensures.rest) c.keys-uid-items.ensures.ordered;
  among = λ q p. rw c.into_iter-uid-iterator.ensures.into_iter_gives (sym (c.keys-uid-items.ensures.has q) ∙ p.0);
}

pub returns-then-not-is_action : goal.returns-then-not-is_action
returns-then-not-is_action c =
    let listed = All-turn deref (λ k. IsSome (get uid_cmp c.args.listing.now.actions k)) _ _ _ _ _ _ _ c.keys-uid-items.ensures.found (c.into_iter-uid-iterator.ensures.into_iter_gives ∙ c.keys-uid-items.ensures.rest) c.loop-uid.yielded_by c.in-Some.is c.next.ensures.steps in
    least_here uid_cmp_total exact_uid (IsNoAction (listed_outline c.args.listing.now)) c.in-Some.uid.now c.next.new.self (rw c.in-Some.ensures.steps at c.loop-uid.invariant) (listed, sym c.is_action.ensures ∙ c.if-not-is_action.true)

pub loop-uid-preserved : goal.loop-uid-preserved
loop-uid-preserved c =
    rest_more uid_cmp_total exact_uid (IsNoAction (listed_outline c.args.listing.now)) c.in-Some.uid.now c.next.new.self (rw c.in-Some.ensures.steps at c.loop-uid.invariant)
    (λ p. false≢true (sym p.1 ∙ (sym c.is_action.ensures ∙ c.if-not-is_action.false)))

pub returns : goal.returns
returns c = none_left uid_cmp_total exact_uid (IsNoAction (listed_outline c.args.listing.now)) (rw c.in-None.ensures.steps.0 at c.loop-uid.invariant)
