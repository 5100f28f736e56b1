use Rattle.std.proofs.Common.{IsSome, sym, ◌∙◌}
use Rattle.std.specs.BTreeMap.{get}
use Rattle.std.specs.Map.Iter.{deref}
use Rattle.std.proofs.lemmas.Bool.{false≢true}
use Rattle.std.proofs.lemmas.Map.Views.{All-turn}
use Rattle.std.specs.Cmp.Lexicographic.{nat_list_cmp_total}
use Rattle.std.proofs.lemmas.Map.Lookups.{exact_bytes}
use Rattle.policy_values.specs.Uid.{text_cmp}
use Rattle.policy_values.proofs.Least.{least_here, rest_more, none_left}
use Rattle.schema_core.specs.Outline.{IsDeclaredActionType}
use Rattle.schema_core.specs.Listing.{listed_outline}
use Rattle.schema_core.proofs.checks.first_action_type.Goals as goal

pub loop-name-init : goal.loop-name-init
loop-name-init c = record {
  ordered = rw (c.into_iter-name-iterator.ensures.into_iter_gives, c.keys-name-items.ensures.rest) c.keys-name-items.ensures.ordered;
  among = λ q p. rw c.into_iter-name-iterator.ensures.into_iter_gives (sym (c.keys-name-items.ensures.has q) ∙ p.0);
}

pub returns-then-is_action : goal.returns-then-is_action
returns-then-is_action c =
    let listed = All-turn deref (λ k. IsSome (get text_cmp c.args.listing.now.types k)) _ _ _ _ _ _ _ c.keys-name-items.ensures.found (c.into_iter-name-iterator.ensures.into_iter_gives ∙ c.keys-name-items.ensures.rest) c.loop-name.yielded_by c.in-Some.is c.next.ensures.steps in
    least_here nat_list_cmp_total exact_bytes (IsDeclaredActionType (listed_outline c.args.listing.now)) c.in-Some.name.now c.next.new.self (rw c.in-Some.ensures.steps at c.loop-name.invariant) (listed, sym c.is_action.ensures ∙ c.if-is_action.true)

pub loop-name-preserved : goal.loop-name-preserved
loop-name-preserved c =
    rest_more nat_list_cmp_total exact_bytes (IsDeclaredActionType (listed_outline c.args.listing.now)) c.in-Some.name.now c.next.new.self (rw c.in-Some.ensures.steps at c.loop-name.invariant)
    (λ p. false≢true (sym (sym c.is_action.ensures ∙ c.if-is_action.false) ∙ p.1))

pub returns : goal.returns
returns c = none_left nat_list_cmp_total exact_bytes (IsDeclaredActionType (listed_outline c.args.listing.now)) (rw c.in-None.ensures.steps.0 at c.loop-name.invariant)
