use Rattle.std.proofs.Common.{Contains, sym, ◌∙◌}
use Rattle.std.specs.Map.Iter.{deref}
use Rattle.std.proofs.lemmas.Bool.{false≢true}
use Rattle.std.proofs.lemmas.List.Elements.{All-contains_itself}
use Rattle.std.proofs.lemmas.Map.Views.{All-turn, btree_set_contains_iff}
use Rattle.policy_values.proofs.Reaches.{Leads-at, Leads-none}
use Rattle.policy_values.proofs.Subset.{lacking, closed_step}
use Rattle.policy_values.proofs.checks.is_closed.Goals as goal

pub returns-then-not-is_subset : goal.returns-then-not-is_subset
returns-then-not-is_subset g c =
    let gives = c.into_iter-key-iterator.ensures.into_iter_gives in
    let among = All-turn deref (Contains c.args.next.now.keys) _ _ _ _ _ _ _ (All-contains_itself c.args.next.now.keys) gives.0 c.loop-key.yielded_by c.in-Some.is c.next.ensures.steps in
    let lack = lacking g.met.K.Ord.total g.met.K.Key.exact c.in-Some-get.far.now c.args.next.now (λ all. false≢true (sym c.if-not-is_subset.true ∙ (rw c.as_set.ensures at c.is_subset.ensures).1 all)) in
    (c.in-Some.key.now, lack.0, among, (Leads-at g.K.Ord.cmp c.args.steps.now.entries c.in-Some.key.now c.in-Some-get.far.now (sym c.in-Some-get.ensures.value) lack.0).1 lack.1, lack.2)

pub loop-key-preserved-else-not-is_subset : goal.loop-key-preserved-else-not-is_subset
loop-key-preserved-else-not-is_subset g c =
    closed_step g.met.K.Ord.total g.met.K.Key.exact c.args.steps.now.entries _ _ _ c.in-Some.key.now c.loop-key.invariant c.in-Some.ensures.steps
    (λ z s. (btree_set_contains_iff g.met.K.Ord.total g.met.K.Key.exact c.args.next.now z).0 ((rw c.as_set.ensures at c.is_subset.ensures).0 c.if-not-is_subset.false z
    ((btree_set_contains_iff g.met.K.Ord.total g.met.K.Key.exact c.in-Some-get.far.now z).1 ((Leads-at g.K.Ord.cmp c.args.steps.now.entries c.in-Some.key.now c.in-Some-get.far.now (sym c.in-Some-get.ensures.value) z).0 s))))

pub loop-key-preserved : goal.loop-key-preserved
loop-key-preserved g c =
    closed_step g.met.K.Ord.total g.met.K.Key.exact c.args.steps.now.entries _ _ _ c.in-Some.key.now c.loop-key.invariant c.in-Some.ensures.steps (λ z s. absurd (Leads-none g.K.Ord.cmp c.args.steps.now.entries c.in-Some.key.now (sym c.in_default.ensures.value) z s))
