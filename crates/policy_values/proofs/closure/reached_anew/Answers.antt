use Rattle.std.proofs.Common.{inl, inr, refl}
use Rattle.std.proofs.lemmas.List.Elements.{same_from_all_zip}
use Rattle.policy_values.proofs.Closed.{reached_at_once}
use Rattle.policy_values.proofs.Search.{start_empty, start_next}
use Rattle.policy_values.proofs.closure.reached_anew.Goals as goal

pub reached_from-requires : goal.reached_from-requires
reached_from-requires g c = elim c.in_ok-start.ensures [
  | inl none ↦ start_empty g.met.K.Ord.total g.met.K.Key.exact c.args.steps.now.entries c.args.key.now _ none
  | inr among ↦ start_next g.met.K.Ord.total g.met.K.Key.exact c.args.steps.now.entries c.args.closed.now.entries c.args.key.now c.args.next.now _ c.requires.closed c.requires.here among
]

pub returns-then-lead_nowhere-clause-reached : goal.returns-then-lead_nowhere-clause-reached
returns-then-lead_nowhere-clause-reached g c = λ y.
    rw (same_from_all_zip _ c.args.next.now.keys c.in_ok-clone.field-0.keys c.in_ok-clone.ensures.cases g.met.K.Key.copies)
    (reached_at_once g.K.Ord.cmp c.args.steps.now.entries c.args.closed.now.entries c.args.key.now c.args.next.now c.requires.closed c.requires.here
    (c.if-lead_nowhere.ensures.empty refl) y)
