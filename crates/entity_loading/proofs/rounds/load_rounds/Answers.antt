use Rattle.std.proofs.Common.{◌≡◌, ◌+◌, ◌-◌, ◌&&◌, [], length, refl, sym, ap, ◌∙◌, subst, arith}
use Rattle.std.proofs.lemmas.Bool.{false≢true}
use Rattle.std.proofs.lemmas.List.{nil_from_length}
use Rattle.std.proofs.lemmas.Result.{err_from_is_err_and}
use Rattle.std.specs.BTreeMap.{get}
use Rattle.policy_values.specs.Uid.{uid_cmp, uid_eq}
use Rattle.entity_loading.specs.Places.{node_of}
use Rattle.entity_loading.specs.Needs.{sees}
use Rattle.entity_loading.specs.KeptPart.{IsState}
use Rattle.entity_loading.specs.Rounds.{IsRound}
use Rattle.entity_loading.specs.Unasked.{DemandNothing}
use Rattle.entity_loading.proofs.KeepSteps.{none_there}
use Rattle.entity_loading.proofs.RoundSteps.{AreDeep, deep_first, deep_more, longest, round_within, goes_on_here, goes_later}
use Rattle.entity_loading.specs.Right.{IsRoundError}
use Rattle.entity_loading.proofs.RightSteps.{refused_right}
use Rattle.entity_loading.proofs.StateSteps.{state_start, state_next}
use Rattle.entity_loading.proofs.UnaskedSteps.{undemanding_noted}
use Rattle.entity_loading.proofs.rounds.load_rounds.Goals as goal

pub rounds-init : goal.rounds-init
rounds-init g c =
    let old = g.D.EntityLoader.state c.args.loader.now in
    let ns = c.args.nodes.now in
    let none = none_there c.new-kept.result c.new-kept.ensures.empty in
    record {
      goes_on = goes_on_here old;
      rounds = omega arith;
      lists = refl;
      steps = omega arith;
      ids = λ x e h. absurd (cc (none x, h));
      deep = let zero : 0 ≡ c.args.steps.now - c.args.steps.now = omega arith in subst (λ r. AreDeep ns r c.args.start.keys) zero (deep_first ns c.args.start.keys c.requires.start);
      within = λ n w. omega arith;
      honest = λ s known q b. subst (λ ks. IsState old.exact ns q s ks c.args.start.keys (get uid_cmp c.new-kept.result)) (sym c.new-asked.ensures.empty) (state_start old.exact ns q s c.args.start.keys (get uid_cmp c.new-kept.result) b none);
      begun = λ e. (e, c.new-asked.ensures.empty, refl, refl);
      quiet = λ none. (subst (DemandNothing ns) (sym c.new-asked.ensures.empty) (λ x ms r. refl), none);
    }

pub rounds-preserved : goal.rounds-preserved
rounds-preserved g c =
    let old = g.D.EntityLoader.state c.args.loader.now in
    let mid = g.D.EntityLoader.state c.rounds.loader in
    let new = g.D.EntityLoader.state c.one_round.new.loader in
    let ns = c.args.nodes.now in
    let ps = c.rounds.pending.keys in
    let next = c.in_ok-next.next.keys in
    let inv = c.rounds.invariant in
    let k = c.rounds.steps - c.args.steps.now in
    let up = c.one_round.ensures.steps in
    let before = inv.steps in
    let some : ps ≡ [] → ⊥ = λ e. false≢true (sym c.rounds-test.true ∙ c.is_empty.ensures.1 (ap length e)) in
    record {
      goes_on = goes_later old mid new inv.goes_on c.one_round.ensures.goes_on;
      rounds = let a = c.one_round.ensures.rounds in let b = inv.rounds in omega (arith, a, b, before, up);
      lists = c.one_round.ensures.lists ∙ inv.lists;
      steps = omega (arith, before, up);
      ids = c.in_ok-next.ensures.ids;
      deep = let same : k + 1 ≡ c.one_round.new.steps - c.args.steps.now = omega (arith, before, up) in subst (λ r. AreDeep ns r next) same (deep_more ns k ps next inv.deep c.in_ok-next.ensures.below);
      within = λ n w. let l = longest ns k ps inv.deep some n w in omega (arith, l, before, up);
      honest = λ s known q b.
          let r = subst (λ e. IsRound e s ns ps (get uid_cmp c.rounds.kept) (get uid_cmp c.one_round.new.kept) next) inv.goes_on.exact (c.in_ok-next.ensures.honest s (inv.goes_on.known s known)) in
          state_next old.exact ns q s c.args.start.keys c.rounds.asked.keys ps next c.note.new.asked.keys (get uid_cmp c.rounds.kept) (get uid_cmp c.one_round.new.kept) b (inv.honest s known q b) r inv.deep.there
          (λ d x a. c.in_ok-note.ensures.tests (λ p. uid_eq p.uid x && sees d (node_of ns p) a));
      begun = λ e. absurd (some (inv.begun e).0);
      quiet = λ none. let q = inv.quiet none in (undemanding_noted ns ps c.rounds.asked.keys c.note.new.asked.keys c.in_ok-note.ensures q.0 q.1, c.in_ok-next.ensures.quiet q.1);
    }

pub rounds-smaller : goal.rounds-smaller
rounds-smaller g c =
    let ps = c.rounds.pending.keys in
    let inv = c.rounds.invariant in
    let some : ps ≡ [] → ⊥ = λ e. false≢true (sym c.rounds-test.true ∙ c.is_empty.ensures.1 (ap length e)) in
    let k = round_within c.args.nodes.now (c.rounds.steps - c.args.steps.now) ps inv.deep some in
    let up = c.one_round.ensures.steps in
    let before = inv.steps in
    omega (arith, k, before, up)

pub returns-in_err-next-clause-rounds : goal.returns-in_err-next-clause-rounds
returns-in_err-next-clause-rounds g c = λ n w.
    let inv = c.rounds.invariant in
    let some : c.rounds.pending.keys ≡ [] → ⊥ = λ e. false≢true (sym c.rounds-test.true ∙ c.is_empty.ensures.1 (ap length e)) in
    let l = longest c.args.nodes.now (c.rounds.steps - c.args.steps.now) c.rounds.pending.keys inv.deep some n w in
    let a = c.one_round.ensures.rounds in
    let b = inv.rounds in
    omega (arith, l, a, b)

pub returns-in_err-next-clause-steps : goal.returns-in_err-next-clause-steps
returns-in_err-next-clause-steps g c = λ n w.
    let inv = c.rounds.invariant in
    let some : c.rounds.pending.keys ≡ [] → ⊥ = λ e. false≢true (sym c.rounds-test.true ∙ c.is_empty.ensures.1 (ap length e)) in
    let l = longest c.args.nodes.now (c.rounds.steps - c.args.steps.now) c.rounds.pending.keys inv.deep some n w in
    let up = c.one_round.ensures.steps in
    let before = inv.steps in
    omega (arith, l, up, before)

pub returns-in_err-note-clause-rounds : goal.returns-in_err-note-clause-rounds
returns-in_err-note-clause-rounds g c = λ n w.
    let inv = c.rounds.invariant in
    let some : c.rounds.pending.keys ≡ [] → ⊥ = λ e. false≢true (sym c.rounds-test.true ∙ c.is_empty.ensures.1 (ap length e)) in
    let l = longest c.args.nodes.now (c.rounds.steps - c.args.steps.now) c.rounds.pending.keys inv.deep some n w in
    let a = c.one_round.ensures.rounds in
    let b = inv.rounds in
    omega (arith, l, a, b)

pub returns-in_err-note-clause-steps : goal.returns-in_err-note-clause-steps
returns-in_err-note-clause-steps g c = λ n w.
    let inv = c.rounds.invariant in
    let some : c.rounds.pending.keys ≡ [] → ⊥ = λ e. false≢true (sym c.rounds-test.true ∙ c.is_empty.ensures.1 (ap length e)) in
    let l = longest c.args.nodes.now (c.rounds.steps - c.args.steps.now) c.rounds.pending.keys inv.deep some n w in
    let up = c.one_round.ensures.steps in
    let before = inv.steps in
    omega (arith, l, up, before)

pub returns-clause-honest : goal.returns-clause-honest
returns-clause-honest g c = λ s known q b.
    subst (λ ks. IsState (g.D.EntityLoader.state c.args.loader.now).exact c.args.nodes.now q s c.rounds.asked.keys ks (get uid_cmp c.rounds.kept)) (nil_from_length c.rounds.pending.keys (c.is_empty.ensures.0 c.rounds-test.false)) (c.rounds.invariant.honest s known q b)

pub returns-in_err-next-clause-right : goal.returns-in_err-next-clause-right
returns-in_err-next-clause-right g c = λ s known q b.
    let old = g.D.EntityLoader.state c.args.loader.now in
    let mid = g.D.EntityLoader.state c.rounds.loader in
    let new = g.D.EntityLoader.state c.one_round.new.loader in
    let ns = c.args.nodes.now in
    let ps = c.rounds.pending.keys in
    let inv = c.rounds.invariant in
    let exit = err_from_is_err_and c.from_residual.result c.from_residual.ensures.1 in
    rw (exit.1, exit.2)
    (refused_right old.exact ns q s c.rounds.asked.keys ps (get uid_cmp c.rounds.kept) (inv.honest s known q b) b.order inv.deep.there old mid new inv.goes_on c.in_err-next.field-0.0
    (subst (λ e. IsRoundError e s ns ps (get uid_cmp c.rounds.kept) mid new c.in_err-next.field-0.0) inv.goes_on.exact (c.in_err-next.ensures.right s (inv.goes_on.known s known))))

pub returns-in_err-next-clause-counted : goal.returns-in_err-next-clause-counted
returns-in_err-next-clause-counted g c =
    let a = c.one_round.ensures.rounds in
    let b = c.rounds.invariant.rounds in
    let up = c.one_round.ensures.steps in
    let before = c.rounds.invariant.steps in
    omega (arith, a, b, up, before)

pub returns-in_err-note-clause-counted : goal.returns-in_err-note-clause-counted
returns-in_err-note-clause-counted g c =
    let a = c.one_round.ensures.rounds in
    let b = c.rounds.invariant.rounds in
    let up = c.one_round.ensures.steps in
    let before = c.rounds.invariant.steps in
    omega (arith, a, b, up, before)

pub returns-clause-counted : goal.returns-clause-counted
returns-clause-counted g c =
    let b = c.rounds.invariant.rounds in
    let before = c.rounds.invariant.steps in
    omega (arith, b, before)
