use Rattle.std.proofs.Common.{◌≡◌, Bool, List, [], Result, Ok, Err}
use Rattle.std.proofs.lemmas.Result.{err_from_is_err_and, IfErr-weaker, IfOk-weaker}
use Rattle.std.specs.Prelude.{IfOk, OnOk}
use Rattle.std.specs.BTreeMap.{get}
use Rattle.std.specs.BTreeSet.{BTreeSet}
use Rattle.policy_values.specs.declared.entity_uid.EntityUID.{EntityUID}
use Rattle.policy_values.specs.Uid.{uid_cmp}
use Rattle.entity_store.specs.Store.{Store}
use Rattle.access_tries.specs.Table.{Table}
use Rattle.entity_loading.specs.Answered.{answers_point}
use Rattle.entity_loading.specs.Needs.{Adds}
use Rattle.entity_loading.specs.declared.place.Place.{Place}
use Rattle.entity_loading.specs.Keeping.{Found, kept_and}
use Rattle.entity_loading.specs.Rounds.{AreHonestAt, IsRound}
use Rattle.entity_loading.specs.declared.error.EntitySliceError.{EntitySliceError}
use Rattle.entity_loading.proofs.RightSteps.{right_refused, taken_refused}
use Rattle.entity_loading.proofs.RoundSteps.{not_taken}
use Rattle.entity_loading.proofs.UnaskedSteps.{undemanding_next}
use Rattle.entity_loading.proofs.rounds.one_round.Goals as goal

rounded : (exact : Bool) (s : Store) (ns : Table) (ps : List Place) (old new found : Found) → AreHonestAt exact s ns ps found → (r : Result (BTreeSet Place) EntitySliceError)
    → OnOk r ((x : EntityUID) → new x ≡ kept_and (old x) (found x)) → IfOk r (λ next. Adds ns (answers_point ns found ps) [] next.keys) → IfOk r (λ next. IsRound exact s ns ps old new next.keys)
rounded exact s ns ps old new found h (Ok next) kept asked = record { found = found; honest = h; kept = kept; asked = asked }
rounded exact s ns ps old new found h (Err e) kept asked = tt

pub returns-in_err-found-clause-right : goal.returns-in_err-found-clause-right
returns-in_err-found-clause-right g c = λ s known.
    let old = g.D.EntityLoader.state c.args.loader.now in
    let exit = err_from_is_err_and c.from_residual.result c.from_residual.ensures.1 in
    rw (exit.1, exit.2)
    (right_refused old.exact s c.args.nodes.now c.args.pending.now.keys (get uid_cmp c.args.kept.now) old (g.D.EntityLoader.state c.answers_at.new.loader) c.in_err-found.field-0.0 (c.in_err-found.ensures.right s known))

pub returns-clause-cause : goal.returns-clause-cause
returns-clause-cause g c =
    IfErr-weaker c.take_answers.result _ _
    (not_taken c.args.nodes.now c.args.pending.now.keys (g.D.EntityLoader.state c.args.loader.now) (g.D.EntityLoader.state c.answers_at.new.loader) (get uid_cmp c.args.kept.now) (get uid_cmp c.in_ok-found.found) c.requires.ids c.in_ok-found.ensures.ids)
    c.take_answers.ensures.why

pub returns-clause-honest : goal.returns-clause-honest
returns-clause-honest g c = λ s known.
    rounded (g.D.EntityLoader.state c.args.loader.now).exact s c.args.nodes.now c.args.pending.now.keys (get uid_cmp c.args.kept.now) (get uid_cmp c.take_answers.new.kept) (get uid_cmp c.in_ok-found.found) (c.in_ok-found.ensures.honest s known)
    c.take_answers.result c.take_answers.ensures.kept c.take_answers.ensures.asked

pub returns-clause-right : goal.returns-clause-right
returns-clause-right g c = λ s known.
    let old = g.D.EntityLoader.state c.args.loader.now in
    IfErr-weaker c.take_answers.result _ _
    (taken_refused old.exact s c.args.nodes.now c.args.pending.now.keys (get uid_cmp c.args.kept.now) (get uid_cmp c.in_ok-found.found) old (g.D.EntityLoader.state c.answers_at.new.loader) (c.in_ok-found.ensures.honest s known))
    c.take_answers.ensures.why

pub returns-clause-quiet : goal.returns-clause-quiet
returns-clause-quiet g c =
    IfOk-weaker c.take_answers.result _ _
    (λ next adds none. undemanding_next c.args.nodes.now (get uid_cmp c.in_ok-found.found) c.args.pending.now.keys next.keys adds none) c.take_answers.ensures.asked
