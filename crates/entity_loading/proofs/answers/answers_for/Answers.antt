use Rattle.std.proofs.Common.{◌≡◌, length, arith, ◌∙◌}
use Rattle.std.proofs.lemmas.Result.{IfOk-weaker, IfErr-weaker}
use Rattle.std.specs.BTreeMap.{get}
use Rattle.policy_values.specs.Uid.{uid_cmp}
use Rattle.entity_loader.specs.Answers.{Fits}
use Rattle.entity_loading.proofs.AnswerSteps.{honest_all}
use Rattle.entity_loading.proofs.RoundSteps.{honest_zip, other_number, stray_cause, stray_right}
use Rattle.plain_lemmas.proofs.Lists.{zip_length}
use Rattle.entity_loading.proofs.answers.answers_for.Goals as goal

pub returns-then-expected-got-clause-cause : goal.returns-then-expected-got-clause-cause
returns-then-expected-got-clause-cause g c = let many : length c.in-Ok.answers.items ≡ c.len-got.result = omega (arith, c.in-Ok.answers.ok, c.len-got.ensures) in let asked : c.len-expected.result ≡ length c.args.requests.now.items = omega (arith, c.args.requests.now.ok, c.len-expected.ensures) in (
  c.if-expected-got.true,
  other_number c.args.requests.now.items c.in-Ok.answers.items (g.D.EntityLoader.state c.args.loader.now) (g.D.EntityLoader.state c.load_entities.new.self) c.in-Ok.ensures.fit (λ e. c.if-expected-got.true (asked ∙ e ∙ many)),
)

pub returns-then-expected-got-clause-right : goal.returns-then-expected-got-clause-right
returns-then-expected-got-clause-right g c = λ s known.
    let rs = c.args.requests.now.items in
    let os = c.in-Ok.answers.items in
    let many : length os ≡ c.len-got.result = omega (arith, c.in-Ok.answers.ok, c.len-got.ensures) in
    let asked : c.len-expected.result ≡ length rs = omega (arith, c.args.requests.now.ok, c.len-expected.ensures) in
    c.if-expected-got.true (asked ∙ zip_length Fits rs os (honest_zip (g.D.EntityLoader.state c.args.loader.now).exact s rs os (c.in-Ok.ensures.honest s known)) ∙ many)

pub returns-clause-cause : goal.returns-clause-cause
returns-clause-cause g c =
    IfErr-weaker c.under_ids.result _ _ (stray_cause (λ v. ⊥) c.args.requests.now.items c.in-Ok.answers.items (g.D.EntityLoader.state c.args.loader.now) (g.D.EntityLoader.state c.load_entities.new.self) c.in-Ok.ensures.fit) c.under_ids.ensures.why

pub returns-clause-honest : goal.returns-clause-honest
returns-clause-honest g c = λ s known.
    IfOk-weaker c.under_ids.result _ _ (λ found is. honest_all (g.D.EntityLoader.state c.args.loader.now).exact s c.args.requests.now.items c.in-Ok.answers.items (get uid_cmp found) c.requires (c.in-Ok.ensures.honest s known) is) c.under_ids.ensures.found

pub returns-clause-right : goal.returns-clause-right
returns-clause-right g c = λ s known.
    let rs = c.args.requests.now.items in
    let os = c.in-Ok.answers.items in
    let old = g.D.EntityLoader.state c.args.loader.now in
    IfErr-weaker c.under_ids.result _ _ (stray_right (λ v. ⊥) rs os old (g.D.EntityLoader.state c.load_entities.new.self) (honest_zip old.exact s rs os (c.in-Ok.ensures.honest s known))) c.under_ids.ensures.why
