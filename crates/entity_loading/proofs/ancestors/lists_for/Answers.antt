use Rattle.std.proofs.Common.{◌≡◌, length, arith, ◌∙◌}
use Rattle.entity_loader.specs.Answers.{IsHonestList}
use Rattle.plain_lemmas.proofs.Lists.{zip_length}
use Rattle.entity_loading.proofs.ancestors.lists_for.Goals as goal

pub returns-then-expected-got-clause-right : goal.returns-then-expected-got-clause-right
returns-then-expected-got-clause-right g c = λ s known.
    let same = zip_length (IsHonestList (g.D.EntityLoader.state c.args.loader.now).exact s) c.args.requests.now.items c.in-Ok.lists.items (c.in-Ok.ensures.honest s known) in
    let many : length c.in-Ok.lists.items ≡ c.len-got.result = omega (arith, c.in-Ok.lists.ok, c.len-got.ensures) in
    let asked : c.len-expected.result ≡ length c.args.requests.now.items = omega (arith, c.args.requests.now.ok, c.len-expected.ensures) in
    c.if-expected-got.true (asked ∙ same ∙ many)
