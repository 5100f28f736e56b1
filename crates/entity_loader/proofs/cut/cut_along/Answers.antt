use Rattle.std.proofs.Common.{◌≡◌, ◌∙◌, ◌∷◌, []}
use Rattle.std.proofs.lemmas.Result.{IfOk-weaker}
use Rattle.reads_spec.specs.Restrict.{cut_entity}
use Rattle.entity_loader.specs.Asked.{asked, asked_by}
use Rattle.entity_loader.proofs.AnswerSteps.{none_left}
use Rattle.entity_loader.proofs.CutSteps.{asked_alone}
use Rattle.entity_loader.proofs.cut.cut_along.Goals as goal

pub returns : goal.returns
returns c =
    let t = c.args.trie.now in
    let same : asked_by c.nodes.result.now (c.number.result ∷ []) ≡ asked t = (λ i. asked_by (c.nodes.ensures.nodes i) (c.number.ensures i ∷ [])) ∙ asked_alone t in
    let none = c.new.ensures.empty ∙ none_left c.args.entity.now.ancestors in
    IfOk-weaker c.cut_entity.result _ _ (λ e is. is ∙ (λ i. record (cut_entity (same i) c.args.entity.now) { ancestors = none i })) c.cut_entity.ensures
