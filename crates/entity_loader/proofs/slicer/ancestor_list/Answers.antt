use Rattle.std.proofs.Common.{sym, subst}
use Rattle.std.proofs.lemmas.Result.{IfOk-weaker}
use Rattle.entity_loader.specs.Answers.{IsListed}
use Rattle.entity_loader.proofs.AnswerSteps.{honest_list}
use Rattle.entity_loader.proofs.slicer.ancestor_list.Goals as goal

pub returns-in-Some : goal.returns-in-Some
returns-in-Some c =
    IfOk-weaker c.ancestors_among.result _ _
    (λ ys t. honest_list c.args.entities.now c.args.request.now c.in-Some.entity.now ys (sym c.in-Some.ensures) (subst (λ ids. IsListed c.in-Some.entity.now.ancestors ids ys.items) c.deref.ensures.value t))
    c.ancestors_among.ensures
