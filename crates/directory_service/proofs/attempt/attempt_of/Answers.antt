use Rattle.std.proofs.Common.{◌∙◌, Err, ap, refl, subst, sym}
use Rattle.directory_service.specs.declared.attempt.Attempt.TheVariants.{Missing}
use Rattle.directory_service.specs.Attempts.{Becomes}
use Rattle.directory_service.proofs.attempt.attempt_of.Goals as goal

pub returns-in-Err-LoaderFault : goal.returns-in-Err-LoaderFault
returns-in-Err-LoaderFault c =
    subst (λ r. Becomes c.args.policies.now.policies c.args.request.now r (Missing c.args.missing))
    (sym (c.in-Err-LoaderFault.is ∙ ap Err c.in-Err-LoaderFault.field-0-is)) (c.args.missing, refl)
