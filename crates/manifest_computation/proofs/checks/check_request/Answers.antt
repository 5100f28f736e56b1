use Rattle.std.proofs.Common.{◌≡◌, subst}
use Rattle.std.specs.Prelude.{MatchResult, None}
use Rattle.manifest_computation.specs.CheckSteps.{IsRequestRefusal}
use Rattle.manifest_computation.proofs.checks.check_request.Goals as goal

pub returns : goal.returns
returns c =
    subst (λ f. MatchResult c.check_with.result (λ _. f ≡ None) (IsRequestRefusal f))
    (c.all_functions_are_known.ensures c.in_ok-extensions.extensions c.in_ok-extensions.ensures.signatures c.args.schema.now c.args.request.now)
    c.check_with.ensures
