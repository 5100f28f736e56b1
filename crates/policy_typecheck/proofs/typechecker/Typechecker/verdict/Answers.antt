use Rattle.std.proofs.Common.{◌∙◌}
use Rattle.schema_core.specs.RequestEnvs.{env_data_of}
use Rattle.policy_typecheck.proofs.Verdicts.{reported_verdict}
use Rattle.policy_typecheck.proofs.typechecker.Typechecker.verdict.Goals as goal

pub returns : goal.returns
returns c =
    c.verdict_by-verdict.ensures ∙
    reported_verdict c.check_is_exact.ensures c.args.self.now (env_data_of c.args.env.now) c.args.p.now.condition c.requires c.args.p.now.id c.in_ok-check.check c.in_ok-check.ensures
