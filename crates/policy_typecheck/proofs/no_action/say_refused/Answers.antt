use Rattle.std.proofs.Common.{ap}
use Rattle.schema_core.specs.RequestEnvs.{env_data_of}
use Rattle.typecheck_rules.specs.Check.{condition_walked}
use Rattle.policy_typecheck.specs.Reported.{Reported}
use Rattle.policy_typecheck.proofs.Reported.{refused_reported}
use Rattle.policy_typecheck.proofs.no_action.say_refused.Goals as goal

pub returns : goal.returns
returns c =
    let t = c.args.t.now in
    let before : Reported = (c.args.summary.now, c.args.found.now.keys) in
    refused_reported t.id (condition_walked c.args.checker.now (env_data_of c.args.env.now) t.body) before c.say_body.new.found.keys (ap (λ s. s.1) c.in_ok-say_body.ensures)
