use Rattle.policy_validate.proofs.Checks.{conditions_same}
use Rattle.policy_validate.proofs.Shallow.{accepted_ready}
use Rattle.policy_validate.proofs.condition_laws.found_are_typed.Goals as goal

pub returns : goal.returns
returns c schema s set accepted env typed =
    conditions_same c.check_is_exact.ensures schema env s.policies (accepted_ready c.links_are_written_out.ensures schema s set accepted env typed)
