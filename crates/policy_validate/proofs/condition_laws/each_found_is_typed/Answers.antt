use Rattle.std.proofs.Common.{[], ◌∷◌}
use Rattle.policy_values.specs.Keyed.{has_key}
use Rattle.policy_values.specs.Uid.{text_cmp}
use Rattle.policy_validate.proofs.AllWritten.{all_found}
use Rattle.policy_validate.proofs.Checks.{conditions_same, IsReady}
use Rattle.policy_validate.proofs.Shallow.{accepted_ready}
use Rattle.policy_validate.proofs.condition_laws.each_found_is_typed.Goals as goal

pub returns : goal.returns
returns c schema s set accepted id p is env typed =
    let ready = accepted_ready c.links_are_written_out.ensures schema s set accepted env typed in
    conditions_same c.check_is_exact.ensures schema env (p ∷ []) (all_found (IsReady schema env) (has_key text_cmp (λ q. q.id) id) s.policies ready p is, tt)
