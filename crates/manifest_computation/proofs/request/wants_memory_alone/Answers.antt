use Rattle.manifest_computation.proofs.Memory.{memory_alone}
use Rattle.manifest_computation.proofs.request.wants_memory_alone.Goals as goal

pub returns : goal.returns
returns c = memory_alone c.request_rules_are_exact.ensures c.store_rules_are_exact.ensures c.args.schema.now c.action_ids-actions.ensures.schema c.args.policies.now c.args.request.now c.args.entities.now
