use Rattle.std.proofs.Common.{◌≡◌, ◌∙◌, ap}
use Rattle.std.proofs.lemmas.List.{take_all}
use Rattle.schema_core.specs.Schema.{SchemaData}
use Rattle.schema_core.specs.EnvData.{unlinked_of}
use Rattle.schema_core.proofs.Lists.{flat_mapped_next}
use Rattle.schema_core.proofs.validator_schema.ValidatorSchema.unlinked_request_envs.Goals as goal

pub loop-action-preserved : goal.loop-action-preserved
loop-action-preserved c =
    let whole : c.deref-action-items.result.now ≡ c.args.self.now.action_ids = c.deref-action-items.ensures.value ∙ ap (λ (s : SchemaData). s.action_ids) c.self.view_is in
    flat_mapped_next unlinked_of c.args.self.now.action_ids c.loop-action.action-index c.action-item.result _ _ (rw whole at c.loop-action-test.true) (rw whole at c.action-item.is) c.loop-action.invariant c.in_ok-add_environments.ensures

pub returns : goal.returns
returns c =
    let whole : c.deref-action-items.result.now ≡ c.args.self.now.action_ids = c.deref-action-items.ensures.value ∙ ap (λ (s : SchemaData). s.action_ids) c.self.view_is in
    rw (take_all c.loop-action.action-index c.args.self.now.action_ids (rw whole at c.loop-action-test.false)) at c.loop-action.invariant
