use Rattle.std.proofs.Common.{◌∙◌, ap}
use Rattle.policy_values.specs.Value.{field_at}
use Rattle.entity_store.proofs.FieldsFound.{field_found}
use Rattle.entity_store.proofs.entity.Entity.get_tag.Goals as goal

pub returns : goal.returns
returns c = c.get.ensures.value ∙ field_found c.args.key.now c.self.inside.tags.entries ∙ ap (λ e. field_at e.tags c.args.key.now) c.self.view_is
