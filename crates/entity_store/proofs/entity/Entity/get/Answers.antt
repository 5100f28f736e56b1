use Rattle.std.proofs.Common.{◌∙◌, ap}
use Rattle.policy_values.specs.Value.{field_at}
use Rattle.entity_store.proofs.FieldsFound.{field_found}
use Rattle.entity_store.proofs.entity.Entity.get.Goals as goal

pub returns : goal.returns
returns c = c.get.ensures.value ∙ field_found c.args.key.now c.self.inside.attrs.entries ∙ ap (λ e. field_at e.attrs c.args.key.now) c.self.view_is
