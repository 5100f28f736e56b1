use Rattle.std.proofs.Common.{◌∙◌}
use Rattle.entity_store.proofs.FieldsFound.{field_found}
use Rattle.entity_store.proofs.context.Context.get.Goals as goal

pub returns : goal.returns
returns c = c.get.ensures.value ∙ rw c.self.view_is at (field_found c.args.name.now c.self.inside.fields.entries)
