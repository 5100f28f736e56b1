use Rattle.entity_store.proofs.FieldsFound.{none_from_length}
use Rattle.entity_store.proofs.context.Context.is_empty.Goals as goal

pub returns : goal.returns
returns c =
    let same = rw c.self.view_is at (none_from_length c.self.inside.fields.entries) in
    (λ h. same.0 (c.is_empty.ensures.0 h), λ h. c.is_empty.ensures.1 (same.1 h))
