use Rattle.std.proofs.Common.{subst}
use Rattle.entity_store.specs.FromParents.{IsFromParents, IsRefused}
use Rattle.entity_files.proofs.Right.{none_right}
use Rattle.entity_files.proofs.rows.store_of.Goals as goal

pub returns-in-Err-Duplicate : goal.returns-in-Err-Duplicate
returns-in-Err-Duplicate c =
    let least = subst (IsRefused c.args.entities.items) c.in-Err-Duplicate.field-0-is c.in-Err-Duplicate.ensures in
    none_right (IsFromParents c.args.entities.items) (λ w h. h.once c.in-Err-Duplicate.uid least.holds) c.no_entity.result
