use Rattle.edit_service.proofs.Compared.{AreFound}
use Rattle.edit_service.proofs.changes.changes_in.Given as goal

abbrev pub invariant-loop-env : goal.invariant-loop-env
invariant-loop-env l = AreFound l.schema l.edit.before.now.policies l.edit.after.now.policies l.env-items l.env-index l.changes.items
