use Rattle.std.proofs.Common.{refl}
use Rattle.policy_validate.proofs.Found.{action_found}
use Rattle.policy_validate.proofs.schema.CoreSchemaSchema.action.Goals as goal

pub returns-in_ok-action_entity-in-Some : goal.returns-in_ok-action_entity-in-Some
returns-in_ok-action_entity-in-Some c = rw (action_found c.args.self.now c.args.action.now, ← c.self.view_is, ← c.in-Some.ensures, c.in_ok-action_entity-in-Some.ensures, c.name.ensures) refl

pub returns-in-None : goal.returns-in-None
returns-in-None c = rw (action_found c.args.self.now c.args.action.now, ← c.self.view_is, ← c.in-None.ensures) refl
