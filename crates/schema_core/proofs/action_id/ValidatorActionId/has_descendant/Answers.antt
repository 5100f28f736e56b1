use Rattle.policy_values.specs.Uid.{uid_cmp_total, exact_uid}
use Rattle.std.proofs.lemmas.Map.Views.{btree_set_contains_iff}
use Rattle.schema_core.proofs.action_id.ValidatorActionId.has_descendant.Goals as goal

pub returns : goal.returns
returns c = rw (c.contains.ensures, ← c.self.view_is) (btree_set_contains_iff uid_cmp_total exact_uid c.self.inside.descendants c.args.uid.now)
