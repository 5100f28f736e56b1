use Rattle.std.proofs.lemmas.Map.Views.{btree_set_contains_iff}
use Rattle.policy_values.specs.Uid.{uid_cmp_total, exact_uid}
use Rattle.entity_store.proofs.entity.Entity.has_ancestor.Goals as goal

pub returns : goal.returns
returns c = rw (c.contains.ensures, ← c.ancestors.ensures.value) (btree_set_contains_iff uid_cmp_total exact_uid c.ancestors.result.now c.args.uid.now)
