-- Entities kept under their ids.
use Rattle.std.specs.List.{AllByRecursion}
use Rattle.std.specs.List.Sorted.{IsStrictlySortedBy}
use Rattle.std.specs.BTreeMap.{BTreeMap, values}
use Rattle.policy_values.specs.Keyed.{AreAtTheirKeys}
use Rattle.policy_values.specs.declared.entity_uid.EntityUID.{EntityUID}
use Rattle.policy_values.specs.Uid.{uid_cmp}
use Rattle.entity_store.specs.Store.{StoredEntity}

-- the ids ascend, each is that of its entity, and the ancestors of each entity ascend
pub record AreStored (entries : BTreeMap EntityUID StoredEntity) : Type 0 where
  pub keyed : AreAtTheirKeys uid_cmp (λ e. e.uid) entries
  pub ancestors : AllByRecursion (λ e. IsStrictlySortedBy uid_cmp e.ancestors) (values entries)
