-- Writes to a store where no path stands.
use Rattle.std.specs.Prelude.{◌≡◌, true, List, [], map}
use Rattle.std.specs.List.Sorted.{IsStrictlySortedBy}
use Rattle.policy_values.specs.declared.entity_uid.EntityUID.{EntityUID}
use Rattle.policy_values.specs.Uid.{uid_cmp}
use Rattle.entity_store.specs.declared.request.Request.{Request}
use Rattle.entity_store.specs.Store.{Store, entity_at}
use Rattle.policy_expressions.specs.Tree.{Tree}
use Rattle.schema_core.specs.EnvData.{EnvData}
use Rattle.schema_core.specs.Schema.{SchemaData}
use Rattle.reads_spec.specs.Cover.{restricted}
use Rattle.reads_spec.specs.Paths.{AccessPath}
use Rattle.reads_spec.specs.Reads.{declared_reads}
use Rattle.reads_spec.specs.Restrict.{kept_chain}

abbrev pub IsAscending : Store → Type 0
IsAscending s = IsStrictlySortedBy uid_cmp (map (λ e. e.uid) s)

-- at each id on which a path stands in the first store, the second has the same entity, or none where the first
-- has none
abbrev pub IsSameWhereReached : List AccessPath → Request → Store → Store → Type 0
IsSameWhereReached ps q s t =
    (x : EntityUID) → kept_chain ps q s x [] ≡ true → entity_at t x ≡ entity_at s x

-- so restricted to what typed conditions read they are one store
abbrev pub OtherWritesAreUnread : Type 0 → Type 0
OtherWritesAreUnread B =
    (schema : SchemaData) (env : EnvData) (ts : List (Tree B)) (q : Request)
    (s t : Store) → IsAscending s → IsAscending t →
    IsSameWhereReached (declared_reads schema env ts) q s t →
    restricted schema env ts q t ≡ restricted schema env ts q s
