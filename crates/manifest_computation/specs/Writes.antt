-- Writes that leave the slice for a request as it was.
use Rattle.std.specs.Prelude.{◌≡◌, List, IfSome}
use Rattle.entity_store.specs.declared.request.Request.{Request}
use Rattle.entity_store.specs.Store.{Store}
use Rattle.policy_set.specs.Data.{PolicyData}
use Rattle.schema_core.specs.Schema.{SchemaData}
use Rattle.reads_spec.specs.Reads.{declared_reads}
use Rattle.reads_spec.specs.Writes.{IsAscending, IsSameWhereReached}
use Rattle.policy_validate.specs.Typed.{typed_conditions}
use Rattle.manifest_computation.specs.Slice.{env_of, slice}

-- stores in order, where the second has the same entity at each id on which a path stands in the first that the
-- policies read on the request, or none where the first has none, have one slice for it
abbrev pub OtherWritesLeaveTheSlice : Type 0
OtherWritesLeaveTheSlice =
    (schema : SchemaData) (ps : List PolicyData) (q : Request)
    (s t : Store) → IsAscending s → IsAscending t →
    IfSome (env_of schema q) (λ env.
    IsSameWhereReached (declared_reads schema env (typed_conditions schema env ps)) q s t) →
    slice schema ps q t ≡ slice schema ps q s
