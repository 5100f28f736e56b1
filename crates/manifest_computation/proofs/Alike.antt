-- Stores that are decided alike.
use Rattle.std.proofs.Common.{◌≡◌, List, Option, Some, None, IfSome, refl, sym, ap, ◌∙◌}
use Rattle.entity_store.specs.declared.request.Request.{Request}
use Rattle.entity_store.specs.Store.{Store}
use Rattle.policy_set.specs.Data.{PolicyData}
use Rattle.policy_set.specs.Response.{outcomes}
use Rattle.schema_core.specs.EnvData.{EnvData}
use Rattle.schema_core.specs.Schema.{SchemaData}
use Rattle.reads_spec.specs.Reads.{declared_reads}
use Rattle.reads_spec.specs.Writes.{IsSameWhereReached}
use Rattle.reads_spec.proofs.Writing.{unread}
use Rattle.policy_validate.specs.Typed.{typed_conditions}
use Rattle.manifest_computation.specs.Enough.{EqualSlicesDecideAlike, SlicesAreEnough}
use Rattle.manifest_computation.specs.Slice.{env_of, slice_in}
use Rattle.manifest_computation.specs.Writes.{OtherWritesLeaveTheSlice}
use Rattle.manifest_computation.proofs.Same.{response_same}

pub decide_alike : SlicesAreEnough → EqualSlicesDecideAlike
decide_alike slices schema valid policies set once q s t of_s of_t same =
    let on_s = slices schema valid policies set once q s of_s in
    let on_t = slices schema valid policies set once q t of_t in
    let alike : outcomes policies.policies q s ≡ outcomes policies.policies q t = sym on_s.same ∙ ap (λ r. outcomes policies.policies q r) same ∙ on_t.same in
    record { outcomes = alike; response = response_same policies.policies q s t alike }

pub leave_the_slice : OtherWritesLeaveTheSlice
leave_the_slice schema ps q s t of_s of_t same = by (env_of schema q) same
  where
    by : (o : Option EnvData) → IfSome o (λ env. IsSameWhereReached (declared_reads schema env (typed_conditions schema env ps)) q s t) → slice_in schema ps q t o ≡ slice_in schema ps q s o
    by None h = refl
    by (Some env) h = unread schema env (typed_conditions schema env ps) q s t of_s of_t h
