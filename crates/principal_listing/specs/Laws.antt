-- What holds of allowed principals and their pages.
use Rattle.std.specs.Prelude.{◌≡◌, ◌≤◌, ℕ, true, List, Option, map, flat_map}
use Rattle.std.specs.List.Sorted.{IsStrictlySortedBy}
use Rattle.policy_values.specs.declared.entity_uid.EntityUID.{EntityUID}
use Rattle.policy_values.specs.Uid.{uid_cmp}
use Rattle.entity_store.specs.declared.request.Request.{Request}
use Rattle.entity_store.specs.Store.{StoredEntity, Store}
use Rattle.policy_set.specs.Data.{PolicyData}
use Rattle.policy_set.specs.PolicySet.{PolicySetData}
use Rattle.schema_core.specs.Faults.{IsSchema}
use Rattle.schema_core.specs.Schema.{SchemaData}
use Rattle.reads_spec.specs.Among.{IsIn}
use Rattle.entity_manifest.specs.Rules.{KeepRules}
use Rattle.principal_listing.specs.Allowed.{asked_by, applies_to, allowed_principals, KeepOtherRules}
use Rattle.principal_listing.specs.Pages.{after, AreResumed}
use Rattle.principal_listing.specs.declared.page.Page.{Page}

-- where every rule holds that does not speak of the principal, every rule holds for each principal of the
-- store to which the action applies
abbrev pub CandidatesKeepRules : Type 0
CandidatesKeepRules =
    (schema : SchemaData) → IsSchema schema → (policies : PolicySetData) (q : Request) (s : Store) →
    KeepOtherRules schema policies q s → (e : StoredEntity) → IsIn e s →
    applies_to schema q e.uid.entity_type ≡ true →
    KeepRules schema policies (asked_by q e.uid) s

-- pages of one id or more, each resumed after the last id of the one before, give all allowed principals that
-- come after, once and in their order
abbrev pub PagesAreAll : Type 0
PagesAreAll =
    (schema : SchemaData) (ps : List PolicyData) (q : Request) (s : Store) →
    IsStrictlySortedBy uid_cmp (map (λ e. e.uid) s) →
    (n : ℕ) → 1 ≤ n → (x : Option EntityUID) (pages : List Page) →
    AreResumed n (allowed_principals schema ps q s) x pages →
    flat_map (λ p. p.ids.items) pages ≡ after x (allowed_principals schema ps q s)
