-- The entities that conditions reach, and that they conform.
use Rattle.std.specs.Prelude.{◌≡◌, true, ◌||◌, List, [], filter}
use Rattle.std.specs.List.{AllByRecursion}
use Rattle.std.specs.Option.{option_map}
use Rattle.policy_values.specs.Basename.{is_action_type}
use Rattle.policy_values.specs.declared.entity_uid.EntityUID.{EntityUID}
use Rattle.entity_store.specs.declared.request.Request.{Request}
use Rattle.entity_store.specs.FromParents.{without_links}
use Rattle.entity_store.specs.Store.{StoredEntity, Store, entity_at}
use Rattle.policy_expressions.specs.Tree.{Tree}
use Rattle.schema_core.specs.EnvData.{EnvData, LinkedEnvironment, declared_action}
use Rattle.schema_core.specs.Faults.{IsSchema}
use Rattle.schema_core.specs.Schema.{SchemaData}
use Rattle.typing_spec.specs.Conforms.{EntityConforms, StoreConforms, RequestConforms, IsOf}
use Rattle.reads_spec.specs.Cover.{IsPartOf, restricted}
use Rattle.reads_spec.specs.Paths.{AccessPath, Demand}
use Rattle.reads_spec.specs.Reads.{declared_reads, declared_demands}
use Rattle.reads_spec.specs.Restrict.{kept_chain, kept_ancestor}

-- an entity with those of its ancestors that are asked for; an action's entity with all of them
abbrev pub as_asked : List AccessPath → List Demand → Request → Store → StoredEntity → StoredEntity
as_asked ps ds q s e = record e {
  ancestors = filter (λ y. is_action_type e.uid.entity_type || kept_ancestor ps ds q s e.uid y) e.ancestors;
}

-- each entity on which a path stands that typed conditions read in an environment, conforms, with those of
-- its ancestors that they ask for; of the other entities nothing is said
abbrev pub ReachedConforms : {B : Type 0} → SchemaData → EnvData → List (Tree B) → Request → Store → Type 0
ReachedConforms schema env ts q s = AllByRecursion
    (λ e. kept_chain (declared_reads schema env ts) q s e.uid [] ≡ true →
    EntityConforms schema (as_asked (declared_reads schema env ts) (declared_demands schema env ts) q s e))
    s

-- so it is in a store that conforms
abbrev pub StoresConformWhereReached : Type 0 → Type 0
StoresConformWhereReached B =
    (schema : SchemaData) (env : EnvData) (ts : List (Tree B)) (q : Request) (s : Store) →
    StoreConforms schema s → ReachedConforms schema env ts q s

-- each entity on which a path stands is the same in both stores, but for its ancestors
abbrev pub AreAlikeWhereReached : List AccessPath → Request → Store → Store → Type 0
AreAlikeWhereReached ps q whole s = (x : EntityUID) → kept_chain ps q whole x [] ≡ true →
    option_map without_links (entity_at s x) ≡ option_map without_links (entity_at whole x)

-- a store that conforms, between a part of the whole one and the whole one, with all that paths stand on
pub record HasConformingPart (schema : SchemaData) (ps : List AccessPath)
    (q : Request) (least whole : Store) : Type 0 where
  pub store : Store
  pub conforms : StoreConforms schema store
  pub low : IsPartOf least store
  pub high : IsPartOf store whole
  pub alike : AreAlikeWhereReached ps q whole store

-- where the entities that typed conditions reach conform, there is such a store above the restricted one
abbrev pub ReachedPartsConform : Type 0 → Type 0
ReachedPartsConform B =
    (schema : SchemaData) → IsSchema schema →
    (env : LinkedEnvironment) (q : Request) → RequestConforms schema q → IsOf schema q env →
    (whole : Store) (ts : List (Tree B)) → ReachedConforms schema (declared_action env) ts q whole →
    HasConformingPart schema (declared_reads schema (declared_action env) ts) q
    (restricted schema (declared_action env) ts q whole) whole
