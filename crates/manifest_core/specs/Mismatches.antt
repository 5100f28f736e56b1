-- What of a manifest a schema declares, and where the two do not fit.
use Rattle.std.specs.Prelude.{◌≡◌, Bool, true, false, ◌&&◌, ◌||◌, [], ◌∷◌, Option, Some, None, if◌then◌else◌}
use Rattle.std.specs.Option.{option_or, option_and_then, option_map_or}
use Rattle.policy_values.specs.declared.entity_uid.EntityUID.{EntityUID}
use Rattle.policy_expressions.specs.declared.kinds.Var.TheVariants.{Principal, Action, Resource, Context}
use Rattle.entity_store.specs.declared.request.RequestType.{RequestType}
use Rattle.schema_types.specs.Ty.{Ty, never, no_attrs}
use Rattle.schema_core.specs.Schema.{SchemaData, type_at, action_at}
use Rattle.schema_core.specs.EnvData.{EnvData, declared_action, literal_type}
use Rattle.type_relations.specs.Join.{is_entity, is_record}
use Rattle.reads_spec.specs.PathTypes.{type_along, root_type}
use Rattle.access_tries.specs.declared.edge.EntityRoot.{EntityRoot}
use Rattle.access_tries.specs.declared.edge.EntityRoot.TheVariants.{Literal, Var as Variable}
use Rattle.access_tries.specs.declared.edge.Step.TheVariants as step
use Rattle.access_tries.specs.declared.edge.Edge.{Edge}
use Rattle.access_tries.specs.declared.edge.Edge.TheVariants.{Field, AnyTag, Root}
use Rattle.access_tries.specs.Edges.{Address}
use Rattle.access_tries.specs.Table.{Table, leads, is_marked}
use Rattle.access_tries.specs.Trees.{Branch, branch, Branches, no_branches, leading, branches_of}
use Rattle.manifest_core.specs.declared.error.MismatchedEntityManifestError.{MismatchedEntityManifestError as Mismatch}
use Rattle.manifest_core.specs.declared.error.MismatchedEntityManifestError.TheVariants.{MismatchedMissingEntity, MismatchedNotStrictSchema, ChildOfPrimitive}
use Rattle.manifest_core.specs.Manifest.{Manifest}

-- the id has no type, or the action is not declared
abbrev pub missing : EntityUID → Mismatch
missing u = MismatchedMissingEntity record { entity = u }

-- a type of principals or of resources is not declared
abbrev pub not_strict : Mismatch
not_strict = MismatchedNotStrictSchema record {}

-- no fault where the thing is there
abbrev pub unless_there : {A : Type 0} → Option A → Mismatch → Option Mismatch
unless_there (Some x) f = None
unless_there None f = Some f

-- a field or tags of a value that has none
abbrev pub child_fault : Ty → Option Mismatch
child_fault u = if is_entity u || is_record u then None else Some ChildOfPrimitive

module _ (s : SchemaData) (t : RequestType) where
  -- the environment of requests of the type, with the attributes that its action's context declares
  abbrev pub environment_of : EnvData
  environment_of = declared_action record {
    environment = record { principal = t.principal; action = t.action; resource = t.resource };
    context = option_map_or (λ a. a.context) (action_at s t.action) no_attrs;
    principal_slot = None;
    resource_slot = None;
  }

  -- what is wrong with a root: its id has no type, the type of principals or of resources is not declared, or
  -- the action is not
  abbrev pub root_fault : EntityRoot → Option Mismatch
  root_fault (Literal u) = unless_there (literal_type s u) (missing u)
  root_fault (Variable Principal) = unless_there (type_at s t.principal) not_strict
  root_fault (Variable Action) = unless_there (action_at s t.action) (missing t.action)
  root_fault (Variable Resource) = unless_there (type_at s t.resource) not_strict
  root_fault (Variable Context) = unless_there (action_at s t.action) (missing t.action)

  -- what is wrong with an edge that leads on from a value of the type
  abbrev pub edge_fault : Ty → Edge → Option Mismatch
  edge_fault u (Root r) = root_fault r
  edge_fault u e = child_fault u

  -- the type behind the edge, where that is declared
  abbrev pub type_behind : Ty → Edge → Option Ty
  type_behind u (Field n) = type_along s u (step.Field n)
  type_behind u AnyTag = type_along s u step.AnyTag
  type_behind u (Root r) = root_type s environment_of r

  -- what is wrong first, branch by branch, with an edge and then behind it; what stands behind an edge that
  -- is not declared does not count
  abbrev mutual
    pub first_fault : Ty → Branch → Option Mismatch
    first_fault u (branch m bs) = first_among u bs

    pub first_among : Ty → Branches → Option Mismatch
    first_among u no_branches = None
    first_among u (leading e b bs) = option_or (edge_fault u e)
        (option_or (option_and_then (λ v. first_fault v b) (type_behind u e)) (first_among u bs))

  -- whether each edge is declared, from a value of the type
  abbrev pub is_declared_address : Ty → Address → Bool
  is_declared_address u [] = true
  is_declared_address u (e ∷ es) = option_map_or (λ v. is_declared_address v es) (type_behind u e) false

  -- exactly the paths that are declared, with their marks; what leads to the roots is no value
  pub record KeepsDeclared (a b : Table) : Type 0 where
    pub paths : (es : Address) → leads b es ≡ (leads a es && is_declared_address never es)
    pub marks : (es : Address) → is_marked b es ≡ (is_marked a es && is_declared_address never es)

  -- what is wrong first with a trie, in the order of its edges
  abbrev pub trie_fault : Table → Option Mismatch
  trie_fault a = first_among never (branches_of a)

module _ (s : SchemaData) where
  -- what is wrong first with a manifest
  abbrev pub first_mismatch : Manifest → Option Mismatch
  first_mismatch [] = None
  first_mismatch (e ∷ es) = option_or (trie_fault s e.0 e.1) (first_mismatch es)

  -- each request type with what is declared of its trie
  abbrev pub AreTyped : Manifest → Manifest → Type 0
  AreTyped [] [] = Unit {0}
  AreTyped (a ∷ ms) (b ∷ ns) = (a.0 ≡ b.0) × KeepsDeclared s a.0 a.1 b.1 × AreTyped ms ns
  AreTyped ms ns = ⊥
