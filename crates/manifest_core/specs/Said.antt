-- The manifest that a document says, typed by a schema, and why there is none.
use Rattle.std.specs.Prelude.{◌≡◌, ◌&&◌, cond, List, Option, None, Some, IsSomeAnd}
use Rattle.std.specs.List.{list_any}
use Rattle.std.specs.Ordering.{is_eq}
use Rattle.entity_store.specs.declared.request.RequestType.{RequestType}
use Rattle.entity_store.specs.Request.{request_type_cmp}
use Rattle.policy_values.specs.Reaches.{at}
use Rattle.schema_types.specs.Ty.{never}
use Rattle.schema_core.specs.Schema.{SchemaData}
use Rattle.access_tries.specs.Edges.{Address}
use Rattle.access_tries.specs.Paths.{is_prefix_of, is_same}
use Rattle.access_tries.specs.Table.{Table, leads, is_marked}
use Rattle.json_tries.specs.Places.{Place}
use Rattle.manifest_core.specs.declared.error.EntityManifestFromJsonError.{EntityManifestFromJsonError}
use Rattle.manifest_core.specs.declared.error.EntityManifestFromJsonError.TheVariants.{SerdeJsonParseError, MismatchedEntityManifest, OutOfMemory}
use Rattle.manifest_core.specs.Manifest.{Manifest, trie_at}
use Rattle.manifest_core.specs.Mismatches.{is_declared_address}
use Rattle.manifest_core.specs.Reading.{Entry, AreDistinct}
use Rattle.manifest_core.specs.Placed.{entries_fault}

module _ (s : SchemaData) where
  -- exactly the declared paths to these nodes and on the way to them, with the marks of the nodes
  pub record IsTypedOf (t : RequestType) (ps : List Place) (a : Table) : Type 0 where
    pub paths : (es : Address) →
        leads a es ≡ (list_any (λ p. is_prefix_of es p.0) ps && is_declared_address s t never es)
    pub marks : (es : Address) → is_marked a es ≡
        (list_any (λ p. p.1 && is_same es p.0) ps && is_declared_address s t never es)

  -- the same, where nodes are said; where none are, there is no trie
  abbrev pub IsTypedAt : RequestType → Option (List Place) → Option Table → Type 0
  IsTypedAt t None None = Unit {0}
  IsTypedAt t None (Some a) = ⊥
  IsTypedAt t (Some ps) None = ⊥
  IsTypedAt t (Some ps) (Some a) = IsTypedOf t ps a

  -- the request types of the entries, each with what is declared of its trie
  abbrev pub AreTypedOf : List Entry → Manifest → Type 0
  AreTypedOf es m = (t : RequestType) → IsTypedAt t (at request_type_cmp es t) (trie_at m t)

  -- the one list has a typed trie at the request type of the entry, and elsewhere what the other one has
  abbrev pub IsEntryPut : Entry → Manifest → Manifest → Type 0
  IsEntryPut e m n = (a : Table) × IsTypedOf e.0 e.1 a ×
      ((t : RequestType) → trie_at n t ≡ cond (is_eq (request_type_cmp e.0 t)) (Some a) (trie_at m t))

  -- the value says a manifest that fits, and this is it, typed
  abbrev pub IsSaid : Option (List Entry) → Manifest → Type 0
  IsSaid o m = IsSomeAnd o (λ es. AreDistinct es × (entries_fault s es ≡ None) × AreTypedOf es m)

  -- the value says no manifest, or this is what is wrong first with the one that it says, or memory ran out
  abbrev pub IsManifestRefused : Option (List Entry) → EntityManifestFromJsonError → Type 0
  IsManifestRefused o SerdeJsonParseError = ¬ (IsSomeAnd o AreDistinct)
  IsManifestRefused o (MismatchedEntityManifest f) =
      IsSomeAnd o (λ es. AreDistinct es × (entries_fault s es ≡ Some f))
  IsManifestRefused o OutOfMemory = Unit {0}
