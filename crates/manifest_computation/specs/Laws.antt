-- What holds of manifests.
use Rattle.std.specs.Prelude.{◌≡◌, List, Some}
use Rattle.entity_store.specs.declared.request.Request.{Request}
use Rattle.access_tries.specs.Paths.{IsLeast}
use Rattle.access_tries.specs.Table.{Table, IsTable}
use Rattle.schema_core.specs.EnvData.{EnvData}
use Rattle.schema_core.specs.Faults.{IsSchema}
use Rattle.schema_core.specs.Schema.{SchemaData}
use Rattle.reads_spec.specs.Reads.{declared_reads, declared_demands}
use Rattle.policy_set.specs.Data.{PolicyData}
use Rattle.policy_validate.specs.Typed.{typed_conditions}
use Rattle.manifest_core.specs.Manifest.{Manifest, trie_for}
use Rattle.manifest_core.specs.ManifestJson.{manifest_data}
use Rattle.manifest_computation.specs.Computed.{IsManifestOf}
use Rattle.manifest_computation.specs.Slice.{env_of}

-- what is written of policies is settled: manifests of the same policies are the same JSON
abbrev pub ManifestsAreSettled : Type 0
ManifestsAreSettled =
    (schema : SchemaData) (ps : List PolicyData) (m n : Manifest) → IsManifestOf schema ps m →
    IsManifestOf schema ps n → manifest_data m ≡ manifest_data n

-- the request has an environment, and the trie is that of exactly what the policies read and ask for there,
-- as a table in order
pub record IsTrieFor (schema : SchemaData) (ps : List PolicyData) (q : Request) (t : Table) : Type 0 where
  pub env : EnvData
  pub is : env_of schema q ≡ Some env
  pub trie : IsLeast (declared_reads schema env (typed_conditions schema env ps))
      (declared_demands schema env (typed_conditions schema env ps)) t
  pub table : IsTable t

-- the trie that the manifest of policies has for a request is that of what they read in the request's
-- environment
abbrev pub TriesAreOfReads : Type 0
TriesAreOfReads =
    (schema : SchemaData) → IsSchema schema → (ps : List PolicyData) (m : Manifest) →
    IsManifestOf schema ps m →
    (q : Request) (t : Table) → trie_for m q ≡ Some t → IsTrieFor schema ps q t
