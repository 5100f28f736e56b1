-- The manifest of policies.
use Rattle.std.specs.Prelude.{◌≡◌, ⊤, List, [], Some}
use Rattle.std.specs.List.{AllZip}
use Rattle.entity_store.specs.declared.request.RequestType.{RequestType}
use Rattle.access_tries.specs.Paths.{IsLeast}
use Rattle.access_tries.specs.Table.{Table, IsTable}
use Rattle.schema_core.specs.EnvData.{EnvData, request_type_in, unlinked_envs}
use Rattle.schema_core.specs.Schema.{SchemaData}
use Rattle.typing_spec.specs.Typing.{Typed}
use Rattle.policy_validate.specs.Typed.{typed_conditions}
use Rattle.reads_spec.specs.Reads.{declared_reads, declared_demands}
use Rattle.policy_set.specs.Data.{PolicyData}
use Rattle.policy_set.specs.PolicySet.{PolicySetData}
use Rattle.policy_validate.specs.Accepted.{findings_of, IsAccepted}
use Rattle.manifest_core.specs.Manifest.{Manifest}
use Rattle.manifest_computation.specs.declared.error.EntityManifestError.{EntityManifestError}
use Rattle.manifest_computation.specs.declared.error.EntityManifestError.TheVariants.{Validation, OutOfMemory}

module _ (schema : SchemaData) where
  -- of an environment: its request type, with the trie of exactly what these typed conditions read and ask
  -- for there, as a table in order, so that each path stands once and no node leads anywhere else
  pub record IsEntryOf (env : EnvData) (ts : List Typed) (e : RequestType × Table) : Type 0 where
    pub request_type : request_type_in env ≡ Some e.0
    pub trie : IsLeast (declared_reads schema env ts) (declared_demands schema env ts) e.1
    pub table : IsTable e.1

  -- there is one for each environment of the schema, in their order, by what typing gives of these policies
  abbrev pub AreTypedEntries : List PolicyData → Manifest → Type 0
  AreTypedEntries ps m =
      AllZip (λ env e. IsEntryOf env (typed_conditions schema env ps) e) (unlinked_envs schema) m

  -- without policies there is no entry; else there is one for each environment of the schema, in their order
  abbrev pub IsManifestOf : List PolicyData → Manifest → Type 0
  IsManifestOf [] m = m ≡ []
  IsManifestOf ps m = AreTypedEntries ps m

  -- why there is none: the policies are not accepted, with all that is found of them, or there was no memory
  abbrev pub WhyNone : PolicySetData → EntityManifestError → Type 0
  WhyNone s (Validation found) = (found ≡ findings_of schema s) × ¬ IsAccepted schema s
  WhyNone s OutOfMemory = ⊤
