-- What is wrong first with a manifest, in the order of a document.
use Rattle.std.specs.Prelude.{List, [], ◌∷◌, Option, None}
use Rattle.std.specs.Option.{option_or, option_and_then}
use Rattle.entity_store.specs.declared.request.RequestType.{RequestType}
use Rattle.schema_types.specs.Ty.{Ty, never}
use Rattle.schema_core.specs.Schema.{SchemaData}
use Rattle.access_tries.specs.Edges.{Address}
use Rattle.json_tries.specs.Places.{Place}
use Rattle.manifest_core.specs.declared.error.MismatchedEntityManifestError.{MismatchedEntityManifestError as Mismatch}
use Rattle.manifest_core.specs.Mismatches.{edge_fault, type_behind}
use Rattle.manifest_core.specs.Reading.{Entry}

module _ (s : SchemaData) (t : RequestType) where
  -- what is wrong first along an address; what stands behind an edge that is not declared does not count
  abbrev pub address_fault : Ty → Address → Option Mismatch
  address_fault u [] = None
  address_fault u (e ∷ es) =
      option_or (edge_fault s t u e) (option_and_then (λ v. address_fault v es) (type_behind s t u e))

  -- along the addresses of nodes, one by one
  abbrev pub places_fault : Ty → List Place → Option Mismatch
  places_fault u [] = None
  places_fault u (p ∷ ps) = option_or (address_fault u p.0) (places_fault u ps)

-- entry by entry; what leads to the roots is no value
abbrev pub entries_fault : SchemaData → List Entry → Option Mismatch
entries_fault s [] = None
entries_fault s (e ∷ es) = option_or (places_fault s e.0 never e.1) (entries_fault s es)
