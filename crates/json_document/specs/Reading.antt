-- What a JSON value says as a document, or where its first fault is.
use Rattle.std.specs.Prelude.{◌≡◌, ℕ, List, [], Option, Some, None, Result, Ok, Err}
use Rattle.policy_set.specs.PolicySet.{PolicySetData}
use Rattle.entity_store.specs.Store.{Store}
use Rattle.entity_store.specs.declared.request.Request.{Request}
use Rattle.schema_core.specs.Declarations.{IsSchemaOf, IsRefused}
use Rattle.schema_core.specs.Entries.{Declarations}
use Rattle.schema_core.specs.Schema.{SchemaData}
use Rattle.json_schema.specs.Schema.{schema_of}
use Rattle.schema_core.specs.declared.fault.SchemaFault.TheVariants as refused
use Rattle.serde_json.specs.Data.{Data}
use Rattle.json_values.specs.Json.{json_of}
use Rattle.json_document.specs.Edits.{edits_of}
use Rattle.json_document.specs.Faults.{Then}
use Rattle.json_document.specs.Parts.{DocumentParts, parts_of}
use Rattle.json_document.specs.Policies.{no_policies, policies_of}
use Rattle.json_document.specs.Request.{request_of, requests_of}
use Rattle.json_document.specs.Store.{IsStoreOf}
use Rattle.json_document.specs.declared.document.Document.{Document}
use Rattle.json_document.specs.declared.edit.Edit.{Edit}
use Rattle.json_document.specs.declared.place.Place.{Place}
use Rattle.json_document.specs.declared.shape.Shape.{Shape}
use Rattle.json_document.specs.declared.place.Place.TheVariants as place

-- the place of the fault for which the declarations make no schema
abbrev pub IsSchemaFault : Declarations → Place → Type 0
IsSchemaFault d (place.SchemaFault refused.OutOfMemory) = ⊥
IsSchemaFault d (place.SchemaFault f) = IsRefused d f
IsSchemaFault d _ = ⊥

-- the schema that the declarations make, where there are any, or the place of the first fault
abbrev pub IsSchemaFrom : Option Declarations → Result SchemaData Place → Type 0
IsSchemaFrom None r = r ≡ Err place.Schema
IsSchemaFrom (Some d) (Ok schema) = IsSchemaOf d schema
IsSchemaFrom (Some d) (Err p) = IsSchemaFault d p

abbrev pub or_place : {A : Type 0} → Place → Option A → Result A Place
or_place p None = Err p
or_place p (Some x) = Ok x

abbrev pub document : SchemaData → PolicySetData → List Edit → Store → Request → List Request → Document
document schema policies edits entities request requests =
    record {
      schema = schema;
      policies = policies;
      edits = edits;
      entities = entities;
      request = request;
      requests = requests;
    }

-- Reading goes on behind the schema, the policies, the edits, the entities and the request: each part in
-- turn, up to the first fault.
abbrev pub IsReadBehindRequest : DocumentParts → SchemaData → PolicySetData →
    List Edit → Store → Request → Result Document Place → Type 0
IsReadBehindRequest parts schema policies edits entities request =
    Then (λ r. r ≡ requests_of [] parts.requests)
    (λ requests r. r ≡ Ok (document schema policies edits entities request requests))

abbrev pub IsReadBehindStore : DocumentParts → SchemaData →
    PolicySetData → List Edit → Store → Result Document Place → Type 0
IsReadBehindStore parts schema policies edits entities =
    Then (λ r. r ≡ or_place place.Request (request_of parts.request))
    (IsReadBehindRequest parts schema policies edits entities)

abbrev pub IsReadBehindEdits : DocumentParts → SchemaData →
    PolicySetData → List Edit → Result Document Place → Type 0
IsReadBehindEdits parts schema policies edits =
    Then (IsStoreOf parts.entities) (IsReadBehindStore parts schema policies edits)

abbrev pub IsReadBehindPolicies : DocumentParts → SchemaData → PolicySetData → Result Document Place → Type 0
IsReadBehindPolicies parts schema policies =
    Then (λ r. r ≡ edits_of [] parts.edits) (IsReadBehindEdits parts schema policies)

abbrev pub IsReadBehindSchema : DocumentParts → SchemaData → Result Document Place → Type 0
IsReadBehindSchema parts schema =
    Then (λ r. r ≡ policies_of 0 no_policies parts.policies) (IsReadBehindPolicies parts schema)

-- the document that the parts make, or the place of the first fault
abbrev pub IsReadFrom : DocumentParts → Result Document Place → Type 0
IsReadFrom parts = Then (IsSchemaFrom (schema_of parts.schema)) (IsReadBehindSchema parts)

-- document reading: the document of the shape that the value is, or the place of the first fault
unfoldable pub IsRead : Shape → Data → Result Document Place → Type 0
IsRead shape d = Then (λ r. r ≡ or_place place.Form (parts_of shape d)) IsReadFrom

-- the document of the shape that the bytes are as JSON, or the place of the first fault
unfoldable pub IsReadAs : Shape → List ℕ → Result Document Place → Type 0
IsReadAs shape bytes = Then (λ r. r ≡ or_place place.Json (json_of bytes)) (IsRead shape)
