-- What is read of the bytes of a document of an edit.
use Rattle.std.specs.Prelude.{◌≡◌, ℕ, List, [], ◌∷◌, if◌then◌else◌, Option, Some, None, option_map, Result, Ok, Err, IsSomeAnd, codes}
use Rattle.policy_set.specs.PolicySet.{PolicySetData}
use Rattle.schema_core.specs.Schema.{SchemaData}
use Rattle.serde_json.specs.Data.{Data, Items}
use Rattle.serde_json.specs.Find.{get, as_array, as_object}
use Rattle.json_schema.specs.Schema.{schema_of}
use Rattle.json_trees.specs.Trees.{tree_view}
use Rattle.json_values.specs.Json.{◌>>=◌, has_only, json_of}
use Rattle.json_document.specs.Policies.{no_policies, policies_of}
use Rattle.json_document.specs.Reading.{IsSchemaFrom}
use Rattle.json_document.specs.declared.place.Place.{Place}
use Rattle.json_document.specs.declared.place.Place.TheVariants as place
use Rattle.edit_service.specs.declared.document.EditDocument.{EditDocument}
use Rattle.edit_service.specs.declared.document.Parts.{Parts}
use Rattle.edit_service.specs.declared.fault.EditFault.{EditFault}
use Rattle.edit_service.specs.declared.fault.EditFault.TheVariants as fault

-- the parts of a document, in JSON: a schema, and what there is of the policies before and after
pub record EditParts : Type 0 where
  pub schema : Data
  pub before : Option Data
  pub policies : Option Data

abbrev pub parts_view : Parts → EditParts
parts_view p = record {
  schema = tree_view p.schema;
  before = option_map tree_view p.before;
  policies = option_map tree_view p.policies;
}

-- an object with a schema, and perhaps the policies before and those after, and nothing else
unfoldable pub parts_of : Data → Option EditParts
parts_of d = do
  members ← as_object d
  schema ← get (codes "schema") d
  if has_only (codes "schema" ∷ codes "before" ∷ codes "policies" ∷ []) members then Some (record {
    schema = schema;
    before = get (codes "before") d;
    policies = get (codes "policies") d;
  })
      else None

-- the items of a list, where there is one
abbrev pub items_in : Option Data → Option Items
items_in d = d >>= as_array

-- the set that the items of a list make, or the place of their first fault; where there is no list, the whole
-- is at fault
abbrev pub set_from : Option Items → Result PolicySetData Place
set_from (Some items) = policies_of 0 no_policies items
set_from None = Err place.Form

abbrev pub set_of : Option Data → Result PolicySetData Place
set_of d = set_from (items_in d)

-- Reading goes on behind the policies before and behind the schema, up to the first fault.
abbrev pub IsReadBehindBefore : SchemaData → PolicySetData → Option Data → Result EditDocument EditFault → Type 0
IsReadBehindBefore schema before policies (Ok d) =
    (d.schema ≡ schema) × (d.before ≡ before) × (set_of policies ≡ Ok d.policies)
IsReadBehindBefore schema before policies (Err (fault.Policies p)) = set_of policies ≡ Err p
IsReadBehindBefore schema before policies (Err e) = ⊥

abbrev pub IsReadBehindSchema : SchemaData → Option Data → Option Data → Result EditDocument EditFault → Type 0
IsReadBehindSchema schema before policies (Err (fault.Before p)) = set_of before ≡ Err p
IsReadBehindSchema schema before policies r =
    (b : PolicySetData) × (set_of before ≡ Ok b) × IsReadBehindBefore schema b policies r

-- the document that the parts make, or the first fault
abbrev pub IsReadFrom : EditParts → Result EditDocument EditFault → Type 0
IsReadFrom x (Err (fault.Schema p)) = IsSchemaFrom (schema_of x.schema) (Err p)
IsReadFrom x r =
    (s : SchemaData) × IsSchemaFrom (schema_of x.schema) (Ok s) × IsReadBehindSchema s x.before x.policies r

-- the document that a value is, or its first fault
abbrev pub IsRead : Data → Result EditDocument EditFault → Type 0
IsRead v (Err fault.Form) = parts_of v ≡ None
IsRead v r = IsSomeAnd (parts_of v) (λ x. IsReadFrom x r)

-- the document that the bytes are as JSON, or its first fault
abbrev pub IsReadAs : List ℕ → Result EditDocument EditFault → Type 0
IsReadAs bytes (Err fault.Json) = json_of bytes ≡ None
IsReadAs bytes r = IsSomeAnd (json_of bytes) (λ v. IsRead v r)
