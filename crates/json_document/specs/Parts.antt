-- The parts of a document, in JSON.
use Rattle.std.specs.Prelude.{ℕ, List, [], ◌∷◌, if◌then◌else◌, Option, Some, None, option_map, codes}
use Rattle.serde_json.specs.Data.{Data, Items}
use Rattle.serde_json.specs.Find.{get, as_object}
use Rattle.json_trees.specs.Trees.{tree_view, trees_view}
use Rattle.json_values.specs.Json.{◌>>=◌, has_only, list_of}
use Rattle.json_document.specs.declared.parts.Parts.{Parts}
use Rattle.json_document.specs.declared.shape.Shape.{Shape}
use Rattle.json_document.specs.declared.shape.Shape.TheVariants.{Whole, Batch, Live}

pub record DocumentParts : Type 0 where
  pub schema : Data
  pub policies : Items
  pub entities : Items
  pub request : Option Data
  pub requests : Items
  pub edits : Items

abbrev pub parts_view : Parts → DocumentParts
parts_view p = record {
  schema = tree_view p.schema;
  policies = trees_view p.policies.items;
  entities = trees_view p.entities.items;
  request = option_map tree_view p.request;
  requests = trees_view p.requests.items;
  edits = trees_view p.edits.items;
}

-- the members that a document of the shape may have
abbrev pub part_names : Shape → List (List ℕ)
part_names Whole = codes "schema" ∷ codes "policies" ∷ codes "entities" ∷ codes "request" ∷ []
part_names Batch = codes "schema" ∷ codes "policies" ∷ codes "entities" ∷ codes "requests" ∷ []
part_names Live = codes "schema" ∷ codes "edits" ∷ codes "entities" ∷ codes "request" ∷ []

-- an object with a schema, and perhaps, by its shape, lists of policies or of edits to them, of entities, and
-- a request or a list of requests
unfoldable pub parts_of : Shape → Data → Option DocumentParts
parts_of shape d = do
  members ← as_object d
  schema ← get (codes "schema") d
  policies ← list_of (get (codes "policies") d)
  entities ← list_of (get (codes "entities") d)
  requests ← list_of (get (codes "requests") d)
  edits ← list_of (get (codes "edits") d)
  if has_only (part_names shape) members then Some (record {
    schema = schema;
    policies = policies;
    entities = entities;
    request = get (codes "request") d;
    requests = requests;
    edits = edits;
  })
      else None
