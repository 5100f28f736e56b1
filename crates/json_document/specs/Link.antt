-- A link of a template in JSON.
use Rattle.std.specs.Prelude.{ℕ, List, [], ◌∷◌, if◌then◌else◌, Option, Some, None, option_map, option_and_then, codes}
use Rattle.policy_values.specs.declared.entity_uid.EntityUID.{EntityUID}
use Rattle.serde_json.specs.Data.{Data}
use Rattle.serde_json.specs.Find.{get, as_str, as_object}
use Rattle.json_values.specs.Json.{◌>>=◌, has_only}
use Rattle.json_values.specs.Names.{uid_of}
use Rattle.json_document.specs.declared.link.TemplateLink.{TemplateLink}

-- the id for a slot; an absent one is none
abbrev pub given_id : Option Data → Option (Option EntityUID)
given_id None = Some None
given_id (Some d) = option_map Some (uid_of d)

abbrev pub link_names : List (List ℕ)
link_names = codes "id" ∷ codes "link" ∷ codes "principal" ∷ codes "resource" ∷ []

-- the link of an object without other members: its id, that of its template, and the ids for the
-- template's slots
unfoldable pub link_of : Data → Option TemplateLink
link_of d = do
  members ← as_object d
  id ← option_and_then as_str (get (codes "id") d)
  template ← option_and_then as_str (get (codes "link") d)
  principal ← given_id (get (codes "principal") d)
  resource ← given_id (get (codes "resource") d)
  if has_only link_names members then Some (record {
    id = id;
    template = template;
    values = record { principal = principal; resource = resource };
  })
      else None
