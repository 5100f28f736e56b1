-- What is written of a page of principals.
use Rattle.std.specs.Prelude.{ℕ, Bool, true, ◌&&◌, List, ◌++◌, Option, is_some, codes, if◌then◌else◌}
use Rattle.std.specs.List.{flat_map}
use Rattle.policy_values.specs.declared.entity_uid.EntityUID.{EntityUID}
use Rattle.entity_store.specs.declared.request.Request.{Request}
use Rattle.conformance.specs.RequestRules.{first_request_fault}
use Rattle.conformance.specs.Written.{id_text}
use Rattle.conformance.specs.declared.request_error.RequestValidationError.{RequestValidationError}
use Rattle.json_document.specs.declared.document.Document.{Document}
use Rattle.principal_listing.specs.Allowed.{allowed_principals, passed_over}
use Rattle.principal_listing.specs.Pages.{page_ids, has_more}

-- the entries of a request but for the principal are there
abbrev pub is_whole_but : Request → Bool
is_whole_but q = is_some q.action && (is_some q.resource && is_some q.context)

-- the first rule that the document's request breaks, with the principal passed over
unfoldable pub asked_fault : Document → Option RequestValidationError
asked_fault d = first_request_fault d.schema (λ _. true) (passed_over d.request)

-- the principals of its store that may do what it asks
abbrev pub allowed_in : Document → List EntityUID
allowed_in d = allowed_principals d.schema d.policies.policies d.request d.entities

-- an id on a line of its own
abbrev pub id_line : EntityUID → List ℕ
id_line u = id_text u ++ codes "\n"

-- whether one more follows
abbrev pub end_line : Bool → List ℕ
end_line more = if more then codes "more\n" else codes "end\n"

-- a line for each id, and the last one
abbrev pub page_text : List EntityUID → Bool → List ℕ
page_text ids more = flat_map id_line ids ++ end_line more

-- the page of so many ids at most that comes after the id; without one the first
abbrev pub list_text : ℕ → Option EntityUID → Document → List ℕ
list_text limit after d =
    page_text (page_ids limit after (allowed_in d)) (has_more limit after (allowed_in d))
