-- Which status and text are expected for a command and the bytes of a document.
use Rattle.std.specs.Prelude.{◌≡◌, ◌⊎◌, ◌&&◌, ℕ, Bool, true, List, [], ◌∷◌, ◌++◌, length, Option, Some, None, is_some, Ok, Err, codes, option_map, if◌then◌else◌}
use Rattle.std.specs.Option.{option_or}
use Rattle.std.specs.List.{flat_map}
use Rattle.serde_json.specs.Data.{Data, object, string, member, no_members}
use Rattle.policy_values.specs.declared.entity_uid.EntityUID.{EntityUID}
use Rattle.entity_store.specs.declared.request.Request.{Request}
use Rattle.entity_store.specs.Store.{Store}
use Rattle.policy_set.specs.PolicySet.{IsPolicySet, AreKeyedOnce}
use Rattle.schema_core.specs.Faults.{IsSchema}
use Rattle.policy_set.specs.Response.{response}
use Rattle.policy_set.specs.declared.response.Decision.{Decision}
use Rattle.std.specs.Fmt.{decimal}
use Rattle.json_document.specs.PlaceText.{place_text}
use Rattle.json_document.specs.Reading.{IsReadAs}
use Rattle.json_document.specs.declared.document.Document.{Document}
use Rattle.json_document.specs.declared.place.Place.{Place}
use Rattle.finding_messages.specs.Findings.{Findings}
use Rattle.finding_messages.specs.Written.{findings_text}
use Rattle.findings.specs.declared.error.ValidationError.{ValidationError}
use Rattle.policy_validate.specs.Accepted.{findings_of}
use Rattle.policy_validate.specs.Levels.{level_findings_of}
use Rattle.conformance.specs.RequestRules.{first_request_fault}
use Rattle.conformance.specs.StoreRules.{first_store_fault}
use Rattle.conformance.specs.Written.{id_text, request_message, request_text, entity_text}
use Rattle.conformance.specs.declared.request_error.RequestValidationError.{RequestValidationError}
use Rattle.conformance.specs.declared.store_rule.StoreRule.{StoreRule}
use Rattle.manifest_computation.specs.Slice.{slice}
use Rattle.serde_json.specs.Written.{compact_text}
use Rattle.manifest_core.specs.Manifest.{Manifest}
use Rattle.manifest_core.specs.ManifestJson.{manifest_data}
use Rattle.manifest_computation.specs.Computed.{IsManifestOf}
use Rattle.json_response.specs.SliceJson.{decision_text, slice_text, response_text}
use Rattle.policy_typecheck.specs.declared.verdict.Verdict.{Verdict}
use Rattle.policy_typecheck.specs.declared.verdict.Verdict.TheVariants.{Never, May}
use Rattle.policy_review.specs.Levels.{levels_of}
use Rattle.policy_review.specs.Matrix.{matrix_of}
use Rattle.policy_review.specs.declared.rows.PolicyLevel.{PolicyLevel}
use Rattle.policy_review.specs.declared.rows.ReviewRow.{ReviewRow}
use Rattle.policy_validate.specs.Accepted.{IsAccepted}
use Rattle.live_manifest.specs.Edits.{Edit as SetEdit, Refusal, after_edits, no_policies}
use Rattle.policy_set.specs.PolicySet.{PolicySetData}
use Rattle.schema_core.specs.Schema.{SchemaData}
use Rattle.policy_gate.specs.Command.{shape_of}
use Rattle.policy_gate.specs.Listing.{asked_fault, is_whole_but, list_text}
use Rattle.policy_gate.specs.Live.{edit_text, first_refused, policies_after, refused_edit}
use Rattle.policy_gate.specs.Reply.{Answer, answer}
use Rattle.policy_gate.specs.declared.command.Command.{Command}
use Rattle.policy_gate.specs.declared.command.Command.TheVariants.{Check, Level, Request as Conformance, Manifest as Reads, Slice, Decide, Sample, Batch, Live, Review, List as Page}
use Rattle.policy_gate.specs.declared.status.Status.{Status}
use Rattle.policy_gate.specs.declared.status.Status.TheVariants as status

-- what is found of the document's policies
unfoldable pub found_in : Document → Findings
found_in d = findings_of d.schema d.policies

-- and where they are checked for a level
unfoldable pub found_at : ℕ → Document → Findings
found_at n d = level_findings_of d.schema n d.policies

-- the first rule that its request breaks, where all extensions are there
unfoldable pub request_fault : Document → Option RequestValidationError
request_fault d = first_request_fault d.schema (λ _. true) d.request

-- the first entity that breaks a rule, and the first rule that it breaks
unfoldable pub store_fault : Document → Option (EntityUID × StoreRule)
store_fault d = first_store_fault d.schema d.entities

-- all four entries of a request are there
abbrev pub is_whole : Request → Bool
is_whole q = is_some q.principal && (is_some q.action && (is_some q.resource && is_some q.context))

-- why nothing is decided on a request of which an entry is not known
abbrev pub partial_message : List ℕ
partial_message = codes "entity slicing requires a fully concrete request. Got a partial request"

-- what is answered where an entry of the request is not known
abbrev pub partial_request : Answer
partial_request = answer status.PartialRequest (codes "request: " ++ (partial_message ++ codes "\n"))

-- what is answered in place of a command's work, if anything: that an entry of the request is not known
abbrev pub refused_partial : Document → Option Answer
refused_partial d = if is_whole d.request then None else Some partial_request

-- that the request breaks a rule
abbrev pub refused_request : Document → Option Answer
refused_request d = option_map (λ e. answer status.Request (request_text e)) (request_fault d)

-- that an entity of the store breaks one
abbrev pub refused_store : Document → Option Answer
refused_store d =
    option_map (λ f. answer status.Store (entity_text (record { uid = f.0; rule = f.1 }))) (store_fault d)

-- that there are errors among the findings; a warning alone does not matter
abbrev pub refused_with : List ValidationError → Findings → Option Answer
refused_with [] found = None
refused_with (e ∷ es) found = Some (answer status.Findings (findings_text found))

-- how the findings end: with errors among them the policies are refused
abbrev pub status_of : List ValidationError → Status
status_of [] = status.Done
status_of (e ∷ es) = status.Findings

-- that there are errors in the policies
abbrev pub refused_policies : Document → Option Answer
refused_policies d = refused_with (found_in d).errors (found_in d)

-- that there are errors in them where they are checked for a level
abbrev pub refused_levels : ℕ → Document → Option Answer
refused_levels n d = refused_with (found_at n d).errors (found_at n d)

-- the request's first broken rule, or else the store's
abbrev pub refused_data : Document → Option Answer
refused_data d = option_or (refused_request d) (refused_store d)

-- why there is no slice and no decision: the request is not whole, or breaks a rule, or the store does, or
-- there are errors in the policies
abbrev pub refused_decision : Document → Option Answer
refused_decision d = option_or (refused_partial d) (option_or (refused_data d) (refused_policies d))

-- why no request is decided on: the store breaks a rule, or there are errors in the policies
abbrev pub refused_batch : Document → Option Answer
refused_batch d = option_or (refused_store d) (refused_policies d)

-- that an edit is refused
abbrev pub refused_first : Option (ℕ × Refusal) → Option Answer
refused_first o = option_map (λ r. answer status.Edit (edit_text r)) o

-- that an entry of the request but for the principal is not known
abbrev pub refused_entries : Document → Option Answer
refused_entries d = if is_whole_but d.request then None else Some partial_request

-- that the request breaks a rule that does not speak of the principal
abbrev pub refused_asked : Document → Option Answer
refused_asked d = option_map (λ e. answer status.Request (request_text e)) (asked_fault d)

-- why there is no page: the request is not whole but for the principal, or breaks another rule, or the store
-- does, or there are errors in the policies
abbrev pub refused_listing : Document → Option Answer
refused_listing d = option_or (refused_entries d) (option_or (refused_asked d) (refused_batch d))

-- what is answered in place of the command's work, where some rule of it is broken
abbrev pub refusal : Command → Document → Option Answer
refusal Check d = refused_policies d
refusal (Level n) d = refused_levels n d
refusal Conformance d = refused_data d
refusal Reads d = refused_policies d
refusal Slice d = refused_decision d
refusal Decide d = refused_decision d
refusal (Sample seed size) d = refused_decision d
refusal Batch d = refused_batch d
refusal Live d = refused_first (refused_edit d)
refusal Review d = refused_policies d
refusal (Page limit after) d = refused_listing d

-- the document's store restricted to what its policies read on its request
abbrev pub slice_of : Document → Store
slice_of d = slice d.schema d.policies.policies d.request d.entities

-- a manifest's JSON without spaces, and a newline
unfoldable pub manifest_text : Manifest → List ℕ
manifest_text m = compact_text (manifest_data m) ++ codes "\n"

-- the text is the manifest of the policies, which are accepted; they are a set, and each record of a condition
-- has each of its keys once
pub record IsManifestText (schema : SchemaData) (policies : PolicySetData) (text : List ℕ) : Type 0 where
  pub manifest : Manifest
  pub computed : IsManifestOf schema policies.policies manifest
  pub written : text ≡ manifest_text manifest
  pub set : IsPolicySet policies
  pub keys : AreKeyedOnce policies.policies
  pub accepted : IsAccepted schema policies

-- the line on a slice: of how many entities the store is made, how many are kept, and the decision
abbrev pub sample_text : ℕ → ℕ → Decision → List ℕ
sample_text size kept decision =
    codes "entities " ++ (decimal size ++ (codes " kept " ++ (decimal kept ++ (codes " decision "
    ++ (decision_text decision ++ codes "\n")))))

-- the line on the document's slice
abbrev pub sample_line : ℕ → Document → List ℕ
sample_line size d =
    sample_text size (length (slice_of d)) (response d.policies.policies d.request (slice_of d)).decision

-- why there is no response to a request
abbrev pub refused_json : List ℕ → Data
refused_json message = object (member (codes "refused") (string message) no_members)

-- its JSON without spaces, and a newline
unfoldable pub refused_line : List ℕ → List ℕ
refused_line message = compact_text (refused_json message) ++ codes "\n"

-- the line on a request that is whole: the response on the whole store, or the first rule that it breaks
abbrev pub whole_line : Document → Request → Option RequestValidationError → List ℕ
whole_line d q None = response_text (response d.policies.policies q d.entities)
whole_line d q (Some e) = refused_line (request_message e)

-- the line on one of many requests
abbrev pub request_line : Document → Request → List ℕ
request_line d q = if is_whole q then whole_line d q (first_request_fault d.schema (λ _. true) q)
    else refused_line partial_message

-- a line for each request
abbrev pub batch_text : Document → List ℕ
batch_text d = flat_map (request_line d) d.requests

-- what stands for a verdict
abbrev pub verdict_word : Verdict → List ℕ
verdict_word Never = codes "never"
verdict_word May = codes "may"

-- the line on whether a policy can be true on requests of a type
abbrev pub row_line : ReviewRow → List ℕ
row_line r =
    verdict_word r.verdict ++ (codes " " ++ (r.policy_id ++ (codes ": "
    ++ (r.request_type.principal ++ (codes ", " ++ (id_text r.request_type.action ++ (codes ", "
    ++ (r.request_type.resource ++ codes "\n"))))))))

-- the least level, or that there is none
abbrev pub level_word : Option ℕ → List ℕ
level_word (Some n) = decimal n
level_word None = codes "none"

-- the line on the least level of a template or static policy
abbrev pub level_line : PolicyLevel → List ℕ
level_line l = codes "level " ++ (l.policy_id ++ (codes ": " ++ (level_word l.level ++ codes "\n")))

-- a line for each row of the review of the document's policies, and then one for each least level
abbrev pub review_text : Document → List ℕ
review_text d =
    flat_map row_line (matrix_of d.schema d.policies) ++ flat_map level_line (levels_of d.schema d.policies)

-- the text is that of the command's work: the findings; that all conforms; the manifest of the policies; the
-- restricted store, with the response on it; the response on the whole store; the line on the restricted
-- store; a line for each request; the manifest of the policies after the edits, which are accepted; the
-- review of the policies; the page of principals
abbrev pub IsWork : Command → Document → List ℕ → Type 0
IsWork Check d text = text ≡ findings_text (found_in d)
IsWork (Level n) d text = text ≡ findings_text (found_at n d)
IsWork Conformance d text = text ≡ codes "conforms\n"
IsWork Reads d text = (m : Manifest) × IsManifestOf d.schema d.policies.policies m × (text ≡ manifest_text m)
IsWork Slice d text = text ≡ slice_text (response d.policies.policies d.request (slice_of d)) (slice_of d)
IsWork Decide d text = text ≡ response_text (response d.policies.policies d.request d.entities)
IsWork (Sample seed size) d text = text ≡ sample_line size d
IsWork Batch d text = text ≡ batch_text d
IsWork Live d text = IsManifestText d.schema (policies_after d) text
IsWork Review d text = text ≡ review_text d
IsWork (Page limit after) d text = text ≡ list_text limit after d

-- the refusal, where there is one, or else the work
abbrev pub IsRefusedOr : Option Answer → (List ℕ → Type 0) → Answer → Type 0
IsRefusedOr None IsDone a = (a.status ≡ status.Done) × IsDone a.text
IsRefusedOr (Some r) IsDone a = a ≡ r

-- this is expected for edits: the first that is refused, or else the manifest of the policies that they leave
abbrev pub IsAnswerToEdits : SchemaData → List SetEdit → Answer → Type 0
IsAnswerToEdits schema edits a = IsRefusedOr (refused_first (first_refused schema 0 no_policies edits))
    (IsManifestText schema (after_edits schema no_policies edits)) a

-- this is expected for a document
abbrev pub IsAnswerTo : Command → Document → Answer → Type 0
IsAnswerTo c d a = IsRefusedOr (refusal c d) (IsWork c d) a

-- what holds of each document that is read: its schema is one, its policies are a set, and each record of a
-- condition has each of its keys once
pub record IsWellMade (d : Document) : Type 0 where
  pub schema : IsSchema d.schema
  pub policies : IsPolicySet d.policies
  pub keys : AreKeyedOnce d.policies.policies

-- this status and text are expected for a document of these bytes: the place of the first fault, where they are
-- none
unfoldable pub IsAnswer : Command → List ℕ → Answer → Type 0
IsAnswer c bytes a = ((place : Place) × IsReadAs (shape_of c) bytes (Err place)
    × (a ≡ answer status.Document (place_text place ++ codes "\n")))
    ⊎ ((d : Document) × IsReadAs (shape_of c) bytes (Ok d) × IsWellMade d × IsAnswerTo c d a)
