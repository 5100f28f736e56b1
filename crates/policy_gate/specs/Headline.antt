-- What status 0 says of each command.
use Rattle.std.specs.Prelude.{◌≡◌, ℕ, true, List, Option, Some, None, Ok, codes}
use Rattle.std.specs.List.{AllByRecursion}
use Rattle.std.specs.Io.KnownBytes.{Appends}
use Rattle.byte_streams.specs.Document.{WasRead}
use Rattle.policy_set.specs.Allowed.{AreAllowed}
use Rattle.policy_set.specs.PolicySet.{PolicySetData, written}
use Rattle.policy_set.specs.Response.{response}
use Rattle.schema_core.specs.Schema.{SchemaData}
use Rattle.json_document.specs.Reading.{IsReadAs}
use Rattle.json_document.specs.declared.document.Document.{Document}
use Rattle.json_document.specs.declared.shape.Shape.{Shape}
use Rattle.entity_store.specs.Request.{IsWhole}
use Rattle.entity_store.specs.Store.{StoredEntity, Store}
use Rattle.entity_store.specs.declared.request.Request.{Request as ARequest}
use Rattle.serde_json.specs.Data.{Data}
use Rattle.finding_messages.specs.Written.{findings_text}
use Rattle.typing_spec.specs.Conforms.{RequestConforms, StoreConforms}
use Rattle.policy_validate.specs.Accepted.{IsAccepted}
use Rattle.level_spec.specs.Policies.{PassesAt}
use Rattle.reads_spec.specs.Among.{IsIn}
use Rattle.policy_validate.specs.Levels.{IsAcceptedAt, CutIsEnough}
use Rattle.manifest_computation.specs.Enough.{IsEnough}
use Rattle.manifest_computation.specs.Rules.{KeepRules}
use Rattle.manifest_computation.specs.Slice.{slice}
use Rattle.json_response.specs.SliceJson.{slice_text, response_text}
use Rattle.manifest_core.specs.Manifest.{Manifest as Tries}
use Rattle.manifest_computation.specs.Computed.{IsManifestOf}
use Rattle.policy_review.specs.Laws.{ImpossiblesAreNeverTrue, NeversAreNeverTrue, LevelsAreLeast}
use Rattle.policy_values.specs.declared.entity_uid.EntityUID.{EntityUID}
use Rattle.live_manifest.specs.Edits.{Refusal}
use Rattle.principal_listing.specs.Allowed.{KeepOtherRules, applies_to, asked_by}
use Rattle.policy_gate.specs.Listing.{list_text}
use Rattle.policy_gate.specs.Live.{edit_text, policies_after, refused_edit}
use Rattle.policy_gate.specs.Answer.{batch_text, found_in, found_at, manifest_text, request_fault, request_line, review_text, sample_line, slice_of}
use Rattle.policy_gate.specs.Command.{shape_of}
use Rattle.policy_gate.specs.Run.{IsRunOn, IsUndisturbed, Run}
use Rattle.policy_gate.specs.declared.command.Command.{Command}
use Rattle.policy_gate.specs.declared.command.Command.TheVariants.{Check, Level, Request, Manifest, Slice, Decide, Sample, Batch, Live, Review, List as Page}
use Rattle.policy_gate.specs.declared.status.Status.TheVariants.{Done}

-- the document of the shape that the bytes are
abbrev pub IsDocumentOf : Shape → List ℕ → Document → Type 0
IsDocumentOf shape bytes d = IsReadAs shape bytes (Ok d)

-- the bytes are a document for the command, and it is so
abbrev pub HasDocument : Command → List ℕ → (Document → Type 0) → Type 0
HasDocument command bytes Is = (d : Document) × IsDocumentOf (shape_of command) bytes d × Is d

-- the policies of the document are accepted
abbrev pub HasAcceptedPolicies : Document → Type 0
HasAcceptedPolicies d = IsAccepted d.schema d.policies

-- they are accepted at a level
abbrev pub HasPoliciesAt : ℕ → Document → Type 0
HasPoliciesAt n d = IsAcceptedAt d.schema n d.policies

-- its request breaks no rule (entries that are not known break none), and its store conforms to the schema
pub record Conforms (d : Document) : Type 0 where
  pub request : request_fault d ≡ None
  pub store : StoreConforms d.schema d.entities

-- its store conforms to the schema, and its policies are accepted
pub record IsReadyForRequests (d : Document) : Type 0 where
  pub store : StoreConforms d.schema d.entities
  pub policies : HasAcceptedPolicies d

-- the document keeps every rule
abbrev pub KeepsRules : Document → Type 0
KeepsRules d = KeepRules d.schema d.policies d.request d.entities

-- the document keeps every rule that does not speak of the principal
abbrev pub KeepsOtherRules : Document → Type 0
KeepsOtherRules d = KeepOtherRules d.schema d.policies d.request d.entities

-- none of its edits is refused
abbrev pub HasNoRefusedEdit : Document → Type 0
HasNoRefusedEdit d = refused_edit d ≡ None

-- on each request and store that conform, the outcome of each policy is a truth value, a missing entity or an
-- overflow
abbrev pub HasAllowedOutcomes : Document → Type 0
HasAllowedOutcomes d =
    (q : ARequest) (s : Store) → KeepRules d.schema d.policies q s → AreAllowed d.policies.policies q s

-- for each request and store that conform, the store restricted to what the policies read in the request's
-- environment is enough
abbrev pub ReadsAreEnough : SchemaData → PolicySetData → Type 0
ReadsAreEnough schema set = (q : ARequest) (s : Store) → KeepRules schema set q s →
    IsEnough set.policies q (slice schema set.policies q s) s

-- at a level at which each template and static policy passes, each policy has on the store cut there the outcome that
-- it has on the whole store, for each request and store that conform
abbrev pub LevelsAreEnough : SchemaData → PolicySetData → Type 0
LevelsAreEnough schema set =
    (n : ℕ) → AllByRecursion (PassesAt schema n) (written set) → CutIsEnough schema n set

-- the text says that the request and the store conform, and they do; a request that is whole conforms to the
-- schema
pub record IsConforming (d : Document) (text : List ℕ) : Type 0 where
  pub written : text ≡ codes "conforms\n"
  pub conforms : Conforms d
  pub whole : IsWhole d.request → RequestConforms d.schema d.request

-- it keeps every rule of the command
abbrev pub KeepsRulesOf : Command → Document → Type 0
KeepsRulesOf Check d = HasAcceptedPolicies d
KeepsRulesOf (Level n) d = HasPoliciesAt n d
KeepsRulesOf Request d = Conforms d
KeepsRulesOf Manifest d = HasAcceptedPolicies d
KeepsRulesOf Slice d = KeepsRules d
KeepsRulesOf Decide d = KeepsRules d
KeepsRulesOf (Sample seed size) d = KeepsRules d
KeepsRulesOf Batch d = IsReadyForRequests d
KeepsRulesOf Live d = HasNoRefusedEdit d
KeepsRulesOf Review d = HasAcceptedPolicies d
KeepsRulesOf (Page limit after) d = KeepsOtherRules d

-- the policies keep what the command asks of policies
abbrev pub HasPoliciesFor : Command → Document → Type 0
HasPoliciesFor (Level n) d = HasPoliciesAt n d
HasPoliciesFor c d = HasAcceptedPolicies d

-- the text is the findings on the document's policies, which are accepted: there may be warnings. So each of
-- them has an outcome that is allowed, and what is impossible is never true
pub record IsChecked (d : Document) (text : List ℕ) : Type 0 where
  pub written : text ≡ findings_text (found_in d)
  pub accepted : HasAcceptedPolicies d
  pub sound : HasAllowedOutcomes d
  pub impossible : ImpossiblesAreNeverTrue d.schema d.policies

-- the text is the findings on the document's policies, which are accepted at the level. So on the store cut
-- at the level each of them has the outcome that it has on the whole store, for each request and store that
-- conform
pub record IsCheckedAt (n : ℕ) (d : Document) (text : List ℕ) : Type 0 where
  pub written : text ≡ findings_text (found_at n d)
  pub accepted : HasPoliciesAt n d
  pub enough : CutIsEnough d.schema n d.policies

-- the text is the manifest of the document's policies, which are accepted: what they read and ask for in each
-- environment of the schema, which is enough to decide on
pub record IsManifested (d : Document) (text : List ℕ) : Type 0 where
  pub manifest : Tries
  pub computed : IsManifestOf d.schema d.policies.policies manifest
  pub written : text ≡ manifest_text manifest
  pub accepted : HasAcceptedPolicies d
  pub enough : ReadsAreEnough d.schema d.policies

-- the document keeps every rule, and the text is the slice with the response on it. The slice is a part of
-- the store, and enough: on it, and on every store between the two, each policy has the outcome that it has
-- on the whole store, which is a truth value, a missing entity or an overflow; so the response is the same
pub record IsSliced (d : Document) (text : List ℕ) : Type 0 where
  pub written : text ≡ slice_text (response d.policies.policies d.request (slice_of d)) (slice_of d)
  pub rules : KeepsRules d
  pub enough : IsEnough d.policies.policies d.request (slice_of d) d.entities

-- the document keeps every rule, and the text is the response on its whole store, on which the outcome of
-- each policy is a truth value, a missing entity or an overflow
pub record IsDecided (d : Document) (text : List ℕ) : Type 0 where
  pub written : text ≡ response_text (response d.policies.policies d.request d.entities)
  pub rules : KeepsRules d
  pub allowed : AreAllowed d.policies.policies d.request d.entities

-- the document keeps every rule, and the text is the line on its slice, which is enough as that of `slice` is
pub record IsSampled (size : ℕ) (d : Document) (text : List ℕ) : Type 0 where
  pub written : text ≡ sample_line size d
  pub rules : KeepsRules d
  pub enough : IsEnough d.policies.policies d.request (slice_of d) d.entities

-- the line on a request is the response on the whole store, on which the outcome of each policy is a truth
-- value, a missing entity or an overflow
pub record IsDecidedLine (d : Document) (q : ARequest) : Type 0 where
  pub written : request_line d q ≡ response_text (response d.policies.policies q d.entities)
  pub allowed : AreAllowed d.policies.policies q d.entities

-- the text has a line for each request; where the request is whole and conforms it is decided on. The store
-- conforms, and the policies are accepted
pub record IsBatch (d : Document) (text : List ℕ) : Type 0 where
  pub written : text ≡ batch_text d
  pub decided : (q : ARequest) → KeepRules d.schema d.policies q d.entities → IsDecidedLine d q
  pub rules : IsReadyForRequests d

-- the text has a line for each row and each least level of the review of the document's policies, which are
-- accepted. Of what a row says never, the policy is true on no request of the row's type and on no store,
-- where both conform; and each level is the least at which the policy passes, and a level at which all pass is
-- enough
pub record IsReviewed (d : Document) (text : List ℕ) : Type 0 where
  pub written : text ≡ review_text d
  pub accepted : HasAcceptedPolicies d
  pub never : NeversAreNeverTrue d.schema d.policies
  pub least : LevelsAreLeast d.schema d.policies
  pub enough : LevelsAreEnough d.schema d.policies

-- none of the document's edits is refused, and the text is the manifest of the policies that they leave,
-- which are accepted: what they read and ask for in each environment of the schema, which is enough to decide
-- on
pub record IsLive (d : Document) (text : List ℕ) : Type 0 where
  pub manifest : Tries
  pub computed : IsManifestOf d.schema (policies_after d).policies manifest
  pub written : text ≡ manifest_text manifest
  pub accepted : IsAccepted d.schema (policies_after d)
  pub enough : ReadsAreEnough d.schema (policies_after d)
  pub made : HasNoRefusedEdit d

-- the request that an entity of the store asks as its principal keeps every rule, and on the whole store the outcome
-- of each policy is a truth value, a missing entity or an overflow
pub record IsDecidedFor (d : Document) (u : EntityUID) : Type 0 where
  pub rules : KeepRules d.schema d.policies (asked_by d.request u) d.entities
  pub allowed : AreAllowed d.policies.policies (asked_by d.request u) d.entities

-- the text is the page of at most so many principals that comes after the id, of those of the store that may
-- do what the request asks; every rule holds that does not speak of the principal. So each entity of the store to
-- whose type the action applies is decided on as `decide` does
pub record IsListed (limit : ℕ) (after : Option EntityUID) (d : Document) (text : List ℕ) : Type 0 where
  pub written : text ≡ list_text limit after d
  pub rules : KeepsOtherRules d
  pub decided : (e : StoredEntity) → IsIn e d.entities → applies_to d.schema d.request e.uid.entity_type ≡ true →
      IsDecidedFor d e.uid

-- the text says which of the document's edits is the first that is refused, and why
pub record IsRefusedEdit (d : Document) (text : List ℕ) : Type 0 where
  pub number : ℕ
  pub why : Refusal
  pub first : refused_edit d ≡ Some (number, why)
  pub written : text ≡ edit_text (number, why)

-- what 0 says
abbrev pub Says : Command → Document → List ℕ → Type 0
Says Check d text = IsChecked d text
Says (Level n) d text = IsCheckedAt n d text
Says Request d text = IsConforming d text
Says Manifest d text = IsManifested d text
Says Slice d text = IsSliced d text
Says Decide d text = IsDecided d text
Says (Sample seed size) d text = IsSampled size d text
Says Batch d text = IsBatch d text
Says Live d text = IsLive d text
Says Review d text = IsReviewed d text
Says (Page limit after) d text = IsListed limit after d text

-- where a run of the command ends with 0, all bytes of its source were read and are a document, and the text
-- that is written is so for that
abbrev pub DoneSays : Command → (Document → List ℕ → Type 0) → Run → Type 0
DoneSays command Is run = run.command ≡ Some command → run.status ≡ Done
    → (bytes : List ℕ) × (text : List ℕ) × WasRead run.source run.source' bytes
    × HasDocument command bytes (λ d. Is d text) × Appends run.sink.holds run.sink'.holds text

-- the same of a command with a document of its own, which these bytes are: its source is left alone
abbrev pub OwnSays : List ℕ → Command → (Document → List ℕ → Type 0) → Run → Type 0
OwnSays bytes command Is run = run.command ≡ Some command → run.status ≡ Done
    → (text : List ℕ) × (run.source' ≡ run.source)
    × HasDocument command bytes (λ d. Is d text) × Appends run.sink.holds run.sink'.holds text

-- the run is of the command, and the document that it works on is so
abbrev pub WorkedOn : Command → (Document → Type 0) → Run → Type 0
WorkedOn command Is run = (bytes : List ℕ) × IsRunOn command bytes run × HasDocument command bytes Is

-- a run of a command is undisturbed, and the bytes that it is to work on are a document that keeps every rule
-- of the command
pub record KeepsAllRules (run : Run) : Type 0 where
  pub command : Command
  pub bytes : List ℕ
  pub document : Document
  pub undisturbed : IsUndisturbed command bytes run
  pub is : IsDocumentOf (shape_of command) bytes document
  pub rules : KeepsRulesOf command document
