-- What an answer with status 0 or 1 says, and when 0 is expected.
-- The plan. A refusal has a status of its own, so where 0 is expected nothing was refused, and the text is that of the command's
-- work (`done`). That nothing was refused means that each rule of the command holds, part by part: the request, the store,
-- the policies, the edits (`keeping`, `conforming_store` and so on), and back (`not_refused`, `kept_is_done`). What 0 says
-- is then what the definitions of the work say under these rules. Of refusals only that of policies has the status 1, and
-- only that of an edit 12. Last, the same of bytes in place of a document.
use Rattle.std.proofs.Common.{◌≡◌, ◌&&◌, ℕ, Bool, true, false, List, [], ◌∷◌, inl, inr, Option, Some, None, is_some, IfSome, IsSomeAnd, Ok, Err, sym, ap, refl, subst, if◌then◌else◌}
use Rattle.std.specs.Option.{option_or, option_map}
use Rattle.policy_values.specs.declared.entity_uid.EntityUID.{EntityUID}
use Rattle.policy_values.specs.Value.{Fields}
use Rattle.entity_store.specs.declared.request.Request.{Request}
use Rattle.entity_store.specs.Request.{IsWhole}
use Rattle.json_document.specs.declared.document.Document.{Document}
use Rattle.finding_messages.specs.Findings.{Findings}
use Rattle.findings.specs.declared.error.ValidationError.{ValidationError}
use Rattle.conformance.specs.Written.{request_text, entity_text}
use Rattle.typing_spec.specs.Conforms.{RequestConforms, StoreConforms}
use Rattle.policy_gate.specs.Answer.{IsAnswer, IsWellMade, IsRefusedOr, IsWork, found_in, found_at, refused_batch, refused_levels, refused_listing, is_whole, partial_message, partial_request, refusal, refused_line, request_line, whole_line, refused_asked, refused_data, refused_decision, refused_entries, refused_first, refused_partial, refused_policies, refused_request, refused_store, refused_with, request_fault, slice_of, store_fault}
use Rattle.policy_gate.specs.Headline.{Conforms, HasAcceptedPolicies, HasAllowedOutcomes, HasPoliciesAt, HasPoliciesFor, IsDocumentOf, KeepsOtherRules, KeepsRules, KeepsRulesOf, IsSliced, IsDecided, IsReadyForRequests, IsRefusedEdit, ReadsAreEnough, Says}
use Rattle.policy_gate.specs.Listing.{asked_fault, is_whole_but}
use Rattle.policy_gate.specs.Live.{edit_text, policies_after, refused_edit}
use Rattle.live_manifest.specs.Edits.{Refusal}
use Rattle.principal_listing.specs.Allowed.{IsWholeBut, asked_by}
use Rattle.policy_gate.specs.Command.{shape_of}
use Rattle.policy_gate.specs.Laws.{Laws}
use Rattle.policy_gate.specs.Reply.{Answer, answer}
use Rattle.policy_gate.specs.declared.status.Status.{Status}
use Rattle.policy_gate.specs.declared.status.Status.TheVariants as status
use Rattle.policy_gate.specs.declared.command.Command.{Command}
use Rattle.policy_gate.specs.declared.command.Command.TheVariants.{Check, Level, Request as Conformance, Manifest, Slice, Decide, Sample, Batch, Live, Review, List as Page}
use Rattle.json_document.proofs.OneReading.{one_reading_of}
use Rattle.conformance.specs.RequestRules.{first_request_fault}
use Rattle.policy_set.specs.Response.{response}
use Rattle.json_response.specs.SliceJson.{response_text}
use Rattle.conformance.proofs.Options.{none_first, none_rest, neither, none_inside}
use Rattle.manifest_computation.specs.Enough.{IsEnough}
use Rattle.manifest_computation.proofs.Covering.{where_reached}
use Rattle.std.specs.List.{AllByRecursion}
use Rattle.policy_set.specs.Data.{TemplateData}
use Rattle.policy_set.specs.PolicySet.{written}
use Rattle.policy_review.specs.Levels.{HasLeastLevel}

-- ---- refusals

-- a refusal has a status of its own
abbrev pub IsRefusal : Status → Type 0
IsRefusal status.PartialRequest = Unit {0}
IsRefusal status.Request = Unit {0}
IsRefusal status.Store = Unit {0}
IsRefusal status.Findings = Unit {0}
IsRefusal s = ⊥

-- that of an edit comes of `live` alone
abbrev pub IsRefusalOf : Command → Status → Type 0
IsRefusalOf Live s = s ≡ status.Edit
IsRefusalOf c s = IsRefusal s

abbrev Refuses : Option Answer → Type 0
Refuses o = IfSome o (λ a. IsRefusal a.status)

either : (a b : Option Answer) → Refuses a → Refuses b → Refuses (option_or a b)
either None b h k = k
either (Some x) b h k = h

refuses_with : (es : List ValidationError) (found : Findings) → Refuses (refused_with es found)
refuses_with [] found = tt
refuses_with (e ∷ es) found = tt

refuses_partial : (d : Document) → Refuses (refused_partial d)
refuses_partial d = by (is_whole d.request)
  where
    by : (b : Bool) → Refuses (if b then None else Some partial_request)
    by true = tt
    by false = tt

mapped : {X : Type 0} (f : X → Answer) (o : Option X) → ((x : X) → IsRefusal (f x).status) → Refuses (option_map f o)
mapped f None h = tt
mapped f (Some x) h = h x

refuses_store : (d : Document) → Refuses (refused_store d)
refuses_store d = mapped (λ f. answer status.Store (entity_text (record { uid = f.0; rule = f.1 }))) (store_fault d) (λ x. tt)

refuses_data : (d : Document) → Refuses (refused_data d)
refuses_data d = either (refused_request d) (refused_store d) (mapped (λ e. answer status.Request (request_text e)) (request_fault d) (λ x. tt)) (refuses_store d)

refuses_decision : (d : Document) → Refuses (refused_decision d)
refuses_decision d = either (refused_partial d) (option_or (refused_data d) (refused_policies d)) (refuses_partial d) (either (refused_data d) (refused_policies d) (refuses_data d) (refuses_with (found_in d).errors (found_in d)))

refuses_entries : (d : Document) → Refuses (refused_entries d)
refuses_entries d = by (is_whole_but d.request)
  where
    by : (b : Bool) → Refuses (if b then None else Some partial_request)
    by true = tt
    by false = tt

refuses_asked : (d : Document) → Refuses (refused_asked d)
refuses_asked d = mapped (λ e. answer status.Request (request_text e)) (asked_fault d) (λ x. tt)

refuses_batch : (d : Document) → Refuses (refused_batch d)
refuses_batch d = either (refused_store d) (refused_policies d) (refuses_store d) (refuses_with (found_in d).errors (found_in d))

refuses_edit : (o : Option (ℕ × Refusal)) → IfSome (refused_first o) (λ a. a.status ≡ status.Edit)
refuses_edit None = tt
refuses_edit (Some r) = refl

pub refuses : (c : Command) (d : Document) → IfSome (refusal c d) (λ a. IsRefusalOf c a.status)
refuses Check d = refuses_with (found_in d).errors (found_in d)
refuses (Level n) d = refuses_with (found_at n d).errors (found_at n d)
refuses Conformance d = refuses_data d
refuses Manifest d = refuses_with (found_in d).errors (found_in d)
refuses Slice d = refuses_decision d
refuses Decide d = refuses_decision d
refuses (Sample seed size) d = refuses_decision d
refuses Review d = refuses_with (found_in d).errors (found_in d)
refuses Batch d = refuses_batch d
refuses Live d = refuses_edit (refused_edit d)
refuses (Page limit after) d = either (refused_entries d) (option_or (refused_asked d) (refused_batch d)) (refuses_entries d) (either (refused_asked d) (refused_batch d) (refuses_asked d) (refuses_batch d))

no_refusal : (c : Command) (s : Status) → IsRefusalOf c s → s ≡ status.Done → ⊥
no_refusal Live s h is = cc (h, is)
no_refusal c s h is = subst IsRefusal is h

-- where 0 is expected nothing is refused, and the work is done
done : (c : Command) (r : Option Answer) (W : List ℕ → Type 0) (text : List ℕ) → IfSome r (λ a. IsRefusalOf c a.status) → IsRefusedOr r W (answer status.Done text) → (r ≡ None) × W text
done c None W text h is = (refl, is.1)
done c (Some a) W text h is = absurd (no_refusal c a.status h (sym (ap (λ b. b.status) is)))

-- ---- the rules

pub whole_parts : (q : Request) → is_whole q ≡ true → IsWhole q
whole_parts q h = by q.principal q.action q.resource q.context h
  where
    by : (p a r : Option EntityUID) (c : Option Fields) → (is_some p && (is_some a && (is_some r && is_some c))) ≡ true → IsWhole (record { principal = p; action = a; resource = r; context = c })
    by (Some p) (Some a) (Some r) (Some c) h = record { principal = refl; action = refl; resource = refl; context = refl }
    by None a r c h = absurd (cc h)
    by (Some p) None r c h = absurd (cc h)
    by (Some p) (Some a) None c h = absurd (cc h)
    by (Some p) (Some a) (Some r) None h = absurd (cc h)

pub parts_whole : (q : Request) → IsWhole q → is_whole q ≡ true
parts_whole q h = λ i. h.principal i && (h.action i && (h.resource i && h.context i))

-- the line on a request that is not whole
pub partial_line : (d : Document) (q : Request) → (IsWhole q → ⊥) → request_line d q ≡ refused_line partial_message
partial_line d q partial = by (is_whole q) (λ h. partial (whole_parts q h))
  where
    by : (b : Bool) → (b ≡ true → ⊥) → (if b then whole_line d q (first_request_fault d.schema (λ _. true) q) else refused_line partial_message) ≡ refused_line partial_message
    by true h = absurd (h refl)
    by false h = refl

pub partial_whole : (d : Document) → refused_partial d ≡ None → IsWhole d.request
partial_whole d h = whole_parts d.request (by (is_whole d.request) h)
  where
    by : (b : Bool) → (if b then None else Some partial_request) ≡ None → b ≡ true
    by true h = refl
    by false h = absurd (cc h)

whole_partial : (d : Document) → IsWhole d.request → refused_partial d ≡ None
whole_partial d h = ap (λ b. if b then None else Some partial_request) (parts_whole d.request h)

pub but_parts : (q : Request) → is_whole_but q ≡ true → IsWholeBut q
but_parts q h = by q.action q.resource q.context h
  where
    by : (a r : Option EntityUID) (c : Option Fields) → (is_some a && (is_some r && is_some c)) ≡ true → IsWholeBut (record { principal = q.principal; action = a; resource = r; context = c })
    by (Some a) (Some r) (Some c) h = record { action = refl; resource = refl; context = refl }
    by None r c h = absurd (cc h)
    by (Some a) None c h = absurd (cc h)
    by (Some a) (Some r) None h = absurd (cc h)

pub parts_but : (q : Request) → IsWholeBut q → is_whole_but q ≡ true
parts_but q h = λ i. h.action i && (h.resource i && h.context i)

entries_whole : (d : Document) → refused_entries d ≡ None → IsWholeBut d.request
entries_whole d h = but_parts d.request (by (is_whole_but d.request) h)
  where
    by : (b : Bool) → (if b then None else Some partial_request) ≡ None → b ≡ true
    by true h = refl
    by false h = absurd (cc h)

pub whole_entries : (d : Document) → IsWholeBut d.request → refused_entries d ≡ None
whole_entries d h = ap (λ b. if b then None else Some partial_request) (parts_but d.request h)

none_with : (es : List ValidationError) (found : Findings) → refused_with es found ≡ None → es ≡ []
none_with [] found h = refl
none_with (e ∷ es) found h = absurd (cc h)

module _ (laws : Laws) (d : Document) where
  accepted : refused_policies d ≡ None → HasAcceptedPolicies d
  unfolding found_in
  accepted h = (laws.errors d.schema d.policies).0 (none_with (found_in d).errors (found_in d) h)

  pub not_refused : HasAcceptedPolicies d → refused_policies d ≡ None
  unfolding found_in
  not_refused is = ap (λ es. refused_with es (found_in d)) ((laws.errors d.schema d.policies).1 is)

  accepted_at : (n : ℕ) → refused_levels n d ≡ None → HasPoliciesAt n d
  unfolding found_at
  accepted_at n h = (laws.errors_at d.schema n d.policies).0 (none_with (found_at n d).errors (found_at n d) h)

  pub not_refused_at : (n : ℕ) → HasPoliciesAt n d → refused_levels n d ≡ None
  unfolding found_at
  not_refused_at n is = ap (λ es. refused_with es (found_at n d)) ((laws.errors_at d.schema n d.policies).1 is)

  module _ (made : IsWellMade d) where
    request_kept : IsWhole d.request → request_fault d ≡ None → RequestConforms d.schema d.request
    unfolding request_fault
    request_kept whole h = (laws.requests d.schema made.schema d.request whole).0 h

    kept_request : IsWhole d.request → RequestConforms d.schema d.request → request_fault d ≡ None
    unfolding request_fault
    kept_request whole h = (laws.requests d.schema made.schema d.request whole).1 h

    store_kept : store_fault d ≡ None → StoreConforms d.schema d.entities
    unfolding store_fault
    store_kept h = (laws.stores d.schema made.schema d.entities).0 h

    kept_store : StoreConforms d.schema d.entities → store_fault d ≡ None
    unfolding store_fault
    kept_store h = (laws.stores d.schema made.schema d.entities).1 h

    pub conforming_store : refused_store d ≡ None → StoreConforms d.schema d.entities
    conforming_store h = store_kept (none_inside (λ f. answer status.Store (entity_text (record { uid = f.0; rule = f.1 }))) (store_fault d) h)

    pub store_not_refused : StoreConforms d.schema d.entities → refused_store d ≡ None
    store_not_refused is = ap (option_map (λ f. answer status.Store (entity_text (record { uid = f.0; rule = f.1 })))) (kept_store is)

    conforming : refused_data d ≡ None → Conforms d
    conforming h = record {
      request = none_inside (λ e. answer status.Request (request_text e)) (request_fault d) (none_first (refused_request d) (refused_store d) h);
      store = conforming_store (none_rest (refused_request d) (refused_store d) h);
    }

    conforms : request_fault d ≡ None → StoreConforms d.schema d.entities → refused_data d ≡ None
    conforms request store = neither (refused_request d) (refused_store d) (ap (option_map (λ e. answer status.Request (request_text e))) request) (store_not_refused store)

    pub keeping : refused_decision d ≡ None → KeepsRules d
    keeping h =
        let later = none_rest (refused_partial d) (option_or (refused_data d) (refused_policies d)) h in
        let whole = partial_whole d (none_first (refused_partial d) (option_or (refused_data d) (refused_policies d)) h) in
        let both = conforming (none_first (refused_data d) (refused_policies d) later) in
        record { whole = whole; request = request_kept whole both.request; store = both.store; policies = accepted (none_rest (refused_data d) (refused_policies d) later) }

    keeps : KeepsRules d → refused_decision d ≡ None
    keeps h = neither (refused_partial d) (option_or (refused_data d) (refused_policies d)) (whole_partial d h.whole) (neither (refused_data d) (refused_policies d) (conforms (kept_request h.whole h.request) h.store) (not_refused h.policies))

    ready : refused_batch d ≡ None → IsReadyForRequests d
    ready h = record { store = conforming_store (none_first (refused_store d) (refused_policies d) h); policies = accepted (none_rest (refused_store d) (refused_policies d) h) }

    page_rules : refused_listing d ≡ None → KeepsOtherRules d
    unfolding asked_fault
    page_rules h =
        let later = none_rest (refused_entries d) (option_or (refused_asked d) (refused_batch d)) h in
        let rules = ready (none_rest (refused_asked d) (refused_batch d) later) in
        record {
          whole = entries_whole d (none_first (refused_entries d) (option_or (refused_asked d) (refused_batch d)) h);
          request = none_inside (λ e. answer status.Request (request_text e)) (asked_fault d) (none_first (refused_asked d) (refused_batch d) later);
          store = rules.store;
          policies = rules.policies;
        }

    batch_kept : IsReadyForRequests d → refused_batch d ≡ None
    batch_kept h = neither (refused_store d) (refused_policies d) (store_not_refused h.store) (not_refused h.policies)

    pub asked_kept : KeepsOtherRules d → refused_asked d ≡ None
    unfolding asked_fault
    asked_kept h = ap (option_map (λ e. answer status.Request (request_text e))) h.request

    pub page_kept : KeepsOtherRules d → refused_listing d ≡ None
    page_kept h =
        neither (refused_entries d) (option_or (refused_asked d) (refused_batch d)) (whole_entries d h.whole)
        (neither (refused_asked d) (refused_batch d) (asked_kept h) (batch_kept (record { store = h.store; policies = h.policies })))

    -- where every rule of the command holds nothing is refused
    kept_all : (c : Command) → KeepsRulesOf c d → refusal c d ≡ None
    kept_all Check h = not_refused h
    kept_all (Level n) h = not_refused_at n h
    kept_all Conformance h = conforms h.request h.store
    kept_all Manifest h = not_refused h
    kept_all Slice h = keeps h
    kept_all Decide h = keeps h
    kept_all (Sample seed size) h = keeps h
    kept_all Review h = not_refused h
    kept_all Batch h = batch_kept h
    kept_all Live h = ap refused_first h
    kept_all (Page limit after) h = page_kept h

    -- ---- what 0 says

    allowed : HasAllowedOutcomes d
    allowed q s rules = laws.outcomes d.schema made.schema d.policies made.policies made.keys q s (where_reached d.schema d.policies q s rules)

    reads_enough : ReadsAreEnough d.schema d.policies
    reads_enough q s rules = laws.slices d.schema made.schema d.policies made.policies made.keys q s (where_reached d.schema d.policies q s rules)

    enough : KeepsRules d → IsEnough d.policies.policies d.request (slice_of d) d.entities
    enough rules = reads_enough d.request d.entities rules

    decided : (text : List ℕ) → KeepsRules d → IsWork Decide d text → IsDecided d text
    decided text rules is = record { written = is; rules = rules; allowed = allowed d.request d.entities rules }

    sliced : (text : List ℕ) → KeepsRules d → IsWork Slice d text → IsSliced d text
    sliced text rules is = record { written = is; rules = rules; enough = enough rules }

    -- the line on a request that is whole and conforms
    pub line_decided : (q : Request) → IsWhole q → RequestConforms d.schema q → request_line d q ≡ response_text (response d.policies.policies q d.entities)
    line_decided q whole conforms = rw (parts_whole q whole, (laws.requests d.schema made.schema q whole).1 conforms) refl

    says : (c : Command) (text : List ℕ) → refusal c d ≡ None → IsWork c d text → Says c d text
    says Check text none is =
        let policies = accepted none in
        record {
          written = is;
          accepted = policies;
          sound = allowed;
          impossible = laws.impossible d.schema made.schema d.policies made.policies made.keys policies;
        }
    says (Level n) text none is =
        let at = accepted_at n none in
        record { written = is; accepted = at; enough = laws.levels d.schema made.schema n d.policies made.policies made.keys at }
    says Conformance text none is = let both = conforming none in record { written = is; conforms = both; whole = λ whole. request_kept whole both.request }
    says Manifest text none is = record { manifest = is.0; computed = is.1; written = is.2; accepted = accepted none; enough = reads_enough }
    says Slice text none is = sliced text (keeping none) is
    says Decide text none is = decided text (keeping none) is
    says (Sample seed size) text none is = let rules = keeping none in record { written = is; rules = rules; enough = enough rules }
    says Review text none is =
        let policies = accepted none in
        record {
          written = is;
          accepted = policies;
          never = laws.never d.schema made.schema d.policies made.policies made.keys policies;
          least = all_least (written d.policies);
          enough = λ n passes. laws.levels d.schema made.schema n d.policies made.policies made.keys (record { accepted = policies; levels = passes });
        }
      where
        all_least : (ts : List TemplateData) → AllByRecursion (HasLeastLevel d.schema) ts
        all_least [] = tt
        all_least (t ∷ ts) = (laws.least d.schema t, all_least ts)
    says Live text none is = record {
      manifest = is.manifest;
      computed = is.computed;
      written = is.written;
      accepted = is.accepted;
      enough = λ q s rules. laws.slices d.schema made.schema (policies_after d) is.set is.keys q s (where_reached d.schema (policies_after d) q s rules);
      made = none_inside (λ r. answer status.Edit (edit_text r)) (refused_edit d) none;
    }
    says (Page limit after) text none is =
        let rules = page_rules none in
        record {
          written = is;
          rules = rules;
          decided = λ e among applies.
              let kept = laws.candidates d.schema made.schema d.policies d.request d.entities rules e among applies in
              record { rules = kept; allowed = allowed (asked_by d.request e.uid) d.entities kept };
        }
    says Batch text none is = record {
      written = is;
      decided = λ q rules. record { written = line_decided q rules.whole rules.request; allowed = allowed q d.entities rules };
      rules = ready none;
    }

-- ---- what 1 says

abbrev IsFound : Option Answer → Type 0
IsFound o = IsSomeAnd o (λ a. a.status ≡ status.Findings)

found_behind : (a b : Option Answer) → IfSome a (λ r. r.status ≡ status.Findings → ⊥) → IsFound (option_or a b) → IsFound b
found_behind None b h f = f
found_behind (Some r) b h f = absurd (h f)

mapped_other : {X : Type 0} (f : X → Answer) (o : Option X) → ((x : X) → (f x).status ≡ status.Findings → ⊥) → IfSome (option_map f o) (λ r. r.status ≡ status.Findings → ⊥)
mapped_other f None h = tt
mapped_other f (Some x) h = h x

no_partial : (d : Document) → IfSome (refused_partial d) (λ r. r.status ≡ status.Findings → ⊥)
no_partial d = by (is_whole d.request)
  where
    by : (b : Bool) → IfSome (if b then None else Some partial_request) (λ r. r.status ≡ status.Findings → ⊥)
    by true = tt
    by false = λ is. absurd (cc is)

-- a refusal of the request or the store is none for findings
no_store : (d : Document) → IfSome (refused_store d) (λ r. r.status ≡ status.Findings → ⊥)
no_store d = mapped_other (λ f. answer status.Store (entity_text (record { uid = f.0; rule = f.1 }))) (store_fault d) (λ x is. absurd (cc is))

no_data : (d : Document) → IfSome (refused_data d) (λ r. r.status ≡ status.Findings → ⊥)
no_data d = first (refused_request d) (refused_store d) (mapped_other (λ e. answer status.Request (request_text e)) (request_fault d) (λ x is. absurd (cc is))) (no_store d)
  where
    first : (a b : Option Answer) → IfSome a (λ r. r.status ≡ status.Findings → ⊥) → IfSome b (λ r. r.status ≡ status.Findings → ⊥) → IfSome (option_or a b) (λ r. r.status ≡ status.Findings → ⊥)
    first None b h k = k
    first (Some x) b h k = h

found_data : (d : Document) (b : Option Answer) → IsFound (option_or (refused_data d) b) → IsFound b
found_data d b h = found_behind (refused_data d) b (no_data d) h

no_entries : (d : Document) → IfSome (refused_entries d) (λ r. r.status ≡ status.Findings → ⊥)
no_entries d = by (is_whole_but d.request)
  where
    by : (b : Bool) → IfSome (if b then None else Some partial_request) (λ r. r.status ≡ status.Findings → ⊥)
    by true = tt
    by false = λ is. absurd (cc is)

no_asked : (d : Document) → IfSome (refused_asked d) (λ r. r.status ≡ status.Findings → ⊥)
no_asked d = mapped_other (λ e. answer status.Request (request_text e)) (asked_fault d) (λ x is. absurd (cc is))

no_edit : (o : Option (ℕ × Refusal)) → IsFound (refused_first o) → ⊥
no_edit None h = h
no_edit (Some r) h = cc h

not_accepted : (laws : Laws) (d : Document) → IsFound (refused_policies d) → ¬ HasAcceptedPolicies d
not_accepted laws d h is = absurd (subst IsFound (not_refused laws d is) h)

not_accepted_at : (laws : Laws) (n : ℕ) (d : Document) → IsFound (refused_levels n d) → ¬ HasPoliciesAt n d
not_accepted_at laws n d h is = absurd (subst IsFound (not_refused_at laws d n is) h)

found_policies : (laws : Laws) (c : Command) (d : Document) → IsFound (refusal c d) → ¬ HasPoliciesFor c d
found_policies laws Check d h = not_accepted laws d h
found_policies laws (Level n) d h = not_accepted_at laws n d h
found_policies laws Conformance d h = absurd (found_data d None (by (refused_data d) h))
  where
    by : (o : Option Answer) → IsFound o → IsFound (option_or o None)
    by None h = h
    by (Some a) h = h
found_policies laws Manifest d h = not_accepted laws d h
found_policies laws Slice d h = not_accepted laws d (found_data d (refused_policies d) (found_behind (refused_partial d) (option_or (refused_data d) (refused_policies d)) (no_partial d) h))
found_policies laws (Sample seed size) d h = not_accepted laws d (found_data d (refused_policies d) (found_behind (refused_partial d) (option_or (refused_data d) (refused_policies d)) (no_partial d) h))
found_policies laws Decide d h = not_accepted laws d (found_data d (refused_policies d) (found_behind (refused_partial d) (option_or (refused_data d) (refused_policies d)) (no_partial d) h))
found_policies laws Review d h = not_accepted laws d h
found_policies laws Live d h = absurd (no_edit (refused_edit d) h)
found_policies laws (Page limit after) d h =
    let later = found_behind (refused_entries d) (option_or (refused_asked d) (refused_batch d)) (no_entries d) h in
    let rest = found_behind (refused_asked d) (refused_batch d) (no_asked d) later in
    not_accepted laws d (found_behind (refused_store d) (refused_policies d) (no_store d) rest)
found_policies laws Batch d h = not_accepted laws d (found_behind (refused_store d) (refused_policies d) (no_store d) h)

found_answer : (r : Option Answer) (W : List ℕ → Type 0) (text : List ℕ) → IsRefusedOr r W (answer status.Findings text) → IsFound r
found_answer None W text is = absurd (cc (is.0))
found_answer (Some a) W text is = sym (ap (λ b. b.status) is)

-- ---- what 12 says

not_edit : (r : Option Answer) (W : List ℕ → Type 0) (text : List ℕ) → Refuses r → IsRefusedOr r W (answer status.Edit text) → ⊥
not_edit None W text h is = cc (is.0)
not_edit (Some a) W text h is = subst IsRefusal (sym (ap (λ b. b.status) is)) h

first_edit : (d : Document) (o : Option (ℕ × Refusal)) (W : List ℕ → Type 0) (text : List ℕ) → refused_edit d ≡ o → IsRefusedOr (refused_first o) W (answer status.Edit text) → IsRefusedEdit d text
first_edit d None W text first is = absurd (cc (is.0))
first_edit d (Some r) W text first is = record { number = r.0; why = r.1; first = first; written = ap (λ b. b.text) is }

edit_of : (c : Command) (d : Document) (text : List ℕ) → IfSome (refusal c d) (λ a. IsRefusalOf c a.status) → IsRefusedOr (refusal c d) (IsWork c d) (answer status.Edit text) → (c ≡ Live) × IsRefusedEdit d text
edit_of Live d text h is = (refl, first_edit d (refused_edit d) (IsWork Live d) text refl is)
edit_of c d text h is = absurd (not_edit (refusal c d) (IsWork c d) text h is)

-- ---- over the bytes

module _ (laws : Laws) (c : Command) (bytes text : List ℕ) where
  -- where 0 is expected, it says this
  pub says_done : IsAnswer c bytes (answer status.Done text) → (d : Document) × IsDocumentOf (shape_of c) bytes d × Says c d text
  unfolding IsAnswer
  says_done (inl (place, reads, is)) = absurd (cc (ap (λ b. b.status) is))
  says_done (inr (d, reads, made, is)) =
      let past = done c (refusal c d) (IsWork c d) text (refuses c d) is in
      (d, reads, says laws d made c text past.0 past.1)

  -- where 1 is expected, the policies are not accepted
  pub says_refused : IsAnswer c bytes (answer status.Findings text) → (d : Document) × IsDocumentOf (shape_of c) bytes d × (¬ HasPoliciesFor c d)
  unfolding IsAnswer
  says_refused (inl (place, reads, is)) = absurd (cc (ap (λ b. b.status) is))
  says_refused (inr (d, reads, made, is)) = (d, reads, found_policies laws c d (found_answer (refusal c d) (IsWork c d) text is))

  -- where 12 is expected, an edit is refused
  pub says_edit : IsAnswer c bytes (answer status.Edit text) → (c ≡ Live) × ((d : Document) × IsDocumentOf (shape_of c) bytes d × IsRefusedEdit d text)
  unfolding IsAnswer
  says_edit (inl (place, reads, is)) = absurd (cc (ap (λ b. b.status) is))
  says_edit (inr (d, reads, made, is)) = let edit = edit_of c d text (refuses c d) is in (edit.0, (d, reads, edit.1))

module _ (laws : Laws) (c : Command) where
  -- where every rule of the command holds, 0 is expected
  pub kept_is_done : (bytes : List ℕ) (d : Document) (a : Answer) → IsDocumentOf (shape_of c) bytes d → KeepsRulesOf c d → IsAnswer c bytes a → a.status ≡ status.Done
  unfolding IsAnswer
  kept_is_done bytes d a reads rules (inl (place, faulty, is)) = absurd (cc (one_reading_of (shape_of c) bytes d (Err place) reads faulty))
  kept_is_done bytes d a reads rules (inr (e, again, made, is)) =
      let same : e ≡ d = cc (one_reading_of (shape_of c) bytes d (Ok e) reads again) in
      let none = kept_all laws e made c (subst (KeepsRulesOf c) (sym same) rules) in
      (subst (λ r. IsRefusedOr r (IsWork c e) a) none is).0
