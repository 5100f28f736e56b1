-- Which answer a page of principals is, and what is answered where there is none.
use Rattle.std.proofs.Common.{◌≡◌, ℕ, Bool, true, false, List, [], ◌∷◌, Option, Some, None, refl, sym, ◌∙◌, ap, subst, if◌then◌else◌}
use Rattle.std.specs.Option.{option_map, option_or}
use Rattle.policy_values.specs.declared.entity_uid.EntityUID.{EntityUID}
use Rattle.findings.specs.declared.error.ValidationError.{ValidationError}
use Rattle.finding_messages.specs.Findings.{Findings}
use Rattle.finding_messages.specs.Written.{findings_text}
use Rattle.conformance.specs.RequestRules.{first_request_fault}
use Rattle.conformance.specs.StoreRules.{first_store_fault}
use Rattle.conformance.specs.Written.{request_text, entity_text}
use Rattle.conformance.specs.declared.request_error.RequestValidationError.{RequestValidationError}
use Rattle.conformance.specs.declared.store_rule.EntityDoesNotConform.{EntityDoesNotConform}
use Rattle.json_document.specs.declared.document.Document.{Document}
use Rattle.policy_validate.specs.Accepted.{findings_of, IsAccepted}
use Rattle.principal_listing.specs.Allowed.{IsWholeBut, passed_over}
use Rattle.principal_listing.specs.Pages.{page_ids, has_more}
use Rattle.principal_listing.specs.Refused.{WhyNoPage}
use Rattle.principal_listing.specs.declared.error.ListError.{ListError}
use Rattle.principal_listing.specs.declared.error.ListError.TheVariants as none
use Rattle.principal_listing.specs.declared.page.Page.{Page}
use Rattle.policy_gate.specs.Answer.{IsAnswerTo, IsRefusedOr, IsWellMade, IsWork, found_in, partial_request, refused_asked, refused_batch, refused_entries, refused_listing, refused_policies, refused_store, refused_with, store_fault}
use Rattle.policy_gate.specs.Headline.{KeepsOtherRules}
use Rattle.policy_gate.specs.Laws.{Laws}
use Rattle.policy_gate.specs.Listing.{allowed_in, asked_fault, is_whole_but, page_text}
use Rattle.policy_gate.specs.Reply.{Answer, answer}
use Rattle.policy_gate.specs.declared.command.Command.TheVariants.{List as Paged}
use Rattle.policy_gate.specs.declared.status.Status.TheVariants as status
use Rattle.policy_gate.proofs.Says.{but_parts, page_kept, store_not_refused, whole_entries}

-- what is refused is answered
pub refusing : (o : Option Answer) (W : List ℕ → Type 0) (a : Answer) → o ≡ Some a → IsRefusedOr o W a
refusing o W a h = subst (λ p. IsRefusedOr p W a) (sym h) refl

behind : (a b : Option Answer) → a ≡ None → option_or a b ≡ b
behind a b h = ap (λ o. option_or o b) h

in_prefix : (a b : Option Answer) (x : Answer) → a ≡ Some x → option_or a b ≡ Some x
in_prefix a b x h = ap (λ o. option_or o b) h

some_refused : (es : List ValidationError) (found : Findings) (W : List ℕ → Type 0) (a : Answer) → (es ≡ [] → ⊥) → IsRefusedOr (refused_with es found) W a → refused_with es found ≡ Some a
some_refused [] found W a some h = absurd (some refl)
some_refused (e ∷ es) found W a some h = ap Some (sym h)

module _ (laws : Laws) (d : Document) (made : IsWellMade d) where
  not_whole : (IsWholeBut d.request → ⊥) → refused_listing d ≡ Some partial_request
  not_whole h = by (is_whole_but d.request) (λ e. h (but_parts d.request e))
    where
      by : (b : Bool) → (b ≡ true → ⊥) → option_or (if b then None else Some partial_request) (option_or (refused_asked d) (refused_batch d)) ≡ Some partial_request
      by true h = absurd (h refl)
      by false h = refl

  asked_broken : (e : RequestValidationError) → first_request_fault d.schema (λ _. true) (passed_over d.request) ≡ Some e → refused_asked d ≡ Some (answer status.Request (request_text e))
  unfolding asked_fault
  asked_broken e is = ap (option_map (λ f. answer status.Request (request_text f))) is

  asked_none : first_request_fault d.schema (λ _. true) (passed_over d.request) ≡ None → refused_asked d ≡ None
  unfolding asked_fault
  asked_none is = ap (option_map (λ f. answer status.Request (request_text f))) is

  store_broken : (e : EntityDoesNotConform) → first_store_fault d.schema d.entities ≡ Some (e.uid, e.rule) → refused_store d ≡ Some (answer status.Store (entity_text e))
  unfolding store_fault
  store_broken e is = ap (option_map (λ f. answer status.Store (entity_text (record { uid = f.0; rule = f.1 })))) is

  not_accepted : (found : Findings) (a : Answer) → (IsAccepted d.schema d.policies → ⊥) → found ≡ findings_of d.schema d.policies → IsRefusedOr (refused_with found.errors found) (λ text. text ≡ findings_text found) a → refused_policies d ≡ Some a
  unfolding found_in
  not_accepted found a fails is h =
      some_refused (findings_of d.schema d.policies).errors (findings_of d.schema d.policies) (λ text. text ≡ findings_text (findings_of d.schema d.policies)) a
      (λ e. fails ((laws.errors d.schema d.policies).0 e)) (subst (λ f. IsRefusedOr (refused_with f.errors f) (λ text. text ≡ findings_text f) a) is h)

  -- behind the entries that are there, and behind the rules of the request
  past_entries : IsWholeBut d.request → refused_listing d ≡ option_or (refused_asked d) (refused_batch d)
  past_entries whole = behind (refused_entries d) (option_or (refused_asked d) (refused_batch d)) (whole_entries d whole)

  past_request : IsWholeBut d.request → first_request_fault d.schema (λ _. true) (passed_over d.request) ≡ None → refused_listing d ≡ refused_batch d
  past_request whole asked = past_entries whole ∙ behind (refused_asked d) (refused_batch d) (asked_none asked)

  abbrev Why : ListError → Type 0
  Why = WhyNoPage d.schema d.policies d.request d.entities

  pub no_entry : (error : ListError) (a : Answer) → error ≡ none.PartialRequest → Why error → a ≡ partial_request → refused_listing d ≡ Some a
  no_entry error a is why same = let w : Why none.PartialRequest = subst Why is why in not_whole w ∙ ap Some (sym same)

  pub no_request : (error : ListError) (e : RequestValidationError) (a : Answer) → error ≡ none.Request e → Why error → a ≡ answer status.Request (request_text e) → refused_listing d ≡ Some a
  no_request error e a is why same =
      let w : Why (none.Request e) = subst Why is why in
      past_entries w.0 ∙ in_prefix (refused_asked d) (refused_batch d) (answer status.Request (request_text e)) (asked_broken e w.1) ∙ ap Some (sym same)

  pub no_store : (error : ListError) (e : EntityDoesNotConform) (a : Answer) → error ≡ none.EntityDoesNotConform e → Why error → a ≡ answer status.Store (entity_text e) → refused_listing d ≡ Some a
  no_store error e a is why same =
      let w : Why (none.EntityDoesNotConform e) = subst Why is why in
      past_request w.0 w.1 ∙ in_prefix (refused_store d) (refused_policies d) (answer status.Store (entity_text e)) (store_broken e w.2) ∙ ap Some (sym same)

  pub no_policies : (error : ListError) (found : Findings) (a : Answer) → error ≡ none.Validation found → Why error → IsRefusedOr (refused_with found.errors found) (λ text. text ≡ findings_text found) a → refused_listing d ≡ Some a
  no_policies error found a is why h =
      let w : Why (none.Validation found) = subst Why is why in
      past_request w.0 w.1 ∙ behind (refused_store d) (refused_policies d) (store_not_refused laws d made w.2) ∙ not_accepted found a w.4 w.3 h

  -- where every rule holds that does not speak of the principal, the page
  pub paged : (limit n : ℕ) (after x : Option EntityUID) (p : Page) (a : Answer) → KeepsOtherRules d → n ≡ limit → x ≡ after →
      p.ids.items ≡ page_ids n x (allowed_in d) → p.more ≡ has_more n x (allowed_in d) →
      a.status ≡ status.Done → a.text ≡ page_text p.ids.items p.more → IsAnswerTo (Paged limit after) d a
  paged limit n after x p a rules limits comes ids more ends written =
      subst (λ o. IsRefusedOr o (IsWork (Paged limit after) d) a) (sym (page_kept laws d made rules))
      (ends, written ∙ (λ i. page_text (ids i) (more i)) ∙ (λ i. page_text (page_ids (limits i) (comes i) (allowed_in d)) (has_more (limits i) (comes i) (allowed_in d))))
