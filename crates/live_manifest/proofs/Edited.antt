-- What an edit of an accepted set comes to.
use Rattle.std.proofs.Common.{◌≡◌, List, [], Option, None, Result, Ok, Err, OnOk, OnErr, IfErr, ℕ, refl, sym, ap, ◌∙◌, subst}
use Rattle.schema_core.specs.Schema.{SchemaData}
use Rattle.finding_messages.specs.Findings.{Findings}
use Rattle.policy_set.specs.PolicySet.{IsPolicySet, PolicySetData}
use Rattle.std.specs.Option.{option_map}
use Rattle.policy_set.specs.Removal.{removal_fault, without}
use Rattle.policy_set.specs.declared.policy_set.PolicySetError.{PolicySetError}
use Rattle.policy_validate.specs.Accepted.{IsAccepted}
use Rattle.policy_validate.specs.Entries.{findings_of_entry}
use Rattle.live_manifest.specs.Edits.{Edit, made, not_removed, or_findings, refusal, remove}
use Rattle.live_manifest.specs.Faults.{IsFaulty}
use Rattle.live_manifest.specs.Kept.{EditedData, IsMade, IsEditRefused, IsRefusedFor}
use Rattle.live_manifest.specs.Laws.{EditsKeepAcceptance}
use Rattle.live_manifest.specs.declared.error.LiveManifestError.{LiveManifestError}
use Rattle.live_manifest.proofs.Keeping.{accepted_made}
use Rattle.live_manifest.proofs.Refusals.{findings_refuse, none_refused}

-- the edit was made, or it was refused and all is as it was; and the set is accepted
pub record IsEdited (e : Edit) (old now : EditedData) (r : Result (Unit {0}) LiveManifestError) : Type 0 where
  pub accepted : IsAccepted now.schema now.policies
  pub made : OnOk r (IsMade e old now)
  pub refused : IfErr r (IsEditRefused e old)
  pub unchanged : OnErr r (now ≡ old)

abbrev pub edited_set : SchemaData → PolicySetData → EditedData
edited_set schema s = record { schema = schema; policies = s }

-- an entry that was added, of which this is found
module _ (keeps : EditsKeepAcceptance) (schema : SchemaData) (s : PolicySetData) (set : IsPolicySet s) (accepted : IsAccepted schema s) (old : EditedData) (view : edited_set schema s ≡ old)
    (e : Edit) (new : PolicySetData) (id : List ℕ) (made_is : made e s ≡ new) (back : without id new ≡ s) (fault : Option PolicySetError) (found : Findings)
    (found_is : findings_of_entry schema new id ≡ found) (refusal_is : refusal schema s e ≡ or_findings fault found) (no_fault : fault ≡ None) where
  pub edit_outcome : (n : PolicySetData) (r : Result (Unit {0}) LiveManifestError) → OnOk r ((findings_of_entry schema new id).errors ≡ []) → OnOk r (n ≡ new) →
      IfErr r (IsFaulty (findings_of_entry schema new id)) → OnErr r (n ≡ without id new) → IsEdited e old (edited_set schema n) r
  edit_outcome n (Ok a) none kept refused taken =
      let taken_is : refusal schema s e ≡ None = refusal_is ∙ none_refused fault found no_fault (ap (λ f. f.errors) (sym found_is) ∙ none) in
      let n_is : n ≡ made e s = kept ∙ sym made_is in
      subst (λ o. IsEdited e o (edited_set schema n) (Ok a)) view (record {
        accepted = subst (IsAccepted schema) (sym n_is) (accepted_made keeps schema s set accepted e taken_is);
        made = record { taken = taken_is; schema = refl; policies = n_is };
        refused = tt;
        unchanged = tt;
      })
  edit_outcome n (Err error) none kept refused taken =
      let n_is : n ≡ s = taken ∙ back in
      subst (λ o. IsEdited e o (edited_set schema n) (Err error)) view (record {
        accepted = subst (IsAccepted schema) (sym n_is) accepted;
        made = tt;
        refused = subst (λ o. IsRefusedFor o error) (sym refusal_is) (findings_refuse fault found no_fault error (subst (λ f. IsFaulty f error) found_is refused));
        unchanged = ap (edited_set schema) n_is;
      })

-- a removal, which may be refused
pub removed_accepted : {A E : Type 0} → EditsKeepAcceptance → (schema : SchemaData) (s : PolicySetData) → IsPolicySet s → IsAccepted schema s → (id : List ℕ) (n : PolicySetData) (r : Result A E) →
    OnOk r ((removal_fault s id ≡ None) × (n ≡ without id s)) → OnErr r (n ≡ s) → IsAccepted schema n
removed_accepted keeps schema s set accepted id n (Ok a) removed same =
    subst (IsAccepted schema) (sym removed.1) (accepted_made keeps schema s set accepted (remove id) (ap (option_map not_removed) removed.0))
removed_accepted keeps schema s set accepted id n (Err e) removed same = subst (IsAccepted schema) (sym same) accepted
