-- What an edit comes to.
use Rattle.std.proofs.Common.{◌≡◌, ◌||◌, ℕ, false, List, [], ◌∷◌, length, Option, Some, None, Result, Ok, Err, OnOk, OnErr, IfErr, IsSome, IsTrue, refl, sym, ap, ◌∙◌, subst}
use Rattle.std.specs.Prelude.{is_some, IsSomeAnd}
use Rattle.std.specs.BTreeMap.{UpdatesBy, is_at}
use Rattle.std.specs.Map.{lookup}
use Rattle.std.specs.Option.{option_or}
use Rattle.plain_lemmas.proofs.Booleans.{or_right_true}
use Rattle.plain_lemmas.proofs.Options.{none_of_no_some}
use Rattle.policy_values.specs.Uid.{text_cmp}
use Rattle.schema_core.specs.Schema.{SchemaData}
use Rattle.finding_messages.specs.Findings.{Findings}
use Rattle.policy_set.specs.Data.{PolicyData, TemplateData}
use Rattle.policy_set.specs.PolicySet.{IsPolicySet, IsTaken, PolicySetData, id_fault, is_taken, policy_at, template_at, with_policy, with_template}
use Rattle.policy_set.specs.Removal.{removal_fault, without}
use Rattle.policy_set.specs.declared.policy_set.PolicySetError.{PolicySetError}
use Rattle.link_spec.specs.Linked.{linked_envs}
use Rattle.policy_validate.specs.Entries.{findings_of_either, findings_of_entry, findings_of_policy, findings_of_written, steps_of_either, steps_of_entry, steps_of_policy}
use Rattle.manifest_core.specs.Manifest.{Manifest}
use Rattle.manifest_computation.specs.Computed.{IsManifestOf}
use Rattle.live_manifest.specs.Adding.{AddsTo, Tries}
use Rattle.live_manifest.specs.Edits.{Edit, add_template, made, or_findings, refusal}
use Rattle.live_manifest.specs.Faults.{IsFaulty}
use Rattle.live_manifest.specs.Kept.{edited, IsKept, IsMade, IsEditRefused, IsRefusedFor, LiveData}
use Rattle.live_manifest.specs.Laws.{EditsKeepAcceptance}
use Rattle.live_manifest.specs.Tries.{HasTriesOf, HaveTries}
use Rattle.live_manifest.specs.declared.error.LiveManifestError.{LiveManifestError}
use Rattle.live_manifest.proofs.Adding.{fewer_tries}
use Rattle.live_manifest.proofs.Keeping.{policy_kept, policy_removed, removed_kept, same_policies, template_kept}
use Rattle.live_manifest.proofs.Refusals.{findings_refuse, none_refused}
use Rattle.live_manifest.proofs.Taking.{free_of, no_template, policy_taken, put_found, template_removable, template_taken}

-- the edit was made, or it was refused and all is as it was; and what is to be kept is
pub record IsOutcome (e : Edit) (old now : LiveData) (after : Tries) (r : Result (Unit {0}) LiveManifestError) : Type 0 where
  pub kept : IsKept now × HaveTries now.schema after now.policies.policies
  pub made : OnOk r (IsMade e (edited old) (edited now))
  pub refused : IfErr r (IsEditRefused e (edited old))
  pub unchanged : OnErr r (now ≡ old)

abbrev pub live : SchemaData → PolicySetData → Manifest → LiveData
live schema s m = record { schema = schema; policies = s; manifest = m }

-- tries are kept in the entries alone
same_entries : (schema : SchemaData) (before after : Tries) → after.entries ≡ before.entries → (ps : List PolicyData) → HaveTries schema before ps → HaveTries schema after ps
same_entries schema before after same [] h = tt
same_entries schema before after same (p ∷ ps) h = (subst (λ o. IsSomeAnd o (HasTriesOf schema p)) (sym (ap (lookup (is_at (text_cmp p.id))) same)) h.0, same_entries schema before after same ps h.1)

pub some_of : {X : Type 0} (o : Option X) (P : X → Type 0) → IsSomeAnd o P → (x : X) × ((o ≡ Some x) × P x)
some_of (Some x) P h = (x, (refl, h))
some_of None P h = absurd h

pub first_none : {X : Type 0} (o p : Option X) → option_or o p ≡ None → o ≡ None
first_none None p h = refl
first_none (Some x) p h = absurd (cc h)

-- a policy that a set has can be taken out
pub some_removed : (s : PolicySetData) → IsPolicySet s → (id : List ℕ) → IsSome (policy_at s id) → removal_fault s id ≡ None
some_removed s set id h = by (policy_at s id) refl h
  where
    by : (o : Option PolicyData) → policy_at s id ≡ o → IsSome o → removal_fault s id ≡ None
    by (Some p) e k = policy_removed s set id p e
    by None e k = absurd (cc k)

-- a template that was added
module _ (schema : SchemaData) (s new : PolicySetData) (t : TemplateData) (id : List ℕ) (same : id ≡ t.id) (free : id_fault s t.id ≡ None) (is : new ≡ with_template t s) where
  template_there : template_at new id ≡ Some t
  template_there = (λ i. template_at (is i) (same i)) ∙ put_found (λ u. u.id) t s.templates

  pub template_is_taken : IsTaken new id
  template_is_taken = subst (λ b. IsTrue b) (sym (ap (λ o. is_some o || is_some (policy_at new id)) template_there)) refl

  pub template_free : IsPolicySet s → removal_fault new id ≡ None
  template_free set = (λ i. removal_fault (is i) (same i)) ∙ template_removable s t (free_of s t.id free) set

  pub template_back : without id new ≡ s
  template_back = (λ i. without (same i) (is i)) ∙ template_taken s t (free_of s t.id free)

  pub template_found : findings_of_entry schema new id ≡ findings_of_written schema t
  template_found = ap (λ o. findings_of_either schema o (policy_at new id)) template_there

  pub template_steps : steps_of_entry schema new id ≡ length (linked_envs schema t)
  template_steps = ap (λ o. steps_of_either schema o (policy_at new id)) template_there

  pub template_outcome : EditsKeepAcceptance → IsPolicySet s → (m : Manifest) (tries : Tries) (old : LiveData) → live schema s m ≡ old → IsKept (live schema s m) → HaveTries schema tries s.policies →
      (n : PolicySetData) (r : Result (Unit {0}) LiveManifestError) → OnOk r ((findings_of_entry schema new id).errors ≡ []) → OnOk r (n ≡ new) → IfErr r (IsFaulty (findings_of_entry schema new id)) → OnErr r (n ≡ without id new) →
      IsOutcome (add_template t) old (live schema n m) tries r
  template_outcome keeps set m tries old view kept have n (Ok a) found new_is refused back =
      let n_is : n ≡ with_template t s = new_is ∙ is in
      let none : refusal schema s (add_template t) ≡ None = none_refused (id_fault s t.id) (findings_of_written schema t) free (ap (λ f. f.errors) (sym template_found) ∙ found) in
      subst (λ o. IsOutcome (add_template t) o (live schema n m) tries (Ok a)) view (record {
        kept = (subst (λ p. IsKept (live schema p m)) (sym n_is) (template_kept keeps schema s set m kept t none), subst (λ p. HaveTries schema tries p.policies) (sym n_is) have);
        made = record { taken = none; schema = refl; policies = n_is };
        refused = tt;
        unchanged = tt;
      })
  template_outcome keeps set m tries old view kept have n (Err e) found new_is refused back =
      let n_is : n ≡ s = back ∙ template_back in
      subst (λ o. IsOutcome (add_template t) o (live schema n m) tries (Err e)) view (record {
        kept = (subst (λ p. IsKept (live schema p m)) (sym n_is) kept, subst (λ p. HaveTries schema tries p.policies) (sym n_is) have);
        made = tt;
        refused = findings_refuse (id_fault s t.id) (findings_of_written schema t) free e (subst (λ f. IsFaulty f e) template_found refused);
        unchanged = ap (λ p. live schema p m) n_is;
      })

-- a policy that was added
module _ (schema : SchemaData) (s new : PolicySetData) (p : PolicyData) (id : List ℕ) (same : id ≡ p.id) (free : is_taken s p.id ≡ false) (is : new ≡ with_policy p s) where
  policy_there : policy_at new id ≡ Some p
  policy_there = (λ i. policy_at (is i) (same i)) ∙ put_found (λ q. q.id) p s.policies

  template_none : template_at new id ≡ None
  template_none = (λ i. template_at (is i) (same i)) ∙ no_template s p.id free

  pub policy_is_there : IsSome (policy_at new id)
  policy_is_there = subst IsSome (sym policy_there) refl

  pub policy_is_taken : IsTaken new id
  policy_is_taken = or_right_true (is_some (template_at new id)) (is_some (policy_at new id)) (ap is_some policy_there)

  pub policy_back : without id new ≡ s
  policy_back = (λ i. without (same i) (is i)) ∙ policy_taken s p free

  pub policy_found : findings_of_entry schema new id ≡ findings_of_policy schema p
  policy_found = (λ i. findings_of_either schema (template_none i) (policy_there i))

  pub policy_steps : steps_of_entry schema new id ≡ steps_of_policy schema p
  policy_steps = (λ i. steps_of_either schema (template_none i) (policy_there i))

  module _ (keeps : EditsKeepAcceptance) (set : IsPolicySet s) (m : Manifest) (before : Tries) (old : LiveData) (view : live schema s m ≡ old) (kept : IsKept (live schema s m)) (have : HaveTries schema before s.policies)
      (e : Edit) (made_is : made e s ≡ with_policy p s) (fault : Option PolicySetError) (refusal_is : refusal schema s e ≡ or_findings fault (findings_of_policy schema p)) (no_fault : fault ≡ None) where
    pub policy_made : (a : Unit {0}) (n : PolicySetData) (after : Tries) (made_of : Manifest) → (findings_of_entry schema new id).errors ≡ [] → n ≡ new → AddsTo schema new id before after m made_of →
        IsOutcome e old (live schema n made_of) after (Ok a)
    policy_made a n after made_of found new_is adds =
        let n_is : n ≡ with_policy p s = new_is ∙ is in
        let none : refusal schema s e ≡ None = refusal_is ∙ none_refused fault (findings_of_policy schema p) no_fault (ap (λ f. f.errors) (sym policy_found) ∙ found) in
        let adds_it : AddsTo schema (with_policy p s) p.id before after m made_of = subst (λ i. AddsTo schema (with_policy p s) i before after m made_of) same (subst (λ q. AddsTo schema q id before after m made_of) is adds) in
        let both = policy_kept keeps schema s set before after m made_of kept have e none p made_is free adds_it in
        subst (λ o. IsOutcome e o (live schema n made_of) after (Ok a)) view (record {
          kept = (subst (λ q. IsKept (live schema q made_of)) (sym n_is) both.0, subst (λ q. HaveTries schema after q.policies) (sym n_is) both.1);
          made = record { taken = none; schema = refl; policies = n_is ∙ sym made_is };
          refused = tt;
          unchanged = tt;
        })

    pub policy_refused : (error : LiveManifestError) (n : PolicySetData) (after : Tries) → IsFaulty (findings_of_entry schema new id) error → n ≡ without id new → after.entries ≡ before.entries →
        IsOutcome e old (live schema n m) after (Err error)
    policy_refused error n after refused back same_tries =
        let n_is : n ≡ s = back ∙ policy_back in
        subst (λ o. IsOutcome e o (live schema n m) after (Err error)) view (record {
          kept = (subst (λ q. IsKept (live schema q m)) (sym n_is) kept, subst (λ q. HaveTries schema after q.policies) (sym n_is) (same_entries schema before after same_tries s.policies have));
          made = tt;
          refused = subst (λ o. IsRefusedFor o error) (sym refusal_is) (findings_refuse fault (findings_of_policy schema p) no_fault error (subst (λ f. IsFaulty f error) policy_found refused));
          unchanged = ap (λ q. live schema q m) n_is;
        })

-- what is left after a removal
module _ (keeps : EditsKeepAcceptance) (schema : SchemaData) (s : PolicySetData) (set : IsPolicySet s) (m : Manifest) (before : Tries) (kept : IsKept (live schema s m)) (have : HaveTries schema before s.policies) (id : List ℕ) where
  -- of a template, or of nothing
  pub plainly_removed : {A E : Type 0} → is_some (policy_at s id) ≡ false → (n : PolicySetData) (r : Result A E) → OnOk r ((removal_fault s id ≡ None) × (n ≡ without id s)) → OnErr r (n ≡ s) →
      IsKept (live schema n m) × HaveTries schema before n.policies
  plainly_removed none n (Ok a) removed same =
      let policies : (without id s).policies ≡ s.policies = same_policies s id (none_of_no_some (policy_at s id) none) in (
        subst (λ p. IsKept (live schema p m)) (sym removed.1) (removed_kept keeps schema s set m kept.accepted id removed.0 (subst (λ ps. IsManifestOf schema ps m) (sym policies) kept.manifest)),
        subst (λ p. HaveTries schema before p.policies) (sym removed.1) (subst (HaveTries schema before) (sym policies) have),
      )
  plainly_removed none n (Err e) removed same = (subst (λ p. IsKept (live schema p m)) (sym same) kept, subst (λ p. HaveTries schema before p.policies) (sym same) have)

  pub policy_gone : (n : PolicySetData) → (removal_fault s id ≡ None) × (n ≡ without id s) → (left : Manifest) → IsManifestOf schema (without id s).policies left → (after : Tries) → UpdatesBy text_cmp (text_cmp id) before after None →
      IsKept (live schema n left) × HaveTries schema after n.policies
  policy_gone n removed left manifest after updates = (
    subst (λ p. IsKept (live schema p left)) (sym removed.1) (removed_kept keeps schema s set left kept.accepted id removed.0 manifest),
    subst (λ p. HaveTries schema after p.policies) (sym removed.1) (fewer_tries schema before after id None updates s.policies have),
  )
