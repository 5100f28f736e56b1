-- Policies are accepted exactly where they keep the rules and checks leave each condition.
use Rattle.std.proofs.Common.{◌≡◌, Bool, true, false, not, ◌&&◌, ◌||◌, cond, List, [], ◌∷◌, ◌++◌, map, filter, fold, length, refl, ap, ◌∙◌, subst, arith, if◌then◌else◌}
use Rattle.std.proofs.lemmas.Bool.{le-ltb, eqb-true}
use Rattle.std.proofs.lemmas.List.Folds.{list_all-map}
use Rattle.std.specs.List.{AllByRecursion, list_all, flat_map}
use Rattle.std.specs.Ordering.{match_ordering}
use Rattle.std.specs.declared.cmp.Ordering.{Ordering}
use Rattle.std.specs.declared.cmp.Ordering.TheVariants.{Less, Equal, Greater}
use Rattle.findings.specs.declared.error.ValidationError.TheVariants.{UnrecognizedEntityType, InvalidEnumEntity, UnrecognizedActionId, InvalidActionApplication}
use Rattle.policy_values.specs.Uid.{text_cmp}
use Rattle.policy_expressions.specs.Tree.{depth_of}
use Rattle.schema_core.specs.EnvData.{unlinked_envs}
use Rattle.schema_core.specs.Schema.{SchemaData}
use Rattle.policy_set.specs.Condition.{asks_slot, condition_of, has_scope_slot, written_of, IsPolicy}
use Rattle.policy_set.specs.Data.{TemplateData, PolicyData}
use Rattle.policy_set.specs.PolicySet.{PolicySetData, placed, statics, is_static, written, links, IsToLink, IsPolicySet}
use Rattle.policy_scope.specs.Names.{entity_type_findings, enum_findings, action_id_findings, slot_type_findings}
use Rattle.policy_scope.specs.Scope.{application_findings}
use Rattle.typecheck_rules.specs.Check.{Check, Success, Irrelevant, Fail, TooDeep, checked, CheckIsExact}
use Rattle.policy_typecheck.specs.Added.{all_added, same_error}
use Rattle.policy_typecheck.specs.Answer.{errors_of, too_deep}
use Rattle.policy_typecheck.specs.Policies.{passes, is_too_deep, checks_of, is_accepted}
use Rattle.link_spec.specs.Accepted.{IsTyped, IsAcceptedTemplate}
use Rattle.link_spec.specs.Laws.{StaticsAreUnlinked}
use Rattle.link_spec.specs.Linked.{linked_envs}
use Rattle.policy_validate.specs.Accepted.{typing_errors, errors_of_written, errors_of_link, IsAccepted}
use Rattle.policy_validate.specs.Laws.{NoErrorsWhereAccepted, AcceptedAreTyped}
use Rattle.policy_validate.proofs.Empty.{parts_empty, empty_parts, none_mapped, all_more, all_both, none_in_each, each_none, all_pass, pass_all}
use Rattle.policy_validate.specs.ConditionLaws.{FoundAreTyped}
use Rattle.policy_validate.specs.AcceptanceLaws.{LeavesAll, AcceptedByRules}
use Rattle.policy_validate.specs.Rules.{is_none, is_ready, keeps_rules, link_keeps_rules, keep_rules}
use Rattle.policy_validate.proofs.Left.{PassesIn, each_passes, all_leave, typed_passes}
use Rattle.plain_lemmas.proofs.Booleans.{and_parts_of, false_of_not, or_false_parts}

none_in : {X : Type 0} (xs : List X) → is_none xs ≡ true → xs ≡ []
none_in [] h = refl
none_in (x ∷ xs) h = absurd (omega (arith, eqb-true (length (x ∷ xs)) 0 h))

-- what holds of templates and of static policies holds of all that is written
module _ (P : TemplateData → Type 0) where
  all_placed : (t : TemplateData) (ts : List TemplateData) → P t → AllByRecursion P ts → AllByRecursion P (placed ts t)
  all_placed t [] h k = (h, tt)
  all_placed t (u ∷ us) h k = by (text_cmp t.id u.id) (all_placed t us h k.1)
    where
      by : (o : Ordering) → AllByRecursion P (placed us t) → AllByRecursion P (match_ordering o (t ∷ u ∷ us) (t ∷ us) (u ∷ placed us t))
      by Less rest = (h, k)
      by Equal rest = (h, k.1)
      by Greater rest = (k.0, rest)

  all_of : (vs us ts : List TemplateData) → AllByRecursion P vs → AllByRecursion P us → AllByRecursion P ts → AllByRecursion P (fold placed vs (us ++ ts))
  all_of vs [] [] h k l = h
  all_of vs [] (t ∷ ts) h k l = all_of (placed vs t) [] ts (all_placed t vs l.0 h) tt l.1
  all_of vs (u ∷ us) ts h k l = all_of (placed vs u) us ts (all_placed u vs k.0 h) k.1 l

  all_statics : (ps : List PolicyData) → AllByRecursion (λ p. P (written_of p)) ps → AllByRecursion P (map written_of (filter is_static ps))
  all_statics [] h = tt
  all_statics (p ∷ ps) h = by (is_static p) (all_statics ps h.1)
    where
      by : (b : Bool) → AllByRecursion P (map written_of (filter is_static ps)) → AllByRecursion P (map written_of (cond b (p ∷ filter is_static ps) (filter is_static ps)))
      by true rest = (h.0, rest)
      by false rest = rest

module _ (schema : SchemaData) where
  -- the condition passes in each environment of the schema
  abbrev PassesUnlinked : TemplateData → Type 0
  PassesUnlinked t = list_all passes (map (λ env. checked schema env (condition_of t)) (unlinked_envs schema)) ≡ true

  written_passes : (s : PolicySetData) → IsPolicySet s → AllByRecursion (LeavesAll schema s.policies) (unlinked_envs schema) → AllByRecursion (λ t. has_scope_slot t ≡ false → PassesUnlinked t) (written s)
  written_passes s set left =
      all_of (λ t. has_scope_slot t ≡ false → PassesUnlinked t) [] s.templates (statics s) tt (all_more IsToLink (λ t. has_scope_slot t ≡ false → PassesUnlinked t) (λ t able no. absurd (cc (able.slot, no))) s.templates set.templates)
      (all_statics (λ t. has_scope_slot t ≡ false → PassesUnlinked t) s.policies
      (all_both IsPolicy (PassesIn schema s.policies (unlinked_envs schema)) (λ p. has_scope_slot (written_of p) ≡ false → PassesUnlinked (written_of p))
      (λ p policy h no. subst (λ e. list_all passes (map (λ env. checked schema env e) (unlinked_envs schema)) ≡ true) policy.condition h) s.policies set.policies (each_passes schema s.policies (unlinked_envs schema) left)))

  none_reported : (t : TemplateData) (c : Check) → passes c ≡ true → errors_of t.id c ≡ []
  none_reported t (Success u) h = refl
  none_reported t (Irrelevant u) h = refl
  none_reported t (Fail fs) h = absurd (cc h)
  none_reported t TooDeep h = absurd (cc h)

  -- typing finds nothing where it accepts
  nothing_typed : (t : TemplateData) → is_accepted schema t ≡ true → typing_errors schema t ≡ []
  nothing_typed t h =
      let k = and_parts_of (not (is_too_deep schema t)) (list_all passes (checks_of schema t)) h in
      ap (all_added same_error [])
      (ap (λ b. if b then too_deep t.id ∷ [] else flat_map (errors_of t.id) (checks_of schema t)) (false_of_not (is_too_deep schema t) k.0)
      ∙ each_none (errors_of t.id) (checks_of schema t) (all_more (λ c. passes c ≡ true) (λ c. errors_of t.id c ≡ []) (none_reported t) (checks_of schema t) (all_pass passes (checks_of schema t) k.1)))

  ready_accepted : StaticsAreUnlinked → (t : TemplateData) → (has_scope_slot t ≡ false → PassesUnlinked t) → is_ready schema t ≡ true → is_accepted schema t ≡ true
  ready_accepted unlinked t passing h = by (has_scope_slot t) refl h
    where
      by : (b : Bool) → has_scope_slot t ≡ b → (if b then is_accepted schema t else not (is_too_deep schema t)) ≡ true → is_accepted schema t ≡ true
      by true e k = k
      by false e k =
          let no = or_false_parts (asks_slot t.principal) (asks_slot t.resource) e in
          λ i. k i && (ap (λ envs. list_all passes (map (λ env. checked schema env (condition_of t)) envs)) (unlinked schema t no.0 no.1) ∙ passing e) i

  accepted_is_ready : (t : TemplateData) → is_accepted schema t ≡ true → is_ready schema t ≡ true
  accepted_is_ready t h = by (has_scope_slot t)
    where
      by : (b : Bool) → (if b then is_accepted schema t else not (is_too_deep schema t)) ≡ true
      by true = h
      by false = (and_parts_of (not (is_too_deep schema t)) (list_all passes (checks_of schema t)) h).0

  nothing_written : StaticsAreUnlinked → (t : TemplateData) → (has_scope_slot t ≡ false → PassesUnlinked t) → keeps_rules schema t ≡ true → errors_of_written schema t ≡ []
  nothing_written unlinked t passing h =
      let types = and_parts_of (is_none (entity_type_findings schema t.id (condition_of t))) _ h in
      let ids = and_parts_of (is_none (enum_findings schema t.id (condition_of t))) _ types.1 in
      let actions = and_parts_of (is_none (action_id_findings schema t.id (condition_of t))) _ ids.1 in
      let scope = and_parts_of (is_none (application_findings schema t)) (is_ready schema t) actions.1 in
      empty_parts _ _ (ap (map UnrecognizedEntityType) (none_in _ types.0))
      (empty_parts _ _ (ap (map InvalidEnumEntity) (none_in _ ids.0))
      (empty_parts _ _ (ap (map UnrecognizedActionId) (none_in _ actions.0))
      (empty_parts _ _ (ap (map InvalidActionApplication) (none_in _ scope.0)) (nothing_typed t (ready_accepted unlinked t passing scope.1)))))

  rules_kept : CheckIsExact → (t : TemplateData) → IsAcceptedTemplate schema t → errors_of_written schema t ≡ [] → keeps_rules schema t ≡ true
  rules_kept exact t accepted h =
      let types = parts_empty (map UnrecognizedEntityType (entity_type_findings schema t.id (condition_of t))) _ h in
      let ids = parts_empty (map InvalidEnumEntity (enum_findings schema t.id (condition_of t))) _ types.1 in
      let actions = parts_empty (map UnrecognizedActionId (action_id_findings schema t.id (condition_of t))) _ ids.1 in
      let scope = parts_empty (map InvalidActionApplication (application_findings schema t)) (typing_errors schema t) actions.1 in
      λ i. is_none (none_mapped UnrecognizedEntityType _ types.0 i) && (is_none (none_mapped InvalidEnumEntity _ ids.0 i) && (is_none (none_mapped UnrecognizedActionId _ actions.0 i)
      && (is_none (none_mapped InvalidActionApplication _ scope.0 i) && accepted_is_ready t typed i)))
    where
      typed : is_accepted schema t ≡ true
      typed = λ i. not (le-ltb 200 (depth_of (condition_of t)) accepted.depth i) && (list_all-map passes (λ env. checked schema env (condition_of t)) (linked_envs schema t)
          ∙ pass_all (λ env. passes (checked schema env (condition_of t))) (linked_envs schema t)
          (all_more (IsTyped schema (condition_of t)) (λ env. passes (checked schema env (condition_of t)) ≡ true) (typed_passes exact schema (condition_of t) accepted.depth) (linked_envs schema t) accepted.typed)) i

  nothing_linked : (p : PolicyData) → link_keeps_rules schema p ≡ true → errors_of_link schema p ≡ []
  nothing_linked p h =
      let k = and_parts_of (is_none (slot_type_findings schema p)) _ h in
      empty_parts _ _ (ap (map UnrecognizedEntityType) (none_in _ k.0)) (ap (map InvalidActionApplication) (none_in _ k.1))

  link_rules_kept : (p : PolicyData) → errors_of_link schema p ≡ [] → link_keeps_rules schema p ≡ true
  link_rules_kept p h =
      let e = parts_empty (map UnrecognizedEntityType (slot_type_findings schema p)) (map InvalidActionApplication (application_findings schema (written_of p))) h in
      λ i. is_none (none_mapped UnrecognizedEntityType _ e.0 i) && is_none (none_mapped InvalidActionApplication _ e.1 i)

pub by_rules : CheckIsExact → StaticsAreUnlinked → NoErrorsWhereAccepted → AcceptedAreTyped → FoundAreTyped → AcceptedByRules
by_rules exact unlinked no_errors typed found schema ok s set = (accepted, kept)
  where
    accepted : (keep_rules schema s ≡ true) × AllByRecursion (LeavesAll schema s.policies) (unlinked_envs schema) → IsAccepted schema s
    accepted h =
        let rules = and_parts_of (list_all (keeps_rules schema) (written s)) (list_all (link_keeps_rules schema) (links s)) h.0 in
        (no_errors schema s).0
        (empty_parts _ _
        (each_none (errors_of_written schema) (written s)
        (all_both (λ t. has_scope_slot t ≡ false → PassesUnlinked schema t) (λ t. keeps_rules schema t ≡ true) (λ t. errors_of_written schema t ≡ []) (nothing_written schema unlinked) (written s)
        (written_passes schema s set h.1) (all_pass (keeps_rules schema) (written s) rules.0)))
        (each_none (errors_of_link schema) (links s) (all_more (λ p. link_keeps_rules schema p ≡ true) (λ p. errors_of_link schema p ≡ []) (nothing_linked schema) (links s) (all_pass (link_keeps_rules schema) (links s) rules.1))))

    kept : IsAccepted schema s → (keep_rules schema s ≡ true) × AllByRecursion (LeavesAll schema s.policies) (unlinked_envs schema)
    kept a =
        let none = parts_empty (flat_map (errors_of_written schema) (written s)) (flat_map (errors_of_link schema) (links s)) ((no_errors schema s).1 a) in (
          λ i. pass_all (keeps_rules schema) (written s) (all_both (IsAcceptedTemplate schema) (λ t. errors_of_written schema t ≡ []) (λ t. keeps_rules schema t ≡ true) (rules_kept schema exact) (written s) a.as_written
              (none_in_each (errors_of_written schema) (written s) none.0)) i
              && pass_all (link_keeps_rules schema) (links s) (all_more (λ p. errors_of_link schema p ≡ []) (λ p. link_keeps_rules schema p ≡ true) (link_rules_kept schema) (links s) (none_in_each (errors_of_link schema) (links s) none.1)) i,
          all_leave schema s.policies (found schema s set a) (unlinked_envs schema) (typed schema ok s set a),
        )
