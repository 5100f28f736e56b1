-- Levels are put among others as their policies are placed.
use Rattle.std.proofs.Common.{◌≡◌, ℕ, Bool, true, false, ◌||◌, cond, List, [], ◌∷◌, ◌++◌, map, fold, Option, refl, sym, ap, ◌∙◌, if◌then◌else◌}
use Rattle.std.specs.List.{AllByRecursion, filter}
use Rattle.std.specs.declared.cmp.Ordering.{Ordering}
use Rattle.std.specs.declared.cmp.Ordering.TheVariants.{Less, Equal, Greater}
use Rattle.std.specs.Ordering.{match_ordering}
use Rattle.std.proofs.lemmas.List.Sums.{fold-append}
use Rattle.std.proofs.lemmas.Map.Lookups.{exact_bytes}
use Rattle.policy_values.specs.Uid.{text_cmp}
use Rattle.policy_expressions.specs.Slots.{has_slot}
use Rattle.policy_expressions.specs.declared.kinds.SlotId.TheVariants.{Principal, Resource}
use Rattle.schema_core.specs.EnvData.{unlinked_envs}
use Rattle.schema_core.specs.Schema.{SchemaData}
use Rattle.policy_set.specs.Data.{PolicyData, TemplateData}
use Rattle.policy_set.specs.Condition.{scope_part, action_part, written_of, IsPolicy}
use Rattle.policy_set.specs.PolicySet.{PolicySetData, placed, is_static, statics, written}
use Rattle.typecheck_rules.specs.Check.{CheckIsExact}
use Rattle.link_spec.specs.Accepted.{IsAcceptedTemplate}
use Rattle.link_spec.specs.Laws.{StaticsAreUnlinked}
use Rattle.policy_validate.proofs.OwnConditions.{part_slot}
use Rattle.policy_review.specs.Levels.{greatest, least_level_of, levels_of}
use Rattle.policy_review.specs.Found.{level_at, level_found_in, level_found, with_level, with_static}
use Rattle.policy_review.proofs.Checks.{accepted_level}
use Rattle.plain_lemmas.proofs.Booleans.{or_false_parts}

-- a policy of a set, as it is written, is looked at in the environments of the schema
pub own_level : StaticsAreUnlinked → (schema : SchemaData) (p : PolicyData) → IsPolicy p → greatest (map (level_found_in schema p.condition) (unlinked_envs schema)) ≡ level_found schema (written_of p)
own_level unlinked schema p policy =
    let t = written_of p in
    let whole = or_false_parts ((has_slot (scope_part Principal t.principal) || has_slot (action_part t.action)) || has_slot (scope_part Resource t.resource)) (has_slot t.body) (sym (ap has_slot policy.condition) ∙ policy.no_slot) in
    let scope = or_false_parts (has_slot (scope_part Principal t.principal) || has_slot (action_part t.action)) (has_slot (scope_part Resource t.resource)) whole.0 in
    let principal = or_false_parts (has_slot (scope_part Principal t.principal)) (has_slot (action_part t.action)) scope.0 in
    let envs = unlinked schema t (sym (part_slot Principal t.principal) ∙ principal.0) (sym (part_slot Resource t.resource) ∙ scope.1) in
    λ i. greatest (map (level_found_in schema (policy.condition i)) (sym envs i))

module _ (schema : SchemaData) where
  -- with its id
  abbrev entry : TemplateData → List ℕ × Option ℕ
  entry t = (t.id, level_found schema t)

  entry_placed : (t : TemplateData) (ws : List TemplateData) → with_level schema (map entry ws) t ≡ map entry (placed ws t)
  entry_placed t [] = refl
  entry_placed t (w ∷ ws) = by (text_cmp t.id w.id) refl (entry_placed t ws)
    where
      by : (o : Ordering) → text_cmp t.id w.id ≡ o → with_level schema (map entry ws) t ≡ map entry (placed ws t) →
          match_ordering o (entry t ∷ entry w ∷ map entry ws) ((w.id, level_found schema t) ∷ map entry ws) (entry w ∷ with_level schema (map entry ws) t) ≡
          map entry (match_ordering o (t ∷ w ∷ ws) (t ∷ ws) (w ∷ placed ws t))
      by Less e later = refl
      by Equal e later = ap (λ id. (id, level_found schema t) ∷ map entry ws) (sym (exact_bytes t.id w.id e))
      by Greater e later = ap (λ es. entry w ∷ es) later

  entries_placed : (ts ws : List TemplateData) → fold (with_level schema) (map entry ws) ts ≡ map entry (fold placed ws ts)
  entries_placed [] ws = refl
  entries_placed (t ∷ ts) ws = ap (λ es. fold (with_level schema) es ts) (entry_placed t ws) ∙ entries_placed ts (placed ws t)

  -- one static policy more
  pub static_next : (es : List (List ℕ × Option ℕ)) (p : PolicyData) (ps : List PolicyData) →
      fold (with_level schema) (with_static schema es p) (map written_of (filter is_static ps)) ≡ fold (with_level schema) es (map written_of (filter is_static (p ∷ ps)))
  static_next es p ps = by (is_static p)
    where
      by : (b : Bool) → fold (with_level schema) (if b then with_level schema es (written_of p) else es) (map written_of (filter is_static ps)) ≡
          fold (with_level schema) es (map written_of (cond b (p ∷ filter is_static ps) (filter is_static ps)))
      by true = refl
      by false = refl

  -- those of accepted templates and static policies are their least levels
  pub levels_are : CheckIsExact → (s : PolicySetData) → AllByRecursion (IsAcceptedTemplate schema) (written s) →
      map level_at (fold (with_level schema) (fold (with_level schema) [] s.templates) (statics s)) ≡ levels_of schema s
  levels_are exact s accepted =
      ap (map level_at) (sym (fold-append (with_level schema) [] s.templates (statics s)) ∙ entries_placed (s.templates ++ statics s) []) ∙ each (written s) accepted
    where
      each : (ts : List TemplateData) → AllByRecursion (IsAcceptedTemplate schema) ts → map level_at (map entry ts) ≡ map (λ t. record { policy_id = t.id; level = least_level_of schema t }) ts
      each [] h = refl
      each (t ∷ ts) h = λ i. record { policy_id = t.id; level = accepted_level exact schema t h.0 i } ∷ each ts h.1 i
