-- Tests of the actions of a schema, and of those that a scope names.
use Rattle.std.proofs.Common.{◌≡◌, Bool, true, false, ◌||◌, ◌&&◌, List, [], ◌∷◌, map, cond, Some, None, refl, sym, ap, ◌∙◌, subst}
use Rattle.std.specs.Prelude.{is_some}
use Rattle.std.specs.List.{AllByRecursion, find, list_all, list_any}
use Rattle.std.specs.List.Sorted.{IsStrictlySortedBy}
use Rattle.std.specs.Option.{option_map_or}
use Rattle.std.specs.declared.cmp.Ordering.TheVariants.{Less}
use Rattle.std.specs.Ordering.{is_eq}
use Rattle.std.proofs.lemmas.Cmp.{eq_by_cmp_equiv}
use Rattle.std.proofs.lemmas.Map.Keys.{sorted_head, sorted_tail}
use Rattle.std.proofs.lemmas.Map.Views.{tells_apart}
use Rattle.policy_values.specs.Reaches.{has}
use Rattle.plain_lemmas.proofs.Booleans.{or_false}
use Rattle.policy_values.specs.declared.entity_uid.EntityUID.{EntityUID}
use Rattle.policy_values.specs.Uid.{uid_cmp, uid_cmp_total, uid_eq, exact_uid}
use Rattle.policy_set.specs.declared.constraint.ActionConstraint.TheVariants.{In}
use Rattle.policy_scope.specs.Scope.{action_meets}
use Rattle.schema_core.specs.Faults.{IsSchema}
use Rattle.schema_core.specs.Schema.{ActionData, SchemaData, is_action_named, action_at}
use Rattle.schema_core.specs.Within.{is_action_within}

either : (a b c d e : Bool) → (((a || b) && c) || (d || e)) ≡ (((a && c) || d) || ((b && c) || e))
either true true true d e = refl
either true true false d e = refl
either true false true d e = refl
either true false false d e = refl
either false true true true e = refl
either false true true false e = refl
either false true false d e = refl
either false false true d e = refl
either false false false d e = refl

any_alike : {K : Type 0} (f g : K → Bool) → ((k : K) → f k ≡ g k) → (ks : List K) → list_any f ks ≡ list_any g ks
any_alike f g same [] = refl
any_alike f g same (k ∷ ks) = ap (λ b. b || list_any f ks) (same k) ∙ ap (λ b. g k || b) (any_alike f g same ks)

none_passes : {X : Type 0} (xs : List X) → list_any (λ x. false) xs ≡ false
none_passes [] = refl
none_passes (x ∷ xs) = none_passes xs

module _ {X : Type 0} (p : X → Bool) where
  parted : (f g : X → Bool) (xs : List X) → list_any (λ x. (f x || g x) && p x) xs ≡ (list_any (λ x. f x && p x) xs || list_any (λ x. g x && p x) xs)
  parted f g [] = refl
  parted f g (x ∷ xs) = ap (λ b. ((f x || g x) && p x) || b) (parted f g xs) ∙ either (f x) (g x) (p x) (list_any (λ y. f y && p y) xs) (list_any (λ y. g y && p y) xs)

  -- what stands to some of a list, by what stands to each
  by_each : {K : Type 0} (r : X → K → Bool) (xs : List X) (ks : List K) → list_any (λ x. list_any (r x) ks && p x) xs ≡ list_any (λ k. list_any (λ x. r x k && p x) xs) ks
  by_each r xs [] = none_passes xs
  by_each r xs (k ∷ ks) = parted (λ x. r x k) (λ x. list_any (r x) ks) xs ∙ ap (λ b. list_any (λ x. r x k && p x) xs || b) (by_each r xs ks)

module _ (p : ActionData → Bool) where
  none_behind : (u : EntityUID) (xs : List ActionData) → AllByRecursion (λ n. uid_cmp u n ≡ Less) (map (λ (a : ActionData). a.name) xs) → list_any (λ (a : ActionData). uid_eq u a.name && p a) xs ≡ false
  none_behind u [] h = refl
  none_behind u (x ∷ xs) h = ap (λ o. (is_eq o && p x) || list_any (λ (a : ActionData). uid_eq u a.name && p a) xs) h.0 ∙ none_behind u xs h.1

  -- of what ascends, the one of a name that is found
  found_alone : (u : EntityUID) (xs : List ActionData) → IsStrictlySortedBy uid_cmp (map (λ (a : ActionData). a.name) xs) → list_any (λ (a : ActionData). uid_eq u a.name && p a) xs ≡ option_map_or p (find (is_action_named u) xs) false
  found_alone u [] sorted = refl
  found_alone u (x ∷ xs) sorted = by (uid_eq u x.name) refl (found_alone u xs (sorted_tail uid_cmp x.name names sorted))
    where
      names : List EntityUID
      names = map (λ (a : ActionData). a.name) xs

      rest : Bool
      rest = list_any (λ (a : ActionData). uid_eq u a.name && p a) xs

      by : (b : Bool) → uid_eq u x.name ≡ b → rest ≡ option_map_or p (find (is_action_named u) xs) false → ((b && p x) || rest) ≡ option_map_or p (cond b (Some x) (find (is_action_named u) xs)) false
      by true same later = ap (λ b. p x || b) (none_behind u xs (subst (λ n. AllByRecursion (λ m. uid_cmp n m ≡ Less) names) (sym (tells_apart exact_uid u x.name same)) (sorted_head uid_cmp x.name names sorted))) ∙ or_false (p x)
      by false other later = later

module _ (s : SchemaData) (p : ActionData → Bool) where
  pub named : IsSchema s → (u : EntityUID) → list_any (λ (a : ActionData). uid_eq u a.name && p a) s.action_ids ≡ option_map_or p (action_at s u) false
  named ok u = found_alone p u s.action_ids ok.actions_ascend

  turned : (k : EntityUID) → list_any (λ (a : ActionData). is_eq (uid_cmp a.name k) && p a) s.action_ids ≡ list_any (λ (a : ActionData). uid_eq k a.name && p a) s.action_ids
  turned k = any_alike (λ (a : ActionData). is_eq (uid_cmp a.name k) && p a) (λ (a : ActionData). uid_eq k a.name && p a) (λ a. ap (λ b. b && p a) ((eq_by_cmp_equiv uid_cmp_total).symm a.name k)) s.action_ids

  -- an action and its descendants
  within : (u : EntityUID) (below : List EntityUID) → list_any (λ (a : ActionData). (uid_eq a.name u || has uid_cmp below a.name) && p a) s.action_ids ≡ (list_any (λ (a : ActionData). uid_eq u a.name && p a) s.action_ids || list_any (λ d. list_any (λ (a : ActionData). uid_eq d a.name && p a) s.action_ids) below)
  within u below =
      by_each p (λ (a : ActionData) k. is_eq (uid_cmp a.name k)) s.action_ids (u ∷ below) ∙
      any_alike (λ k. list_any (λ (a : ActionData). is_eq (uid_cmp a.name k) && p a) s.action_ids) (λ k. list_any (λ (a : ActionData). uid_eq k a.name && p a) s.action_ids) turned (u ∷ below)

  pub within_declared : IsSchema s → (u : EntityUID) (x : ActionData) → action_at s u ≡ Some x → list_any (λ (a : ActionData). is_action_within s a.name u && p a) s.action_ids ≡ (p x || list_any (λ d. list_any (λ (a : ActionData). uid_eq d a.name && p a) s.action_ids) x.descendants)
  within_declared ok u x found =
      ap (λ o. list_any (λ (a : ActionData). (uid_eq a.name u || option_map_or (λ (y : ActionData). has uid_cmp y.descendants a.name) o false) && p a) s.action_ids) found ∙
      within u x.descendants ∙
      ap (λ b. b || list_any (λ d. list_any (λ (a : ActionData). uid_eq d a.name && p a) s.action_ids) x.descendants) (named ok u ∙ ap (λ o. option_map_or p o false) found)

  pub within_undeclared : IsSchema s → (u : EntityUID) → action_at s u ≡ None → list_any (λ (a : ActionData). is_action_within s a.name u && p a) s.action_ids ≡ false
  within_undeclared ok u missing =
      ap (λ o. list_any (λ (a : ActionData). (uid_eq a.name u || option_map_or (λ (y : ActionData). has uid_cmp y.descendants a.name) o false) && p a) s.action_ids) missing ∙
      within u [] ∙
      or_false (list_any (λ (a : ActionData). uid_eq u a.name && p a) s.action_ids) ∙
      named ok u ∙
      ap (λ o. option_map_or p o false) missing

  -- a list with all of them declared, and another one
  pub listed : (us : List EntityUID) → list_all (λ u. is_some (action_at s u)) us ≡ true → list_any (λ (a : ActionData). action_meets s (In us) a && p a) s.action_ids ≡ list_any (λ u. list_any (λ (a : ActionData). is_action_within s a.name u && p a) s.action_ids) us
  listed us declared =
      ap (λ b. list_any (λ (a : ActionData). (b && list_any (is_action_within s a.name) us) && p a) s.action_ids) declared ∙
      by_each p (λ (a : ActionData) u. is_action_within s a.name u) s.action_ids us

  pub none_listed : (us : List EntityUID) → list_all (λ u. is_some (action_at s u)) us ≡ false → list_any (λ (a : ActionData). action_meets s (In us) a && p a) s.action_ids ≡ false
  none_listed us other =
      ap (λ b. list_any (λ (a : ActionData). (b && list_any (is_action_within s a.name) us) && p a) s.action_ids) other ∙ none_passes s.action_ids
