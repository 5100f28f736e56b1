-- Declarations give one schema.
use Rattle.std.proofs.Common.{◌≡◌, ℕ, Bool, true, false, List, [], ◌∷◌, Option, Some, None, cond, ap, sym, ◌∙◌, refl, subst}
use Rattle.std.specs.Prelude.{is_some}
use Rattle.std.specs.Option.{option_map, option_map_or}
use Rattle.std.specs.Ordering.{is_eq}
use Rattle.std.specs.declared.cmp.Ordering.{Ordering}
use Rattle.std.specs.declared.cmp.Ordering.TheVariants.{Less, Equal, Greater}
use Rattle.std.specs.List.{AllByRecursion}
use Rattle.std.specs.List.Sorted.{IsStrictlySortedBy}
use Rattle.std.specs.Cmp.Lexicographic.{nat_list_cmp_total}
use Rattle.std.proofs.lemmas.List.Elements.{recursion_from_All}
use Rattle.std.proofs.lemmas.Map.Lookups.{exact_bytes}
use Rattle.std.specs.Cmp.{both_ways}
use Rattle.policy_values.specs.Keyed.{has_key, value_at}
use Rattle.policy_values.specs.Reaches.{has}
use Rattle.policy_values.proofs.SameSorted.{same_sorted, same_values}
use Rattle.policy_values.specs.declared.entity_uid.EntityUID.{EntityUID}
use Rattle.policy_values.specs.Uid.{text_cmp, uid_cmp, uid_cmp_total, exact_uid}
use Rattle.schema_core.specs.Schema.{TypeData, ActionData, SchemaData, type_at, action_at}
use Rattle.schema_core.specs.Outline.{Outline, outline_of, HasDescendants}
use Rattle.schema_core.specs.Faults.{IsSchema, HasSets}
use Rattle.schema_core.specs.Entries.{Declarations}
use Rattle.schema_core.specs.Declarations.{IsSchemaOf, declared_outline}

one_value : {W : Type 0} (v w : W) → Some v ≡ Some w → v ≡ w
one_value v w h = cc

-- what two that are found have, where it is the same
same_value : {V W : Type 0} (part : V → W) (a b : V) {o p : Option V} → o ≡ Some a → p ≡ Some b → option_map part o ≡ option_map part p → part a ≡ part b
same_value part a b e f h = one_value (part a) (part b) (sym (ap (option_map part) e) ∙ h ∙ ap (option_map part) f)

module _ {K V : Type 0} (cmp : K → K → Ordering) (exact : (x y : K) → cmp x y ≡ Equal → x ≡ y) (key : V → K) where
  is_equal : (o : Ordering) → is_eq o ≡ true → o ≡ Equal
  is_equal Less h = cc
  is_equal Equal h = refl
  is_equal Greater h = cc

  found_at : (P : V → Type 0) (q : K) (v w : V) (vs : List V) (b : Bool) → has_key cmp key q w ≡ b → P w → (value_at cmp key vs q ≡ Some v → (q ≡ key v) × P v) → cond b (Some w) (value_at cmp key vs q) ≡ Some v → (q ≡ key v) × P v
  found_at P q v w vs true e here later h = let same : w ≡ v = cc (h) in subst (λ u. (q ≡ key u) × P u) same (exact q (key w) (is_equal (cmp q (key w)) e), here)
  found_at P q v w vs false e here later h = later h

  -- what is found under a key has it, and what holds of all values holds of it
  found : (P : V → Type 0) (q : K) (v : V) (vs : List V) → AllByRecursion P vs → value_at cmp key vs q ≡ Some v → (q ≡ key v) × P v
  found P q v [] all is = cc
  found P q v (w ∷ ws) all is = found_at P q v w ws (has_key cmp key q w) refl all.0 (found P q v ws all.1) is

same_names : (xs ys : List (List ℕ)) → IsStrictlySortedBy text_cmp xs → IsStrictlySortedBy text_cmp ys → ((y : List ℕ) → has text_cmp xs y ≡ has text_cmp ys y) → xs ≡ ys
same_names = same_sorted text_cmp nat_list_cmp_total exact_bytes

same_uids : (xs ys : List EntityUID) → IsStrictlySortedBy uid_cmp xs → IsStrictlySortedBy uid_cmp ys → ((y : EntityUID) → has uid_cmp xs y ≡ has uid_cmp ys y) → xs ≡ ys
same_uids = same_sorted uid_cmp uid_cmp_total exact_uid

module _ (d : Outline) (s t : SchemaData) (is_s : IsSchema s) (is_t : IsSchema t) (of_s : HasDescendants d (outline_of s)) (of_t : HasDescendants d (outline_of t)) where
  types_listed : (x y : List ℕ) → (outline_of s).type_lists x y ≡ (outline_of t).type_lists x y
  types_listed x y = both_ways ((outline_of s).type_lists x y) ((outline_of t).type_lists x y) (λ h. (of_t.types x y).1 ((of_s.types x y).0 h)) (λ h. (of_s.types x y).1 ((of_t.types x y).0 h))

  actions_listed : (u v : EntityUID) → (outline_of s).action_lists u v ≡ (outline_of t).action_lists u v
  actions_listed u v = both_ways ((outline_of s).action_lists u v) ((outline_of t).action_lists u v) (λ h. (of_t.actions u v).1 ((of_s.actions u v).0 h)) (λ h. (of_s.actions u v).1 ((of_t.actions u v).0 h))

  type_same : (x : List ℕ) (o p : Option TypeData) → type_at s x ≡ o → type_at t x ≡ p → is_some o ≡ is_some p → o ≡ p
  type_same x None None e f some = refl
  type_same x None (Some b) e f some = cc
  type_same x (Some a) None e f some = cc
  type_same x (Some a) (Some b) e f some =
      let of_a = found text_cmp exact_bytes (λ (z : TypeData). z.name) (λ z. IsStrictlySortedBy text_cmp z.descendants) x a s.entity_types (recursion_from_All _ s.entity_types is_s.type_sets) e in
      let of_b = found text_cmp exact_bytes (λ (z : TypeData). z.name) (λ z. IsStrictlySortedBy text_cmp z.descendants) x b t.entity_types (recursion_from_All _ t.entity_types is_t.type_sets) f in
      let names : a.name ≡ b.name = sym of_a.0 ∙ of_b.0 in
      let below : a.descendants ≡ b.descendants = same_names a.descendants b.descendants of_a.1 of_b.1 (λ y. ap (λ o. option_map_or (λ z. has text_cmp z.descendants y) o false) (sym e) ∙ types_listed x y ∙ ap (λ o. option_map_or (λ z. has text_cmp z.descendants y) o false) f) in
      let kinds : a.kind ≡ b.kind = same_value (λ (z : TypeData). z.kind) a b e f (of_s.kinds x ∙ sym (of_t.kinds x)) in
      λ i. Some (record { name = names i; descendants = below i; kind = kinds i })

  action_same : (u : EntityUID) (o p : Option ActionData) → action_at s u ≡ o → action_at t u ≡ p → is_some o ≡ is_some p → o ≡ p
  action_same u None None e f some = refl
  action_same u None (Some b) e f some = cc
  action_same u (Some a) None e f some = cc
  action_same u (Some a) (Some b) e f some =
      let of_a = found uid_cmp exact_uid (λ (z : ActionData). z.name) HasSets u a s.action_ids (recursion_from_All HasSets s.action_ids is_s.action_sets) e in
      let of_b = found uid_cmp exact_uid (λ (z : ActionData). z.name) HasSets u b t.action_ids (recursion_from_All HasSets t.action_ids is_t.action_sets) f in
      let names : a.name ≡ b.name = sym of_a.0 ∙ of_b.0 in
      let below : a.descendants ≡ b.descendants = same_uids a.descendants b.descendants of_a.1.descendants of_b.1.descendants (λ v. ap (λ o. option_map_or (λ z. has uid_cmp z.descendants v) o false) (sym e) ∙ actions_listed u v ∙ ap (λ o. option_map_or (λ z. has uid_cmp z.descendants v) o false) f) in
      let whom : a.principals ≡ b.principals = same_names a.principals b.principals of_a.1.principals of_b.1.principals (λ y. ap (λ o. option_map_or (λ z. has text_cmp z.principals y) o false) (sym e) ∙ of_s.principals u y ∙ sym (of_t.principals u y) ∙ ap (λ o. option_map_or (λ z. has text_cmp z.principals y) o false) f) in
      let what : a.resources ≡ b.resources = same_names a.resources b.resources of_a.1.resources of_b.1.resources (λ y. ap (λ o. option_map_or (λ z. has text_cmp z.resources y) o false) (sym e) ∙ of_s.resources u y ∙ sym (of_t.resources u y) ∙ ap (λ o. option_map_or (λ z. has text_cmp z.resources y) o false) f) in
      let contexts : a.context ≡ b.context = same_value (λ (z : ActionData). z.context) a b e f (of_s.contexts u ∙ sym (of_t.contexts u)) in
      λ i. Some (record { name = names i; principals = whom i; resources = what i; descendants = below i; context = contexts i })

  same_schema : s ≡ t
  same_schema =
      let types : s.entity_types ≡ t.entity_types = same_values text_cmp nat_list_cmp_total exact_bytes (λ (z : TypeData). z.name) s.entity_types t.entity_types is_s.types_ascend is_t.types_ascend (λ x. type_same x (type_at s x) (type_at t x) refl refl (of_s.has_type x ∙ sym (of_t.has_type x))) in
      let actions : s.action_ids ≡ t.action_ids = same_values uid_cmp uid_cmp_total exact_uid (λ (z : ActionData). z.name) s.action_ids t.action_ids is_s.actions_ascend is_t.actions_ascend (λ u. action_same u (action_at s u) (action_at t u) refl refl (of_s.has_action u ∙ sym (of_t.has_action u))) in
      λ i. record { entity_types = types i; action_ids = actions i }

pub one_schema : (d : Declarations) (s t : SchemaData) → IsSchemaOf d s → IsSchemaOf d t → s ≡ t
one_schema d s t is_s is_t = same_schema (declared_outline d) s t is_s.schema is_t.schema is_s.descendants is_t.descendants
