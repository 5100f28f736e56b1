-- What look-ups find among descriptions.
use Rattle.std.proofs.Common.{◌≡◌, ℕ, Bool, true, false, ◌↔◌, List, [], ◌∷◌, map, Option, Some, None, Contains, IsTrue, is_some, refl, sym, ◌∙◌}
use Rattle.std.specs.List.{find}
use Rattle.std.specs.List.Sorted.{IsStrictlySortedBy}
use Rattle.std.specs.Option.{option_map, option_map_or, IsSomeAnd}
use Rattle.std.specs.Ordering.{is_eq}
use Rattle.std.specs.Cmp.{both_ways}
use Rattle.std.specs.Cmp.Lexicographic.{nat_list_cmp_total}
use Rattle.std.proofs.lemmas.Bool.{false≢true}
use Rattle.std.proofs.lemmas.Map.Lookups.{exact_bytes}
use Rattle.policy_values.specs.Reaches.{has}
use Rattle.policy_values.specs.declared.entity_uid.EntityUID.{EntityUID}
use Rattle.policy_values.specs.Uid.{text_cmp, uid_cmp, uid_cmp_total, exact_uid}
use Rattle.policy_validate.specs.Descriptions.{type_described, action_described}
use Rattle.schema_core.proofs.SameKeys.{has-Contains}
use Rattle.schema_core.specs.Schema.{SchemaData, TypeData, ActionData, type_at, action_at, type_below, action_below, HasTypeDescendant, HasActionDescendant}
use Rattle.policy_validate.specs.Described.{described_type, described_action, described_types, described_actions, ancestors_of}
use Rattle.policy_validate.proofs.Kept.{kept_within}

pub same_option : {A : Type 0} (o : Option A) → option_map (λ d. d) o ≡ o
same_option None = refl
same_option (Some a) = refl

module _ {X D : Type 0} (p : D → Bool) (f : X → D) where
  find_prefix : (b : Bool) (x : X) (xs : List X) → p (f x) ≡ b → find p (map f xs) ≡ option_map f (find (λ y. p (f y)) xs) → find p (map f (x ∷ xs)) ≡ option_map f (find (λ y. p (f y)) (x ∷ xs))
  find_prefix true x xs h i = rw h refl
  find_prefix false x xs h i = rw h i

  find_mapped : (xs : List X) → find p (map f xs) ≡ option_map f (find (λ y. p (f y)) xs)
  find_mapped [] = refl
  find_mapped (x ∷ xs) = find_prefix (p (f x)) x xs refl (find_mapped xs)

-- the description of what is declared
pub type_found : (s : SchemaData) (name : List ℕ) → type_described (described_types s) name ≡ option_map (described_type s) (type_at s name)
type_found s name = find_mapped (λ d. is_eq (text_cmp name d.name)) (described_type s) s.entity_types

pub action_found : (s : SchemaData) (uid : EntityUID) → action_described (described_actions s) uid ≡ option_map (described_action s) (action_at s uid)
action_found s uid = find_mapped (λ d. is_eq (uid_cmp uid d.uid)) (described_action s) s.action_ids

-- a test that passes at what is found is of something found
some_if : {A : Type 0} (f : A → Bool) (r : Option A) → option_map_or f r false ≡ true → is_some r ≡ true
some_if f None h = absurd (false≢true h)
some_if f (Some a) h = refl

named_prefix : (b : Bool) (q : EntityUID) (x : ActionData) (xs : List ActionData) → is_eq (uid_cmp q x.name) ≡ b → is_some (find (λ (a : ActionData). is_eq (uid_cmp q a.name)) xs) ≡ has uid_cmp (map (λ (a : ActionData). a.name) xs) q → is_some (find (λ (a : ActionData). is_eq (uid_cmp q a.name)) (x ∷ xs)) ≡ has uid_cmp (map (λ (a : ActionData). a.name) (x ∷ xs)) q
named_prefix true q x xs h i = rw h refl
named_prefix false q x xs h i = rw h i

named : (q : EntityUID) (xs : List ActionData) → is_some (find (λ (a : ActionData). is_eq (uid_cmp q a.name)) xs) ≡ has uid_cmp (map (λ (a : ActionData). a.name) xs) q
named q [] = refl
named q (x ∷ xs) = named_prefix (is_eq (uid_cmp q x.name)) q x xs refl (named q xs)

below_is : (s : SchemaData) (uid above : EntityUID) → (action_below s uid above ≡ true) ↔ HasActionDescendant s above uid
below_is s uid above = elim (action_at s above) as (λ r. (option_map_or (λ (a : ActionData). has uid_cmp a.descendants uid) r false ≡ true) ↔ IsSomeAnd r (λ a. Contains a.descendants uid)) [
  | None ↦ (λ h. absurd (false≢true h), λ h. absurd h)
  | Some a ↦ has-Contains uid_cmp_total exact_uid a.descendants uid
]

-- the actions that have it as a descendant, in one ascending list
pub ancestors_are : (s : SchemaData) (uid : EntityUID) (set : List EntityUID) → IsStrictlySortedBy uid_cmp (map (λ (a : ActionData). a.name) s.action_ids) → IsStrictlySortedBy uid_cmp set → ((q : EntityUID) → Contains set q ↔ HasActionDescendant s q uid) → set ≡ ancestors_of s uid
ancestors_are s uid set rise up h = kept_within uid_cmp_total exact_uid (action_below s uid) (map (λ (a : ActionData). a.name) s.action_ids) set rise up
    (λ q. both_ways _ _ (λ is. (below_is s uid q).1 ((h q).0 ((has-Contains uid_cmp_total exact_uid set q).0 is))) (λ is. (has-Contains uid_cmp_total exact_uid set q).1 ((h q).1 ((below_is s uid q).0 is))))
    (λ q is. sym (named q s.action_ids) ∙ some_if (λ (a : ActionData). has uid_cmp a.descendants uid) (action_at s q) is)

-- the test that a type may be above another
pub type_below_is : (s : SchemaData) (name above : List ℕ) → (type_below s name above ≡ true) ↔ HasTypeDescendant s above name
type_below_is s name above = elim (type_at s above) as (λ r. (option_map_or (λ (t : TypeData). has text_cmp t.descendants name) r false ≡ true) ↔ IsSomeAnd r (λ t. Contains t.descendants name)) [
  | None ↦ (λ h. absurd (false≢true h), λ h. absurd h)
  | Some t ↦ has-Contains nat_list_cmp_total exact_bytes t.descendants name
]

pub below_answer : (s : SchemaData) (name above : List ℕ) (r : Bool) → (IsTrue r ↔ HasTypeDescendant s above name) → type_below s name above ≡ r
below_answer s name above r h = both_ways _ _ (λ is. h.1 ((type_below_is s name above).0 is)) (λ is. (type_below_is s name above).1 (h.0 is))
