-- What the queries collect.
use Rattle.std.proofs.Common.{◌≡◌, ℕ, zero, suc, ◌+◌, ◌<◌, Bool, true, false, ◌||◌, ◌&&◌, ◌↔◌, ◌⊎◌, inl, inr, cond, List, [], ◌∷◌, ◌++◌, length, map, take, get_or, Some, None, Contains, is_some, refl, sym, ◌∙◌, ap, arith}
use Rattle.std.specs.List.{AllByRecursion, find, list_any, list_all}
use Rattle.std.specs.List.Sorted.{IsStrictlySortedBy}
use Rattle.std.specs.Option.{option_map_or, IsSomeAnd}
use Rattle.std.specs.Ordering.{is_eq}
use Rattle.std.specs.Cmp.{tied_itself}
use Rattle.std.specs.Cmp.Lexicographic.{nat_list_cmp_total}
use Rattle.std.specs.declared.cmp.Ordering.TheVariants.{Less}
use Rattle.std.proofs.lemmas.Bool.{or_cases, or_left, or_right, and_parts, false≢true}
use Rattle.std.proofs.lemmas.Cmp.{eq_by_cmp_equiv}
use Rattle.std.proofs.lemmas.List.{take_more}
use Rattle.std.proofs.lemmas.List.Folds.{list_any-append}
use Rattle.std.proofs.lemmas.Map.Keys.{sorted_head, sorted_tail}
use Rattle.std.proofs.lemmas.Map.Lookups.{exact_bytes}
use Rattle.std.proofs.lemmas.Map.Views.{tells_apart}
use Rattle.policy_values.specs.Reaches.{has}
use Rattle.policy_values.specs.declared.entity_uid.EntityUID.{EntityUID}
use Rattle.policy_values.specs.Uid.{text_cmp, uid_cmp, uid_cmp_total, exact_uid}
use Rattle.schema_core.proofs.SameKeys.{has-Contains}
use Rattle.schema_core.specs.Schema.{TypeData, ActionData, SchemaData, is_action_named, type_at, action_at, IsDeclaredAction, HasTypeDescendant, HasActionDescendant}

-- the set has the actions whose descendants have u
pub record AreAncestors (u : EntityUID) (actions : List ActionData) (set : List EntityUID) : Type 0 where
  pub ordered : IsStrictlySortedBy uid_cmp set
  pub keys : (q : EntityUID) → has uid_cmp set q ≡ list_any (λ (a : ActionData). is_action_named q a && has uid_cmp a.descendants u) actions

-- whether v is a descendant of u
abbrev pub action_has : SchemaData → EntityUID → EntityUID → Bool
action_has s u v = option_map_or (λ (a : ActionData). has uid_cmp a.descendants v) (action_at s u) false

-- the set has the ids, all of them declared, and their descendants
pub record AreActionsIn (s : SchemaData) (uids set : List EntityUID) : Type 0 where
  pub ordered : IsStrictlySortedBy uid_cmp set
  pub declared : list_all (λ u. is_some (action_at s u)) uids ≡ true
  pub keys : (q : EntityUID) → has uid_cmp set q ≡ list_any (λ u. is_eq (uid_cmp q u) || action_has s u q) uids

-- whether y is a descendant of x
abbrev pub type_has : SchemaData → List ℕ → List ℕ → Bool
type_has s x y = option_map_or (λ (t : TypeData). has text_cmp t.descendants y) (type_at s x) false

-- the test and the fact
type_has-is : (s : SchemaData) (x y : List ℕ) → (type_has s x y ≡ true) ↔ HasTypeDescendant s x y
type_has-is s x y = elim (type_at s x) as (λ r. (option_map_or (λ (t : TypeData). has text_cmp t.descendants y) r false ≡ true) ↔ IsSomeAnd r (λ t. Contains t.descendants y)) [
  | None ↦ (λ h. absurd (false≢true h), λ h. absurd h)
  | Some t ↦ has-Contains nat_list_cmp_total exact_bytes t.descendants y
]

action_has-is : (s : SchemaData) (u v : EntityUID) → (action_has s u v ≡ true) ↔ HasActionDescendant s u v
action_has-is s u v = elim (action_at s u) as (λ r. (option_map_or (λ (a : ActionData). has uid_cmp a.descendants v) r false ≡ true) ↔ IsSomeAnd r (λ a. Contains a.descendants v)) [
  | None ↦ (λ h. absurd (false≢true h), λ h. absurd h)
  | Some a ↦ has-Contains uid_cmp_total exact_uid a.descendants v
]

-- the descendants of a type that is declared, and of one that is not
pub below_some : (s : SchemaData) (x : List ℕ) (t : TypeData) (set : List (List ℕ)) → Some t ≡ type_at s x → set ≡ t.descendants → (q : List ℕ) → has text_cmp set q ≡ type_has s x q
below_some s x t set found same q = rw (← found, same) refl

pub below_none : (s : SchemaData) (x : List ℕ) (set : List (List ℕ)) → None ≡ type_at s x → set ≡ [] → (q : List ℕ) → has text_cmp set q ≡ type_has s x q
below_none s x set found empty q = rw (← found, empty) refl

-- a type and its descendants
pub types_in : (s : SchemaData) (x : List ℕ) (old new : List (List ℕ)) → ((q : List ℕ) → has text_cmp old q ≡ type_has s x q)
    → ((q : List ℕ) → has text_cmp new q ≡ cond (is_eq (text_cmp x q)) true (has text_cmp old q))
    → (q : List ℕ) → Contains new q ↔ ((q ≡ x) ⊎ HasTypeDescendant s x q)
types_in s x old new below u q = (to, from) where
  sum : has text_cmp new q ≡ (is_eq (text_cmp x q) || type_has s x q)
  sum = let a = u q in let b = below q in grind arith

  to : Contains new q → (q ≡ x) ⊎ HasTypeDescendant s x q
  to h = elim (or_cases (is_eq (text_cmp x q)) (type_has s x q) (sym sum ∙ (has-Contains nat_list_cmp_total exact_bytes new q).1 h)) [
    | inl same ↦ inl (sym (tells_apart exact_bytes x q same))
    | inr way ↦ inr ((type_has-is s x q).0 way)
  ]

  from : (q ≡ x) ⊎ HasTypeDescendant s x q → Contains new q
  from (inl same) = (has-Contains nat_list_cmp_total exact_bytes new q).0 (sum ∙ or_left (is_eq (text_cmp x q)) (type_has s x q) (rw same (ap is_eq (tied_itself nat_list_cmp_total x))))
  from (inr way) = (has-Contains nat_list_cmp_total exact_bytes new q).0 (sum ∙ or_right (is_eq (text_cmp x q)) (type_has s x q) ((type_has-is s x q).1 way))

module _ {X : Type 0} (p : X → Bool) where
  all_pass : (xs : List X) → list_all p xs ≡ true → (k : ℕ) (d : X) → k < length xs → p (get_or xs k d) ≡ true
  all_pass [] h k d lt = absurd (omega arith)
  all_pass (x ∷ xs) h zero d lt = (and_parts (p x) (list_all p xs) h).0
  all_pass (x ∷ xs) h (suc k) d lt = all_pass xs (and_parts (p x) (list_all p xs) h).1 k d (omega arith)

  some_passes : (xs : List X) → list_any p xs ≡ true → (x : X) × Contains xs x × (p x ≡ true)
  some_passes [] h = absurd (false≢true h)
  some_passes (x ∷ xs) h = elim (or_cases (p x) (list_any p xs) h) [
    | inl here ↦ (x, (0, omega arith, refl), here)
    | inr later ↦ let (y, (k, lt, is), passes) = some_passes xs later in (y, (suc k, omega arith, is), passes)
  ]

  one_passes : (xs : List X) (k : ℕ) (d : X) → k < length xs → p (get_or xs k d) ≡ true → list_any p xs ≡ true
  one_passes [] k d lt h = absurd (omega arith)
  one_passes (x ∷ xs) zero d lt h = or_left (p x) (list_any p xs) h
  one_passes (x ∷ xs) (suc k) d lt h = or_right (p x) (list_any p xs) (one_passes xs k d (omega arith) h)

  list_all-push : (xs : List X) (x : X) → list_all p (xs ++ x ∷ []) ≡ (list_all p xs && p x)
  list_all-push [] x = elim (p x) as (λ b. (b && true) ≡ b) [ true ↦ refl | false ↦ refl ]
  list_all-push (y ∷ xs) x = rw (list_all-push xs x) (elim (p y) as (λ b. (b && (list_all p xs && p x)) ≡ ((b && list_all p xs) && p x)) [ true ↦ refl | false ↦ refl ])

-- the next item of a list
next_item : {X : Type 0} (xs : List X) (i : ℕ) (x : X) → i < length xs → x ≡ get_or xs i x → take (i + 1) xs ≡ take i xs ++ x ∷ []
next_item xs i x lt item = take_more xs i x lt ∙ rw (← item) refl

turned : (u v : EntityUID) → is_eq (uid_cmp u v) ≡ is_eq (uid_cmp v u)
turned u v = (eq_by_cmp_equiv uid_cmp_total).symm u v

-- a set with one more key, and the same set, by the tests of q
pub added : (new old here has_it : Bool) → has_it ≡ true → new ≡ cond here true old → new ≡ ((here && has_it) || old)
added new old true has_it is h = rw (h, is) refl
added new old false has_it is h = h

pub not_added : (old here has_it : Bool) → has_it ≡ false → old ≡ ((here && has_it) || old)
not_added old true has_it is = rw is refl
not_added old false has_it is = refl

-- the next action is looked at
pub ancestors_more : (u : EntityUID) (xs : List ActionData) (i : ℕ) (x : ActionData) (set set' : List EntityUID) → i < length xs → x ≡ get_or xs i x → AreAncestors u (take i xs) set
    → IsStrictlySortedBy uid_cmp set'
    → ((q : EntityUID) → has uid_cmp set' q ≡ ((is_eq (uid_cmp x.name q) && has uid_cmp x.descendants u) || has uid_cmp set q))
    → AreAncestors u (take (i + 1) xs) set'
ancestors_more u xs i x set set' lt item t sorted h = rw (next_item xs i x lt item) (record {
  ordered = sorted;
  keys = λ q.
      let a = h q in let b = t.keys q in let f = turned q x.name in
      rw (list_any-append (λ (a : ActionData). is_action_named q a && has uid_cmp a.descendants u) (take i xs) (x ∷ [])) (grind arith);
})

none_named : (x : ActionData) (p : ActionData → Bool) (xs : List ActionData) → AllByRecursion (λ y. uid_cmp x.name y ≡ Less) (map (λ (a : ActionData). a.name) xs) → list_any (λ (a : ActionData). is_action_named x.name a && p a) xs ≡ false
none_named x p [] all = refl
none_named x p (y ∷ xs) all = rw all.0 (none_named x p xs all.1)

-- among actions that differ, the one with the id
any_found : (q : EntityUID) (p : ActionData → Bool) (xs : List ActionData) → IsStrictlySortedBy uid_cmp (map (λ (a : ActionData). a.name) xs) → list_any (λ (a : ActionData). is_action_named q a && p a) xs ≡ option_map_or p (find (is_action_named q) xs) false
any_found q p [] sorted = refl
any_found q p (x ∷ xs) sorted = by_test (is_action_named q x) refl (any_found q p xs (sorted_tail uid_cmp x.name (map (λ (a : ActionData). a.name) xs) sorted)) where
  by_test : (b : Bool) → is_action_named q x ≡ b → list_any (λ (a : ActionData). is_action_named q a && p a) xs ≡ option_map_or p (find (is_action_named q) xs) false
      → list_any (λ (a : ActionData). is_action_named q a && p a) (x ∷ xs) ≡ option_map_or p (find (is_action_named q) (x ∷ xs)) false
  by_test true is later =
      let none : list_any (λ (a : ActionData). is_action_named q a && p a) xs ≡ false = rw (tells_apart exact_uid q x.name is) (none_named x p xs (sorted_head uid_cmp x.name (map (λ (a : ActionData). a.name) xs) sorted)) in
      rw is (rw none (elim (p x) as (λ b. (b || false) ≡ b) [ true ↦ refl | false ↦ refl ]))
  by_test false is later = rw is later

pub ancestors_all : (s : SchemaData) (u : EntityUID) (set : List EntityUID) → IsStrictlySortedBy uid_cmp (map (λ (a : ActionData). a.name) s.action_ids) → AreAncestors u s.action_ids set → (q : EntityUID) → Contains set q ↔ HasActionDescendant s q u
ancestors_all s u set sorted t q =
    let same : has uid_cmp set q ≡ action_has s q u = t.keys q ∙ any_found q (λ (a : ActionData). has uid_cmp a.descendants u) s.action_ids sorted in (
      λ h. (action_has-is s q u).0 (sym same ∙ (has-Contains uid_cmp_total exact_uid set q).1 h),
      λ h. (has-Contains uid_cmp_total exact_uid set q).0 (same ∙ (action_has-is s q u).1 h),
    )

-- the next id is looked at
pub actions_more : (s : SchemaData) (uids : List EntityUID) (i : ℕ) (u : EntityUID) (a : ActionData) (old mid new : List EntityUID) → i < length uids → u ≡ get_or uids i u → action_at s u ≡ Some a → AreActionsIn s (take i uids) old
    → IsStrictlySortedBy uid_cmp new
    → ((q : EntityUID) → has uid_cmp mid q ≡ cond (is_eq (uid_cmp u q)) true (has uid_cmp old q))
    → ((q : EntityUID) → has uid_cmp new q ≡ (has uid_cmp mid q || has uid_cmp a.descendants q))
    → AreActionsIn s (take (i + 1) uids) new
actions_more s uids i u a old mid new lt item found t sorted h k = rw (next_item uids i u lt item) (record {
  ordered = sorted;
  declared = rw (list_all-push (λ v. is_some (action_at s v)) (take i uids) u, t.declared, found) refl;
  keys = λ q.
      let b = h q in let d = k q in let e = t.keys q in let f = turned q u in
      rw (list_any-append (λ v. is_eq (uid_cmp q v) || action_has s v q) (take i uids) (u ∷ []), found) (grind arith);
})

pub actions_all : (s : SchemaData) (uids set : List EntityUID) → AreActionsIn s uids set
    → ((u : EntityUID) → Contains uids u → IsDeclaredAction s u) × ((q : EntityUID) → Contains set q ↔ (Contains uids q ⊎ ((u : EntityUID) × Contains uids u × HasActionDescendant s u q)))
actions_all s uids set t = (
  λ u (k, lt, is). rw is at (all_pass (λ v. is_some (action_at s v)) uids t.declared k u lt),
  λ q. (to q, from q),
) where
  to : (q : EntityUID) → Contains set q → Contains uids q ⊎ ((u : EntityUID) × Contains uids u × HasActionDescendant s u q)
  to q h =
      let (u, there, passes) = some_passes (λ v. is_eq (uid_cmp q v) || action_has s v q) uids (sym (t.keys q) ∙ (has-Contains uid_cmp_total exact_uid set q).1 h) in
      elim (or_cases (is_eq (uid_cmp q u)) (action_has s u q) passes) [
        | inl same ↦ inl (rw (tells_apart exact_uid q u same) there)
        | inr way ↦ inr (u, there, (action_has-is s u q).0 way)
      ]

  from : (q : EntityUID) → Contains uids q ⊎ ((u : EntityUID) × Contains uids u × HasActionDescendant s u q) → Contains set q
  from q (inl (k, lt, is)) = (has-Contains uid_cmp_total exact_uid set q).0 (t.keys q ∙ one_passes (λ v. is_eq (uid_cmp q v) || action_has s v q) uids k q lt (rw is (or_left (is_eq (uid_cmp q q)) (action_has s q q) (ap is_eq (tied_itself uid_cmp_total q)))))
  from q (inr (u, (k, lt, is), way)) = (has-Contains uid_cmp_total exact_uid set q).0 (t.keys q ∙ one_passes (λ v. is_eq (uid_cmp q v) || action_has s v q) uids k u lt (rw is (or_right (is_eq (uid_cmp q u)) (action_has s u q) ((action_has-is s u q).1 way))))
