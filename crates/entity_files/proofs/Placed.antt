-- Values put in their places by their ids.
use Rattle.std.proofs.Common.{◌≡◌, ◌⊎◌, inl, inr, Bool, true, false, List, [], ◌∷◌, map, Option, Some, cond, refl, sym, ap, ◌∙◌, subst}
use Rattle.std.specs.Cmp.{tied_itself}
use Rattle.std.specs.List.{AllByRecursion}
use Rattle.std.specs.List.Sorted.{IsStrictlySortedBy}
use Rattle.std.specs.Ordering.{is_eq, match_ordering, ordering_reverse}
use Rattle.std.specs.BTreeMap.{is_at}
use Rattle.std.specs.declared.cmp.Ordering.{Ordering}
use Rattle.std.specs.declared.cmp.Ordering.TheVariants.{Less, Equal, Greater}
use Rattle.plain_lemmas.proofs.Booleans.{or_left_true, or_right_true, or_cases}
use Rattle.policy_values.specs.Keyed.{has_key, value_at, with_value}
use Rattle.policy_values.specs.Reaches.{has}
use Rattle.policy_values.specs.declared.entity_uid.EntityUID.{EntityUID}
use Rattle.policy_values.specs.Uid.{uid_cmp, uid_cmp_total, exact_uid}
use Rattle.entity_files.specs.Made.{all_placed}

equal_of : (o : Ordering) → is_eq o ≡ true → o ≡ Equal
equal_of Less h = absurd (cc)
equal_of Equal h = refl
equal_of Greater h = absurd (cc)

pub same_id : (x y : EntityUID) → is_eq (uid_cmp x y) ≡ true → x ≡ y
same_id x y h = exact_uid x y (equal_of (uid_cmp x y) h)

pub itself : (x : EntityUID) → uid_cmp x x ≡ Equal
itself x = tied_itself uid_cmp_total x

turned : (x y : EntityUID) → uid_cmp x y ≡ Greater → uid_cmp y x ≡ Less
turned x y h = uid_cmp_total.antisymm y x ∙ ap ordering_reverse h

module _ {V : Type 0} (id : V → EntityUID) where
  -- each id of the values is above this one
  abbrev AreAbove : EntityUID → List V → Type 0
  AreAbove k vs = AllByRecursion (λ y. uid_cmp k y ≡ Less) (map id vs)

  above_placed : (k : EntityUID) (v : V) (xs : List V) → uid_cmp k (id v) ≡ Less → AreAbove k xs → AreAbove k (with_value uid_cmp id v xs)
  above_placed k v [] here rest = (here, tt)
  above_placed k v (x ∷ xs) here rest = by (uid_cmp (id v) (id x)) (above_placed k v xs here rest.1)
    where
      by : (o : Ordering) → AreAbove k (with_value uid_cmp id v xs) → AreAbove k (match_ordering o (v ∷ x ∷ xs) (v ∷ xs) (x ∷ with_value uid_cmp id v xs))
      by Less later = (here, rest)
      by Equal later = (here, rest.1)
      by Greater later = (rest.0, later)

  further : (k l : EntityUID) (xs : List V) → uid_cmp k l ≡ Less → AreAbove l xs → AreAbove k xs
  further k l [] below all = tt
  further k l (x ∷ xs) below all = (uid_cmp_total.trans k l (id x) below all.0, further k l xs below all.1)

  abbrev IsAscending : List V → Type 0
  IsAscending vs = IsStrictlySortedBy uid_cmp (map id vs)

  -- ids still ascend
  placed_sorted : (v : V) (xs : List V) → IsAscending xs → IsAscending (with_value uid_cmp id v xs)
  unfolding IsStrictlySortedBy
  placed_sorted v [] sorted = (tt, tt)
  placed_sorted v (x ∷ xs) sorted = by (uid_cmp (id v) (id x)) refl (placed_sorted v xs sorted.1)
    where
      by : (o : Ordering) → uid_cmp (id v) (id x) ≡ o → IsAscending (with_value uid_cmp id v xs) → IsAscending (match_ordering o (v ∷ x ∷ xs) (v ∷ xs) (x ∷ with_value uid_cmp id v xs))
      by Less is later = ((is, further (id v) (id x) xs is sorted.0), sorted)
      by Equal is later = (subst (λ k. AreAbove k xs) (sym (exact_uid (id v) (id x) is)) sorted.0, sorted.1)
      by Greater is later = (above_placed (id x) v xs (turned (id v) (id x) is) sorted.0, later)

  pub all_sorted : (vs rest : List V) → IsAscending rest → IsAscending (all_placed id vs rest)
  all_sorted [] rest sorted = sorted
  all_sorted (v ∷ vs) rest sorted = placed_sorted v (all_placed id vs rest) (all_sorted vs rest sorted)

  -- what holds of a value and of each of a list holds of each where the value is in its place
  all_with : (P : V → Type 0) (v : V) (xs : List V) → P v → AllByRecursion P xs → AllByRecursion P (with_value uid_cmp id v xs)
  all_with P v [] p h = (p, tt)
  all_with P v (x ∷ xs) p h = by (uid_cmp (id v) (id x)) (all_with P v xs p h.1)
    where
      by : (o : Ordering) → AllByRecursion P (with_value uid_cmp id v xs) → AllByRecursion P (match_ordering o (v ∷ x ∷ xs) (v ∷ xs) (x ∷ with_value uid_cmp id v xs))
      by Less later = (p, h)
      by Equal later = (p, h.1)
      by Greater later = (h.0, later)

  pub all_of_placed : (P : V → Type 0) (vs rest : List V) → AllByRecursion P vs → AllByRecursion P rest → AllByRecursion P (all_placed id vs rest)
  all_of_placed P [] rest h k = k
  all_of_placed P (v ∷ vs) rest h k = all_with P v (all_placed id vs rest) h.0 (all_of_placed P vs rest h.1 k)

  absorb : {X : Type 0} (b : Bool) (x y z : X) → cond b x z ≡ cond b x (cond b y z)
  absorb true x y z = refl
  absorb false x y z = refl

  -- a look-up finds the value that was put in its place, or what was there
  value_with : (v : V) (xs : List V) (u : EntityUID) → value_at uid_cmp id (with_value uid_cmp id v xs) u ≡ cond (has_key uid_cmp id u v) (Some v) (value_at uid_cmp id xs u)
  value_with v [] u = refl
  value_with v (x ∷ xs) u = by_order (value_with v xs u) (uid_cmp (id v) (id x)) refl
    where
      z : Option V
      z = value_at uid_cmp id xs u

      swap : uid_cmp (id v) (id x) ≡ Greater → (a b : Bool) → has_key uid_cmp id u v ≡ a → has_key uid_cmp id u x ≡ b → cond b (Some x) (cond a (Some v) z) ≡ cond a (Some v) (cond b (Some x) z)
      swap is true true p q = let one : id v ≡ id x = sym (same_id u (id v) p) ∙ same_id u (id x) q in
          let clash : Greater ≡ Equal = sym is ∙ ap (λ y. uid_cmp (id v) y) (sym one) ∙ itself (id v) in absurd (cc)
      swap is true false p q = refl
      swap is false b p q = refl

      by_order : value_at uid_cmp id (with_value uid_cmp id v xs) u ≡ cond (has_key uid_cmp id u v) (Some v) z → (o : Ordering) → uid_cmp (id v) (id x) ≡ o
          → value_at uid_cmp id (match_ordering o (v ∷ x ∷ xs) (v ∷ xs) (x ∷ with_value uid_cmp id v xs)) u ≡ cond (has_key uid_cmp id u v) (Some v) (cond (has_key uid_cmp id u x) (Some x) z)
      by_order rest Less is = refl
      by_order rest Equal is =
          let same : has_key uid_cmp id u v ≡ has_key uid_cmp id u x = ap (λ y. is_eq (uid_cmp u y)) (exact_uid (id v) (id x) is) in
          subst (λ c. cond (has_key uid_cmp id u v) (Some v) z ≡ cond (has_key uid_cmp id u v) (Some v) (cond c (Some x) z)) same (absorb (has_key uid_cmp id u v) (Some v) (Some x) z)
      by_order rest Greater is = ap (λ o. cond (has_key uid_cmp id u x) (Some x) o) rest ∙ swap is (has_key uid_cmp id u v) (has_key uid_cmp id u x) refl refl

  pub value_placed : (vs : List V) (u : EntityUID) → value_at uid_cmp id (all_placed id vs []) u ≡ value_at uid_cmp id vs u
  value_placed [] u = refl
  value_placed (v ∷ vs) u = value_with v (all_placed id vs []) u ∙ ap (λ o. cond (has_key uid_cmp id u v) (Some v) o) (value_placed vs u)

-- ids that were there are there
has_old : (u : EntityUID) (us : List EntityUID) (q : EntityUID) → has uid_cmp us q ≡ true → has uid_cmp (with_value uid_cmp (λ v. v) u us) q ≡ true
has_old u [] q h = absurd (cc)
has_old u (v ∷ us) q h = by (uid_cmp u v) refl (has_old u us q)
  where
    by : (o : Ordering) → uid_cmp u v ≡ o → (has uid_cmp us q ≡ true → has uid_cmp (with_value uid_cmp (λ v. v) u us) q ≡ true)
        → has uid_cmp (match_ordering o (u ∷ v ∷ us) (u ∷ us) (v ∷ with_value uid_cmp (λ v. v) u us)) q ≡ true
    by Less is later = or_right_true (is_at (uid_cmp q) u) (has uid_cmp (v ∷ us) q) h
    by Equal is later = subst (λ w. has uid_cmp (w ∷ us) q ≡ true) (sym (exact_uid u v is)) h
    by Greater is later = by_case (or_cases (is_at (uid_cmp q) v) (has uid_cmp us q) h)
      where
        by_case : (is_at (uid_cmp q) v ≡ true) ⊎ (has uid_cmp us q ≡ true) → has uid_cmp (v ∷ with_value uid_cmp (λ v. v) u us) q ≡ true
        by_case (inl k) = or_left_true (is_at (uid_cmp q) v) (has uid_cmp (with_value uid_cmp (λ v. v) u us) q) k
        by_case (inr k) = or_right_true (is_at (uid_cmp q) v) (has uid_cmp (with_value uid_cmp (λ v. v) u us) q) (later k)

-- and the one that was put in its place
has_new : (u : EntityUID) (us : List EntityUID) (q : EntityUID) → is_at (uid_cmp q) u ≡ true → has uid_cmp (with_value uid_cmp (λ v. v) u us) q ≡ true
has_new u [] q h = or_left_true (is_at (uid_cmp q) u) false h
has_new u (v ∷ us) q h = by (uid_cmp u v) (has_new u us q h)
  where
    by : (o : Ordering) → has uid_cmp (with_value uid_cmp (λ v. v) u us) q ≡ true
        → has uid_cmp (match_ordering o (u ∷ v ∷ us) (u ∷ us) (v ∷ with_value uid_cmp (λ v. v) u us)) q ≡ true
    by Less later = or_left_true (is_at (uid_cmp q) u) (has uid_cmp (v ∷ us) q) h
    by Equal later = or_left_true (is_at (uid_cmp q) u) (has uid_cmp us q) h
    by Greater later = or_right_true (is_at (uid_cmp q) v) (has uid_cmp (with_value uid_cmp (λ v. v) u us) q) later

pub has_rest : (us rest : List EntityUID) (q : EntityUID) → has uid_cmp rest q ≡ true → has uid_cmp (all_placed (λ v. v) us rest) q ≡ true
has_rest [] rest q h = h
has_rest (u ∷ us) rest q h = has_old u (all_placed (λ v. v) us rest) q (has_rest us rest q h)

pub has_placed : (us rest : List EntityUID) (q : EntityUID) → has uid_cmp us q ≡ true → has uid_cmp (all_placed (λ v. v) us rest) q ≡ true
has_placed [] rest q h = absurd (cc)
has_placed (u ∷ us) rest q h = by (or_cases (is_at (uid_cmp q) u) (has uid_cmp us q) h) (has_placed us rest q)
  where
    by : (is_at (uid_cmp q) u ≡ true) ⊎ (has uid_cmp us q ≡ true) → (has uid_cmp us q ≡ true → has uid_cmp (all_placed (λ v. v) us rest) q ≡ true) →
        has uid_cmp (all_placed (λ v. v) (u ∷ us) rest) q ≡ true
    by (inl k) later = has_new u (all_placed (λ v. v) us rest) q k
    by (inr k) later = has_old u (all_placed (λ v. v) us rest) q (later k)
