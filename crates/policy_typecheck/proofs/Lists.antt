-- Lists that grow by what they do not hold.
use Rattle.std.proofs.Common.{append-nil, append_assoc, ◌≡◌, Bool, true, false, ◌||◌, List, [], ◌∷◌, ◌++◌, map, refl, sym, ap, ◌∙◌, if◌then◌else◌}
use Rattle.std.specs.List.{list_any, AllByRecursion, IsDistinct}
use Rattle.std.specs.Borrow.{Bor}
use Rattle.std.specs.Cmp.{IsEquivalence}
use Rattle.indexmap.specs.IndexSet.{insert_key}
use Rattle.plain_lemmas.proofs.Booleans.{or_assoc, or_false, or_left_true, or_right_true, or_true}
use Rattle.policy_typecheck.specs.Added.{added, all_added, holds}
use Rattle.policy_typecheck.specs.Missing.{lends, unmarked}

module _ {T : Type 0} (eq : T → T → Bool) where
  -- several, and then more
  pub added_append : (xs ys zs : List T) → all_added eq xs (ys ++ zs) ≡ all_added eq (all_added eq xs ys) zs
  added_append xs [] zs = refl
  added_append xs (y ∷ ys) zs = added_append (added eq xs y) ys zs

module _ {T : Type 0} (eq : T → T → Bool) (laws : IsEquivalence eq) where
  -- equality asked from either side
  pub turned : (xs : List T) (x : T) → list_any (eq x) xs ≡ holds eq xs x
  turned [] x = refl
  turned (y ∷ ys) x = ap (λ b. b || list_any (eq x) ys) (laws.symm x y) ∙ ap (λ b. eq y x || b) (turned ys x)

  holds_append : (xs zs : List T) (x : T) → holds eq (xs ++ zs) x ≡ (holds eq xs x || holds eq zs x)
  holds_append [] zs x = refl
  holds_append (y ∷ ys) zs x = by (eq y x) (holds_append ys zs x)
    where
      by : (b : Bool) → holds eq (ys ++ zs) x ≡ (holds eq ys x || holds eq zs x) → (b || holds eq (ys ++ zs) x) ≡ ((b || holds eq ys x) || holds eq zs x)
      by true _ = refl
      by false same = same

  -- none of them is held, also behind one that is equal to none
  none_next : (zs : List T) (y : T) (ys : List T) → AllByRecursion (λ x. holds eq zs x ≡ false) ys → AllByRecursion (λ x. eq y x ≡ false) ys →
      AllByRecursion (λ x. holds eq (zs ++ y ∷ []) x ≡ false) ys
  none_next zs y [] none other = none
  none_next zs y (x ∷ xs) none other =
      (holds_append zs (y ∷ []) x ∙ ap (λ b. b || (eq y x || false)) none.0 ∙ ap (λ b. b || false) other.0, none_next zs y xs none.1 other.1)

  -- what is distinct stands behind a list but for what the list holds
  behind : (xs zs ys : List T) → AllByRecursion (λ y. holds eq zs y ≡ false) ys → IsDistinct eq ys →
      all_added eq (xs ++ zs) ys ≡ xs ++ (zs ++ unmarked ys (map (holds eq xs) ys))
  unfolding IsDistinct
  behind xs zs [] none distinct = ap (λ ws. xs ++ ws) (sym (append-nil zs))
  behind xs zs (y ∷ ys) none distinct =
      by (holds eq xs y) refl (behind xs zs ys none.1 distinct.1) (behind xs (zs ++ y ∷ []) ys (none_next zs y ys none.1 distinct.0) distinct.1)
    where
      rest : List T
      rest = unmarked ys (map (holds eq xs) ys)

      added_where : (b : Bool) → holds eq xs y ≡ b → all_added eq (xs ++ zs) (y ∷ ys) ≡ all_added eq (if b then xs ++ zs else (xs ++ zs) ++ y ∷ []) ys
      added_where b h =
          ap (λ c. all_added eq (if c then xs ++ zs else (xs ++ zs) ++ y ∷ []) ys)
          (holds_append xs zs y ∙ ap (λ c. holds eq xs y || c) none.0 ∙ ap (λ c. c || false) h ∙ or_false b)

      marked_where : (b : Bool) → holds eq xs y ≡ b → unmarked (y ∷ ys) (b ∷ map (holds eq xs) ys) ≡ unmarked (y ∷ ys) (map (holds eq xs) (y ∷ ys))
      marked_where b h = ap (λ c. unmarked (y ∷ ys) (c ∷ map (holds eq xs) ys)) (sym h)

      by : (b : Bool) → holds eq xs y ≡ b → all_added eq (xs ++ zs) ys ≡ xs ++ (zs ++ rest) →
          all_added eq (xs ++ (zs ++ y ∷ [])) ys ≡ xs ++ ((zs ++ y ∷ []) ++ rest) →
          all_added eq (xs ++ zs) (y ∷ ys) ≡ xs ++ (zs ++ unmarked (y ∷ ys) (map (holds eq xs) (y ∷ ys)))
      by true h same other = added_where true h ∙ same ∙ ap (λ ws. xs ++ (zs ++ ws)) (marked_where true h)
      by false h same other =
          added_where false h ∙ ap (λ ws. all_added eq ws ys) (append_assoc xs zs (y ∷ [])) ∙ other ∙
          ap (λ ws. xs ++ ws) (append_assoc zs (y ∷ []) rest) ∙ ap (λ ws. xs ++ (zs ++ ws)) (marked_where false h)

  -- what is added to a list of what is distinct
  pub added_behind : (xs ys : List T) → IsDistinct eq ys → all_added eq xs ys ≡ xs ++ unmarked ys (map (holds eq xs) ys)
  added_behind xs ys distinct =
      ap (λ ws. all_added eq ws ys) (sym (append-nil xs)) ∙ behind xs [] ys (none_of ys) distinct
    where
      none_of : (ws : List T) → AllByRecursion (λ y. holds eq [] y ≡ false) ws
      none_of [] = tt
      none_of (w ∷ ws) = (refl, none_of ws)

  -- what stands for items, each for one
  module _ {R : Type 0} (now : R → T) where
    abbrev pub has : List R → T → Bool
    has rs x = list_any (λ r. eq x (now r)) rs

    equals_held : (rs : List R) (y x : T) → eq x y ≡ true → has rs x ≡ has rs y
    equals_held [] y x same = refl
    equals_held (r ∷ rs) y x same = (λ j. laws.congr x y (now r) same j || equals_held rs y x same j)

    one_more : (rs : List R) (r : R) (x : T) → has (rs ++ r ∷ []) x ≡ (has rs x || eq x (now r))
    one_more [] r x = or_false (eq x (now r))
    one_more (s ∷ rs) r x = ap (λ b. eq x (now s) || b) (one_more rs r x) ∙ sym (or_assoc (eq x (now s)) (has rs x) (eq x (now r)))

    -- what is held once one more is put to it
    pub held_next : (rs : List R) (r : R) (x : T) → has (insert_key (λ a b. eq (now a) (now b)) rs r) x ≡ (has rs x || eq (now r) x)
    held_next rs r x = by (has rs (now r)) refl (eq x (now r)) refl ∙ ap (λ b. has rs x || b) (laws.symm x (now r))
      where
        by : (b : Bool) → has rs (now r) ≡ b → (c : Bool) → eq x (now r) ≡ c →
            has (insert_key (λ a b. eq (now a) (now b)) rs r) x ≡ (has rs x || eq x (now r))
        by false h c same = ap (λ b. has (if b then rs else rs ++ r ∷ []) x) h ∙ one_more rs r x
        by true h false same =
            ap (λ b. has (if b then rs else rs ++ r ∷ []) x) h ∙ sym (or_false (has rs x)) ∙ ap (λ b. has rs x || b) (sym same)
        by true h true same =
            ap (λ b. has (if b then rs else rs ++ r ∷ []) x) h ∙ equals_held rs (now r) x same ∙ h ∙
            sym (ap (λ b. b || eq x (now r)) (equals_held rs (now r) x same ∙ h))

  -- and what is left of a list, when its first item is put to it
  pub held_left : (rs : List (Bor T)) (r : Bor T) (ys : List T) (x : T) →
      (lends eq (insert_key (λ a b. eq a.now b.now) rs r) x || holds eq ys x) ≡ (lends eq rs x || holds eq (r.now ∷ ys) x)
  held_left rs r ys x =
      ap (λ b. b || holds eq ys x) (held_next (λ k. k.now) rs r x) ∙ or_assoc (lends eq rs x) (eq r.now x) (holds eq ys x)

  -- a list and what is added to it are held
  holds_added : (xs : List T) (z x : T) → holds eq (added eq xs z) x ≡ (holds eq xs x || eq z x)
  holds_added xs z x =
      ap (λ b. holds eq (if b then xs else xs ++ z ∷ []) x) (sym (turned xs z)) ∙ sym (turned (insert_key eq xs z) x) ∙
      held_next (λ y. y) xs z x ∙ ap (λ b. b || eq z x) (turned xs x)

  holds_all : (xs zs : List T) (x : T) → holds eq (all_added eq xs zs) x ≡ (holds eq xs x || holds eq zs x)
  holds_all xs [] x = sym (or_false (holds eq xs x))
  holds_all xs (z ∷ zs) x =
      holds_all (added eq xs z) zs x ∙ ap (λ b. b || holds eq zs x) (holds_added xs z x) ∙ or_assoc (holds eq xs x) (eq z x) (holds eq zs x)

  added_after : (xs zs ys : List T) → all_added eq xs (all_added eq zs ys) ≡ all_added eq (all_added eq xs zs) ys
  added_after xs zs [] = refl
  added_after xs zs (y ∷ ys) = by (holds eq zs y) refl (added_after xs zs ys) (added_after xs (zs ++ y ∷ []) ys)
    where
      by : (b : Bool) → holds eq zs y ≡ b → all_added eq xs (all_added eq zs ys) ≡ all_added eq (all_added eq xs zs) ys →
          all_added eq xs (all_added eq (zs ++ y ∷ []) ys) ≡ all_added eq (all_added eq xs (zs ++ y ∷ [])) ys →
          all_added eq xs (all_added eq (added eq zs y) ys) ≡ all_added eq (added eq (all_added eq xs zs) y) ys
      by true h same other =
          ap (λ b. all_added eq xs (all_added eq (if b then zs else zs ++ y ∷ []) ys)) h ∙ same ∙
          ap (λ b. all_added eq (if b then all_added eq xs zs else all_added eq xs zs ++ y ∷ []) ys)
          (sym (holds_all xs zs y ∙ ap (λ b. holds eq xs y || b) h ∙ or_true (holds eq xs y)))
      by false h same other =
          ap (λ b. all_added eq xs (all_added eq (if b then zs else zs ++ y ∷ []) ys)) h ∙ other ∙
          ap (λ ws. all_added eq ws ys) (added_append eq xs zs (y ∷ []))

  -- to add what was kept once is to add all
  pub once_is_enough : (xs ys : List T) → all_added eq xs (all_added eq [] ys) ≡ all_added eq xs ys
  once_is_enough xs ys = added_after xs [] ys

  -- what is held is not added
  none_added : (xs ys : List T) → AllByRecursion (λ y. holds eq xs y ≡ true) ys → all_added eq xs ys ≡ xs
  none_added xs [] held = refl
  none_added xs (y ∷ ys) held = ap (λ b. all_added eq (if b then xs else xs ++ y ∷ []) ys) held.0 ∙ none_added xs ys held.1

  each_held : (xs ys : List T) → ((y : T) → holds eq ys y ≡ true → holds eq xs y ≡ true) → AllByRecursion (λ y. holds eq xs y ≡ true) ys
  each_held xs [] within = tt
  each_held xs (y ∷ ys) within =
      (within y (or_left_true (eq y y) (holds eq ys y) (laws.refl y)), each_held xs ys (λ z held. within z (or_right_true (eq y z) (holds eq ys z) held)))

  -- what is added twice is added once
  pub once_added : (xs ys : List T) → all_added eq (all_added eq xs ys) ys ≡ all_added eq xs ys
  once_added xs ys =
      none_added (all_added eq xs ys) ys (each_held (all_added eq xs ys) ys (λ y held. holds_all xs ys y ∙ or_right_true (holds eq xs y) (holds eq ys y) held))
