-- What is reached by parents is computed.
use Rattle.std.proofs.Common.{◌≡◌, ◌⊎◌, inl, inr, ◌↔◌, Bool, true, false, List, [], ◌∷◌, Option, Some, None, cond, Contains, refl, sym, ap, ◌∙◌, subst}
use Rattle.std.specs.Prelude.{◌||◌, ◌&&◌, IsSome, IsSomeAnd, filter}
use Rattle.std.specs.BTreeMap.{is_at}
use Rattle.std.specs.Option.{option_map_or}
use Rattle.std.proofs.lemmas.Map.Views.{btree_set_contains_iff}
use Rattle.plain_lemmas.proofs.Booleans.{and_parts_of, or_cases, or_left_true, or_right_true}
use Rattle.policy_values.specs.Reaches.{Reaches, last, more, has}
use Rattle.policy_values.specs.declared.entity_uid.EntityUID.{EntityUID}
use Rattle.policy_values.specs.Uid.{uid_cmp, uid_cmp_total, exact_uid}
use Rattle.entity_store.specs.Store.{StoredEntity, is_named, entity_at}
use Rattle.entity_store.specs.FromParents.{Lists}
use Rattle.entity_files.specs.Made.{lists, is_reached, listed_ids}
use Rattle.entity_files.proofs.Placed.{same_id, has_rest, has_placed}

pub has_is : (xs : List EntityUID) (q : EntityUID) → (has uid_cmp xs q ≡ true) ↔ Contains xs q
has_is xs q = btree_set_contains_iff uid_cmp_total exact_uid (record { keys = xs }) q

both_true : (a b : Bool) → a ≡ true → b ≡ true → (a && b) ≡ true
both_true true b h k = k
both_true false b h k = absurd (cc)

here_of : (a b : Bool) → (a || (a && b)) ≡ true → a ≡ true
here_of true b h = refl
here_of false b h = absurd (cc)

there_of : (a b : Bool) → (b || (a && b)) ≡ true → b ≡ true
there_of a true h = refl
there_of true false h = absurd (cc)
there_of false false h = absurd (cc)

module _ (es : List StoredEntity) where
  pub lists_is : (x y : EntityUID) → (lists es x y ≡ true) ↔ Lists es x y
  lists_is x y = by (entity_at es x)
    where
      by : (o : Option StoredEntity) → (option_map_or (λ e. has uid_cmp e.ancestors y) o false ≡ true) ↔ IsSomeAnd o (λ e. Contains e.ancestors y)
      by None = (λ h. absurd (cc), λ h. absurd h)
      by (Some e) = has_is e.ancestors y

  pub direct : (between : List StoredEntity) (x y : EntityUID) → lists es x y ≡ true → is_reached es between x y ≡ true
  direct [] x y h = h
  direct (e ∷ between) x y h = or_left_true (is_reached es between x y) _ (direct between x y h)

  -- what is reached over an entity that may stand between is reached
  through : (between : List StoredEntity) (x z y : EntityUID) → IsSome (entity_at between z) →
      is_reached es between x z ≡ true → is_reached es between z y ≡ true → is_reached es between x y ≡ true
  through [] x z y own to from = absurd (cc)
  through (e ∷ between) x z y own to from = by (is_named z e) refl own (through between)
    where
      at : EntityUID → EntityUID → Bool
      at = is_reached es between

      up : at x y ≡ true → (at x y || (at x e.uid && at e.uid y)) ≡ true
      up h = or_left_true (at x y) (at x e.uid && at e.uid y) h

      over : at x e.uid ≡ true → at e.uid y ≡ true → (at x y || (at x e.uid && at e.uid y)) ≡ true
      over h k = or_right_true (at x y) (at x e.uid && at e.uid y) (both_true (at x e.uid) (at e.uid y) h k)

      cases : ((x z y : EntityUID) → IsSome (entity_at between z) → is_reached es between x z ≡ true → is_reached es between z y ≡ true → is_reached es between x y ≡ true) → IsSome (entity_at between z) →
          (at x z ≡ true) ⊎ ((at x e.uid && at e.uid z) ≡ true) → (at z y ≡ true) ⊎ ((at z e.uid && at e.uid y) ≡ true) → (at x y || (at x e.uid && at e.uid y)) ≡ true
      cases later there (inl h) (inl k) = up (later x z y there h k)
      cases later there (inl h) (inr k) = let p = and_parts_of (at z e.uid) (at e.uid y) k in over (later x z e.uid there h p.0) p.1
      cases later there (inr h) (inl k) = let p = and_parts_of (at x e.uid) (at e.uid z) h in over p.0 (later e.uid z y there p.1 k)
      cases later there (inr h) (inr k) = over (and_parts_of (at x e.uid) (at e.uid z) h).0 (and_parts_of (at z e.uid) (at e.uid y) k).1

      by : (b : Bool) → is_named z e ≡ b → IsSome (cond b (Some e) (entity_at between z)) → ((x z y : EntityUID) → IsSome (entity_at between z) → is_reached es between x z ≡ true → is_reached es between z y ≡ true → is_reached es between x y ≡ true) →
          (at x y || (at x e.uid && at e.uid y)) ≡ true
      by true is there later =
          let same : z ≡ e.uid = same_id z e.uid is in
          let first : (at x e.uid || (at x e.uid && at e.uid e.uid)) ≡ true = subst (λ v. (at x v || (at x e.uid && at e.uid v)) ≡ true) same to in
          let then : (at e.uid y || (at e.uid e.uid && at e.uid y)) ≡ true = subst (λ v. (at v y || (at v e.uid && at e.uid y)) ≡ true) same from in
          over (here_of (at x e.uid) (at e.uid e.uid) first) (there_of (at e.uid e.uid) (at e.uid y) then)
      by false is there later = cases later there (or_cases (at x z) (at x e.uid && at e.uid z) to) (or_cases (at z y) (at z e.uid && at e.uid y) from)

  -- an id from which something is reached has an entity
  pub goes_on : (x y : EntityUID) → Reaches (Lists es) x y → IsSome (entity_at es x)
  goes_on x y r = by r
    where
      here : (o : Option StoredEntity) (z : EntityUID) → IsSomeAnd o (λ e. Contains e.ancestors z) → IsSome o
      here None z h = absurd h
      here (Some e) z h = refl

      by : Reaches (Lists es) x y → IsSome (entity_at es x)
      by (last h) = here (entity_at es x) y h
      by (more {y = z} h k) = here (entity_at es x) z h

  pub is_computed : (x y : EntityUID) → Reaches (Lists es) x y → is_reached es es x y ≡ true
  is_computed x y (last h) = direct es x y ((lists_is x y).1 h)
  is_computed x y (more {y = z} h r) = through es x z y (goes_on z y r) (direct es x z ((lists_is x z).1 h)) (is_computed z y r)

  joined : (x y z : EntityUID) → Reaches (Lists es) x y → Reaches (Lists es) y z → Reaches (Lists es) x z
  joined x y z (last h) r = more h r
  joined x y z (more {y = w} h k) r = more h (joined w y z k r)

  pub is_right : (between : List StoredEntity) (x y : EntityUID) → is_reached es between x y ≡ true → Reaches (Lists es) x y
  is_right [] x y h = last ((lists_is x y).0 h)
  is_right (e ∷ between) x y h = by (or_cases (is_reached es between x y) _ h) (is_right between)
    where
      by : (is_reached es between x y ≡ true) ⊎ ((is_reached es between x e.uid && is_reached es between e.uid y) ≡ true) → ((x y : EntityUID) → is_reached es between x y ≡ true → Reaches (Lists es) x y) → Reaches (Lists es) x y
      by (inl k) later = later x y k
      by (inr k) later =
          let p = and_parts_of (is_reached es between x e.uid) (is_reached es between e.uid y) k in joined x e.uid y (later x e.uid p.0) (later e.uid y p.1)

-- an id that an entity lists is among those that are listed
pub is_listed : (es : List StoredEntity) (x y : EntityUID) → lists es x y ≡ true → has uid_cmp (listed_ids es) y ≡ true
is_listed [] x y h = absurd (cc)
is_listed (e ∷ es) x y h = by (is_named x e) h (is_listed es x y)
  where
    by : (b : Bool) → option_map_or (λ e. has uid_cmp e.ancestors y) (cond b (Some e) (entity_at es x)) false ≡ true → (lists es x y ≡ true → has uid_cmp (listed_ids es) y ≡ true) → has uid_cmp (listed_ids (e ∷ es)) y ≡ true
    by true k later = has_placed e.ancestors (listed_ids es) y k
    by false k later = has_rest e.ancestors (listed_ids es) y (later k)

-- so is each that is reached
pub reached_listed : (es : List StoredEntity) (x y : EntityUID) → Reaches (Lists es) x y → has uid_cmp (listed_ids es) y ≡ true
reached_listed es x y (last h) = is_listed es x y ((lists_is es x y).1 h)
reached_listed es x y (more {y = z} h r) = reached_listed es z y r

-- the ids of a list that pass a test
pub passes : (p : EntityUID → Bool) (xs : List EntityUID) (y : EntityUID) → has uid_cmp (filter p xs) y ≡ true → p y ≡ true
passes p [] y h = absurd (cc)
passes p (x ∷ xs) y h = by (p x) refl h (passes p xs y)
  where
    at : (b : Bool) → is_at (uid_cmp y) x ≡ b → p x ≡ true → (b || has uid_cmp (filter p xs) y) ≡ true → (has uid_cmp (filter p xs) y ≡ true → p y ≡ true) → p y ≡ true
    at true is of k later = ap p (same_id y x is) ∙ of
    at false is of k later = later k

    by : (b : Bool) → p x ≡ b → has uid_cmp (cond b (x ∷ filter p xs) (filter p xs)) y ≡ true → (has uid_cmp (filter p xs) y ≡ true → p y ≡ true) → p y ≡ true
    by true is k later = at (is_at (uid_cmp y) x) refl is k later
    by false is k later = later k

pub stays : (p : EntityUID → Bool) (xs : List EntityUID) (y : EntityUID) → p y ≡ true → has uid_cmp xs y ≡ true → has uid_cmp (filter p xs) y ≡ true
stays p [] y of h = absurd (cc)
stays p (x ∷ xs) y of h = by (p x) refl (or_cases (is_at (uid_cmp y) x) (has uid_cmp xs y) h) (stays p xs y of)
  where
    by : (b : Bool) → p x ≡ b → (is_at (uid_cmp y) x ≡ true) ⊎ (has uid_cmp xs y ≡ true) → (has uid_cmp xs y ≡ true → has uid_cmp (filter p xs) y ≡ true) →
        has uid_cmp (cond b (x ∷ filter p xs) (filter p xs)) y ≡ true
    by true is (inl k) later = or_left_true (is_at (uid_cmp y) x) (has uid_cmp (filter p xs) y) k
    by true is (inr k) later = or_right_true (is_at (uid_cmp y) x) (has uid_cmp (filter p xs) y) (later k)
    by false is (inl k) later = let clash : true ≡ false = sym of ∙ ap p (same_id y x k) ∙ is in absurd (cc)
    by false is (inr k) later = later k
