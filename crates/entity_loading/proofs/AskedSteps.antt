-- Which ancestors are asked for.
use Rattle.std.proofs.Common.{◌≡◌, ◌⊎◌, Bool, true, false, cond, ◌&&◌, ◌||◌, List, [], ◌∷◌, ◌++◌, Option, Some, None, refl, sym, ap, ◌∙◌, subst, inl, inr}
use Rattle.std.specs.Prelude.{◌↔◌}
use Rattle.std.specs.BTreeMap.{BTreeMap, get, is_at}
use Rattle.std.specs.List.{AllByRecursion}
use Rattle.std.specs.List.Sorted.{IsStrictlySortedBy}
use Rattle.std.specs.Map.{keys_of, lookup}
use Rattle.std.specs.Ordering.{is_eq, ordering_reverse}
use Rattle.std.specs.declared.cmp.Ordering.TheVariants.{Less}
use Rattle.std.proofs.lemmas.Bool.{or_cases, false≢true}
use Rattle.std.proofs.lemmas.List.Folds.{list_any-append}
use Rattle.policy_values.specs.declared.entity_uid.EntityUID.{EntityUID}
use Rattle.policy_values.specs.Uid.{uid_cmp, uid_eq, uid_cmp_total}
use Rattle.entity_store.specs.declared.request.Request.{Request}
use Rattle.entity_store.specs.Store.{Store}
use Rattle.access_tries.specs.Paths.{address_of}
use Rattle.access_tries.specs.Table.{Table}
use Rattle.reads_spec.proofs.Lists.{same_uid, uid_self}
use Rattle.plain_lemmas.proofs.Booleans.{or_false, or_left_true, or_right_true}
use Rattle.entity_loading.specs.Names.{IsNamed}
use Rattle.entity_loading.specs.declared.place.Place.{Place}
use Rattle.entity_loader.specs.declared.loader.AncestorsRequest.{AncestorsRequest}
use Rattle.entity_loading.specs.declared.borrowed.Borrowed.{Borrowed}
use Rattle.entity_loading.specs.Lending.{view_in, borrowed_sees, AreBorrowed}
use Rattle.entity_loading.specs.Joining.{lists, asks, IsAskedFor}

module _ (ns : Table) (q : Request) (t : Store) where
  -- a trie that is borrowed for the entity names the ancestor
  abbrev pub AreNaming : List (EntityUID × Borrowed) → EntityUID → EntityUID → Type 0
  AreNaming [] x y = ⊥
  AreNaming (e ∷ es) x y = ((e.0 ≡ x) × IsNamed (view_in ns e.1) q t y) ⊎ AreNaming es x y

  later : (k : EntityUID) (es : List (EntityUID × Borrowed)) (x y : EntityUID) → AllByRecursion (λ j. uid_cmp k j ≡ Less) (keys_of es) → AreNaming es x y → uid_cmp k x ≡ Less
  later k [] x y a h = absurd h
  later k (e ∷ es) x y a (inl h) = subst (λ z. uid_cmp k z ≡ Less) h.0 a.0
  later k (e ∷ es) x y a (inr h) = later k es x y a.1 h

  naming_found : (es : List (EntityUID × Borrowed)) (x y : EntityUID) → IsStrictlySortedBy uid_cmp (keys_of es) → AreNaming es x y → (l : Borrowed) × (lookup (is_at (uid_cmp x)) es ≡ Some l) × IsNamed (view_in ns l) q t y
  unfolding IsStrictlySortedBy
  naming_found [] x y up h = absurd h
  naming_found (e ∷ es) x y up (inl h) = (e.1, ap (λ b. cond b (Some e.1) (lookup (is_at (uid_cmp x)) es)) (subst (λ z. uid_eq x z ≡ true) (sym h.0) (uid_self x)), h.1)
  naming_found (e ∷ es) x y up (inr h) =
      let r = naming_found es x y up.1 h in
      let after = uid_cmp_total.antisymm x e.0 ∙ ap ordering_reverse (later e.0 es x y up.0 h) in
      (r.0, ap (λ b. cond b (Some e.1) (lookup (is_at (uid_cmp x)) es)) (ap is_eq after) ∙ r.1, r.2)

  naming_from : (es : List (EntityUID × Borrowed)) (x y : EntityUID) (l : Borrowed) → lookup (is_at (uid_cmp x)) es ≡ Some l → IsNamed (view_in ns l) q t y → AreNaming es x y
  naming_from [] x y l h n = absurd (cc)
  naming_from (e ∷ es) x y l h n = by (uid_eq x e.0) refl h (naming_from es x y l)
    where
      by : (b : Bool) → uid_eq x e.0 ≡ b → cond b (Some e.1) (lookup (is_at (uid_cmp x)) es) ≡ Some l → (lookup (is_at (uid_cmp x)) es ≡ Some l → IsNamed (view_in ns l) q t y → AreNaming es x y) → AreNaming (e ∷ es) x y
      by true f g ih = let same : e.1 ≡ l = cc in inl (sym (same_uid x e.0 f), subst (λ z. IsNamed (view_in ns z) q t y) (sym same) n)
      by false f g ih = inr (ih g n)

  -- what was pushed, and what is left, ask for what the places do
  abbrev pub IsAsking : List Place → List AncestorsRequest → List (EntityUID × Borrowed) → Type 0
  IsAsking ps rs es = (x y : EntityUID) → ((asks rs x y ≡ true) ⊎ AreNaming es x y) ↔ IsAskedFor ns q ps t x y

  pub asking_start : (ps : List Place) (borrowed : BTreeMap EntityUID Borrowed) → IsStrictlySortedBy uid_cmp (keys_of borrowed.entries) → AreBorrowed ns ps borrowed → IsAsking ps [] borrowed.entries
  asking_start ps borrowed up a x y = (to, from)
    where
      to : (asks [] x y ≡ true) ⊎ AreNaming borrowed.entries x y → IsAskedFor ns q ps t x y
      to (inl h) = absurd (false≢true h)
      to (inr h) =
          let r = naming_found borrowed.entries x y up h in
          record { path = r.2.path; marked = sym (a.each true x (address_of r.2.path)) ∙ ap (λ o. borrowed_sees true ns o (address_of r.2.path)) r.1 ∙ r.2.marked; named = r.2.named }

      from : IsAskedFor ns q ps t x y → (asks [] x y ≡ true) ⊎ AreNaming borrowed.entries x y
      from h = inr (by (get uid_cmp borrowed x) refl (a.each true x (address_of h.path) ∙ h.marked))
        where
          by : (o : Option Borrowed) → get uid_cmp borrowed x ≡ o → borrowed_sees true ns (get uid_cmp borrowed x) (address_of h.path) ≡ true → AreNaming borrowed.entries x y
          by None e g = absurd (false≢true (sym (ap (λ o. borrowed_sees true ns o (address_of h.path)) e) ∙ g))
          by (Some l) e g = naming_from borrowed.entries x y l e (record { path = h.path; marked = sym (ap (λ o. borrowed_sees true ns o (address_of h.path)) e) ∙ g; named = h.named })

  module _ (ps : List Place) (rs : List AncestorsRequest) (rest more : List (EntityUID × Borrowed)) (e : EntityUID × Borrowed) (ids : List EntityUID) (s : rest ≡ e ∷ more) (named : (y : EntityUID) → (lists ids y ≡ true) ↔ IsNamed (view_in ns e.1) q t y) (w : IsAsking ps rs rest) where
    all : (x y : EntityUID) → ((asks rs x y ≡ true) ⊎ AreNaming (e ∷ more) x y) ↔ IsAskedFor ns q ps t x y
    all = subst (λ es. IsAsking ps rs es) s w

    pub asking_taken : (r : AncestorsRequest) (now : List AncestorsRequest) → now ≡ rs ++ r ∷ [] → r.entity_id ≡ e.0 → r.ancestors.items ≡ ids → IsAsking ps now more
    asking_taken r now p is items x y = (to, from)
      where
        is_asks : asks now x y ≡ (asks rs x y || (uid_eq e.0 x && lists ids y))
        is_asks =
            ap (λ z. asks z x y) p ∙ list_any-append (λ z. uid_eq z.entity_id x && lists z.ancestors.items y) rs (r ∷ [])
            ∙ ap (λ b. asks rs x y || b) (or_false (uid_eq r.entity_id x && lists r.ancestors.items y)) ∙ (λ i. asks rs x y || (uid_eq (is i) x && lists (items i) y))

        first : (asks rs x y ≡ true) ⊎ ((uid_eq e.0 x && lists ids y) ≡ true) → IsAskedFor ns q ps t x y
        first (inl i) = (all x y).0 (inl i)
        first (inr i) = let b = parts (uid_eq e.0 x) (lists ids y) i in (all x y).0 (inr (inl (same_uid e.0 x b.0, (named y).0 b.1)))
          where
            parts : (a b : Bool) → (a && b) ≡ true → (a ≡ true) × (b ≡ true)
            parts true b h = (refl, h)
            parts false b h = absurd (false≢true h)

        to : (asks now x y ≡ true) ⊎ AreNaming more x y → IsAskedFor ns q ps t x y
        to (inl h) = first (or_cases (asks rs x y) (uid_eq e.0 x && lists ids y) (sym is_asks ∙ h))
        to (inr h) = (all x y).0 (inr (inr h))

        here : (e.0 ≡ x) → lists ids y ≡ true → (uid_eq e.0 x && lists ids y) ≡ true
        here same h = λ i. (subst (λ z. uid_eq e.0 z ≡ true) same (uid_self e.0)) i && h i

        back : (asks rs x y ≡ true) ⊎ AreNaming (e ∷ more) x y → (asks now x y ≡ true) ⊎ AreNaming more x y
        back (inl i) = inl (is_asks ∙ or_left_true (asks rs x y) (uid_eq e.0 x && lists ids y) i)
        back (inr (inl i)) = inl (is_asks ∙ or_right_true (asks rs x y) (uid_eq e.0 x && lists ids y) (here i.0 ((named y).1 i.1)))
        back (inr (inr i)) = inr i

        from : IsAskedFor ns q ps t x y → (asks now x y ≡ true) ⊎ AreNaming more x y
        from h = back ((all x y).1 h)

    pub asking_skipped : ids ≡ [] → IsAsking ps rs more
    asking_skipped none x y = (to, λ h. back ((all x y).1 h))
      where
        to : (asks rs x y ≡ true) ⊎ AreNaming more x y → IsAskedFor ns q ps t x y
        to (inl h) = (all x y).0 (inl h)
        to (inr h) = (all x y).0 (inr (inr h))

        back : (asks rs x y ≡ true) ⊎ AreNaming (e ∷ more) x y → (asks rs x y ≡ true) ⊎ AreNaming more x y
        back (inl i) = inl i
        back (inr (inl i)) = absurd (false≢true (sym (ap (λ z. lists z y) none) ∙ (named y).1 i.1))
        back (inr (inr i)) = inr i

  pub asking_done : (ps : List Place) (rs : List AncestorsRequest) (rest : List (EntityUID × Borrowed)) → rest ≡ [] → IsAsking ps rs rest → (x y : EntityUID) → (asks rs x y ≡ true) ↔ IsAskedFor ns q ps t x y
  asking_done ps rs rest none w x y = (λ h. (all x y).0 (inl h), λ h. back ((all x y).1 h))
    where
      all : (x y : EntityUID) → ((asks rs x y ≡ true) ⊎ AreNaming [] x y) ↔ IsAskedFor ns q ps t x y
      all = subst (λ es. IsAsking ps rs es) none w

      back : (asks rs x y ≡ true) ⊎ ⊥ → asks rs x y ≡ true
      back (inl i) = i
      back (inr i) = absurd i
