-- Honest answers to the requests for places.
use Rattle.std.proofs.Common.{◌≡◌, Bool, true, false, cond, ◌||◌, List, [], ◌∷◌, map, Option, Some, None, is_some, refl, sym, ap, ◌∙◌, subst, ◌⊎◌, inl, inr}
use Rattle.std.specs.BTreeMap.{BTreeMap, get, is_at}
use Rattle.std.specs.List.{list_any, AllByRecursion}
use Rattle.std.specs.Map.{lookup}
use Rattle.std.proofs.lemmas.Bool.{false≢true}
use Rattle.policy_values.specs.declared.entity_uid.EntityUID.{EntityUID}
use Rattle.policy_values.specs.Uid.{uid_cmp, uid_eq}
use Rattle.entity_store.specs.Store.{Store}
use Rattle.reads_spec.proofs.Lists.{same_uid, uid_self}
use Rattle.reads_spec.proofs.Order.{cases}
use Rattle.access_tries.specs.Table.{Table}
use Rattle.entity_loading.specs.declared.place.Place.{Place}
use Rattle.entity_loader.specs.Answers.{IsHonest}
use Rattle.entity_loader.specs.declared.loader.EntityRequest.{EntityRequest}
use Rattle.entity_loading.specs.declared.borrowed.Borrowed.{Borrowed}
use Rattle.entity_loading.specs.Answering.{AreHonest}
use Rattle.entity_loading.specs.Keeping.{Found}
use Rattle.entity_loading.specs.Lending.{view_in, borrowed_sees, AreBorrowed, request_of}
use Rattle.entity_loading.specs.Rounds.{AsksFor, AreHonestAt}

module _ (ns : Table) where
  -- what holds of all requests holds of the one for an id
  request_at : (P : EntityRequest → Type 0) (x : EntityUID) (l : Borrowed) (es : List (EntityUID × Borrowed)) → lookup (is_at (uid_cmp x)) es ≡ Some l → AllByRecursion P (map (request_of ns) es) → P (record { entity_id = x; access_trie = view_in ns l })
  request_at P x l [] h all = absurd (cc)
  request_at P x l (e ∷ es) h all = by (uid_eq x e.0) refl h (request_at P x l es)
    where
      by : (b : Bool) → uid_eq x e.0 ≡ b → cond b (Some e.1) (lookup (is_at (uid_cmp x)) es) ≡ Some l → (lookup (is_at (uid_cmp x)) es ≡ Some l → AllByRecursion P (map (request_of ns) es) → P (record { entity_id = x; access_trie = view_in ns l })) → P (record { entity_id = x; access_trie = view_in ns l })
      by true f g ih = let same : e.1 ≡ l = cc in subst (λ k. P (record { entity_id = x; access_trie = view_in ns k })) same (subst (λ z. P (record { entity_id = z; access_trie = view_in ns e.1 })) (sym (same_uid x e.0 f)) all.0)
      by false f g ih = ih g all.1

  swapped : (x y : EntityUID) → uid_eq x y ≡ false → uid_eq y x ≡ false
  swapped x y h = by (cases (uid_eq y x))
    where
      by : (uid_eq y x ≡ true) ⊎ (uid_eq y x ≡ false) → uid_eq y x ≡ false
      by (inl i) = absurd (false≢true (sym h ∙ subst (λ z. uid_eq x z ≡ true) (sym (same_uid y x i)) (uid_self x)))
      by (inr i) = i

  not_requested : (x : EntityUID) (es : List (EntityUID × Borrowed)) → lookup (is_at (uid_cmp x)) es ≡ None → list_any (λ r. uid_eq r.entity_id x) (map (request_of ns) es) ≡ false
  not_requested x [] h = refl
  not_requested x (e ∷ es) h = by (uid_eq x e.0) refl h (not_requested x es)
    where
      by : (b : Bool) → uid_eq x e.0 ≡ b → cond b (Some e.1) (lookup (is_at (uid_cmp x)) es) ≡ None → (lookup (is_at (uid_cmp x)) es ≡ None → list_any (λ r. uid_eq r.entity_id x) (map (request_of ns) es) ≡ false) → (uid_eq e.0 x || list_any (λ r. uid_eq r.entity_id x) (map (request_of ns) es)) ≡ false
      by true f g ih = absurd (cc)
      by false f g ih = (λ i. swapped x e.0 f i || ih g i)

  pub are_answers : (exact : Bool) (s : Store) (ps : List Place) (borrowed : BTreeMap EntityUID Borrowed) (rs : List EntityRequest) (found : Found) → AreBorrowed ns ps borrowed → rs ≡ map (request_of ns) borrowed.entries → AreHonest exact s rs found → AreHonestAt exact s ns ps found
  are_answers exact s ps borrowed rs found l e h = record {
    each = λ x asked. seen x (get uid_cmp borrowed x) refl (l.some x ∙ asked);
    others = λ x not_asked. h.others x (ap (list_any (λ r. uid_eq r.entity_id x)) e ∙ not_requested x borrowed.entries (none (get uid_cmp borrowed x) (l.some x ∙ not_asked)));
  }
    where
      none : (o : Option Borrowed) → is_some o ≡ false → o ≡ None
      none None g = refl
      none (Some k) g = absurd (false≢true (sym g))

      seen : (x : EntityUID) (o : Option Borrowed) → get uid_cmp borrowed x ≡ o → is_some (get uid_cmp borrowed x) ≡ true → (r : EntityRequest) × AsksFor ns ps x r × IsHonest exact s r (found x)
      seen x None f g = absurd (false≢true (ap is_some (sym f) ∙ g))
      seen x (Some k) f g = (
        record { entity_id = x; access_trie = view_in ns k },
        record { id = refl; each = λ b a. ap (λ o. borrowed_sees b ns o a) (sym f) ∙ l.each b x a },
        request_at (λ r. IsHonest exact s r (found r.entity_id)) x k borrowed.entries f (subst (AllByRecursion (λ r. IsHonest exact s r (found r.entity_id))) e h.each),
      )
