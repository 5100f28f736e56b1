-- Entities put under their ids one after another, where no id is repeated.
use Rattle.std.proofs.Common.{map, ◌≡◌, Bool, true, false, cond, List, [], ◌∷◌, ◌++◌, Option, Some, None, Contains, inr, append_assoc, refl, sym, ◌∙◌, ap}
use Rattle.std.specs.Option.{option_map, option_or}
use Rattle.std.specs.Ordering.{is_eq}
use Rattle.std.specs.BTreeMap.{BTreeMap, get}
use Rattle.std.specs.BTreeSet.{BTreeSet}
use Rattle.std.proofs.lemmas.Cmp.{eq_by_cmp_equiv}
use Rattle.std.proofs.lemmas.List.{map-append, append-nil}
use Rattle.std.proofs.lemmas.List.Elements.{Contains-append_left, Contains-append_right, Contains-push}
use Rattle.std.proofs.lemmas.List.Folds.{find-append}
use Rattle.std.proofs.lemmas.Map.Views.{tells_apart}
use Rattle.policy_values.specs.Reaches.{at}
use Rattle.policy_values.specs.Repeated.{IsRepeated}
use Rattle.policy_values.proofs.Repeated.{repeated_append, repeated_push}
use Rattle.policy_values.specs.declared.entity_uid.EntityUID.{EntityUID}
use Rattle.policy_values.specs.Uid.{uid_cmp, uid_cmp_total, exact_uid}
use Rattle.entity_store.specs.Store.{StoredEntity, is_named, entity_at}
use Rattle.entity_store.specs.FromParents.{ids_of}
use Rattle.entity_store.specs.Entries.{AreStored}
use Rattle.entity_store.specs.Linked.{linked}

absent : (es : List StoredEntity) (q : EntityUID) → (Contains (ids_of es) q → ⊥) → entity_at es q ≡ None
absent [] q out = refl
absent (e ∷ es) q out = by_test (is_named q e) refl (absent es q (λ there. out (Contains-append_right (e.uid ∷ []) (ids_of es) q there))) where
  by_test : (b : Bool) → is_named q e ≡ b → entity_at es q ≡ None → cond b (Some e) (entity_at es q) ≡ None
  by_test true same later = absurd (out (Contains-append_left (e.uid ∷ []) (ids_of es) q (rw (tells_apart exact_uid q e.uid same) (Contains-push [] e.uid))))
  by_test false other later = later

-- at each id the map has what f makes of the entity with that id
pub record IsPlaced {V : Type 0} (f : StoredEntity → V) (es : List StoredEntity) (entries : List (EntityUID × V)) : Type 0 where
  pub at : (q : EntityUID) → at uid_cmp entries q ≡ option_map f (entity_at es q)

module _ (es : List StoredEntity) (once : (q : EntityUID) → IsRepeated (ids_of es) q → ⊥) (front : List StoredEntity) (e : StoredEntity) (rest : List StoredEntity) (split : es ≡ (front ++ e ∷ []) ++ rest) where
  -- no entity before has the id of the next
  pub fresh_id : entity_at front e.uid ≡ None
  fresh_id = absent front e.uid (λ there. once e.uid (rw (split, map-append (λ x. x.uid) (front ++ e ∷ []) rest, map-append (λ x. x.uid) front (e ∷ [])) (repeated_append _ (ids_of rest) e.uid ((repeated_push (ids_of front) e.uid e.uid).0 (inr (refl, there))))))

  pub placed_more : {V : Type 0} (f : StoredEntity → V) (entries entries' : List (EntityUID × V)) → IsPlaced f front entries
      → ((q : EntityUID) → at uid_cmp entries' q ≡ cond (is_eq (uid_cmp e.uid q)) (Some (f e)) (at uid_cmp entries q))
      → IsPlaced f (front ++ e ∷ []) entries'
  placed_more f entries entries' p u = record { at = λ q. by_test q (is_eq (uid_cmp e.uid q)) refl } where
    turned : (q : EntityUID) → is_named q e ≡ is_eq (uid_cmp e.uid q)
    turned q = (eq_by_cmp_equiv uid_cmp_total).symm q e.uid

    or_none : (r : Option StoredEntity) → option_map f r ≡ option_map f (option_or r None)
    or_none None = refl
    or_none (Some x) = refl

    by_test : (q : EntityUID) (b : Bool) → is_eq (uid_cmp e.uid q) ≡ b → at uid_cmp entries' q ≡ option_map f (entity_at (front ++ e ∷ []) q)
    by_test q true is =
        let none : entity_at front q ≡ None = rw (tells_apart exact_uid e.uid q is) at fresh_id in
        rw (u q, is, find-append (is_named q) front (e ∷ []), none, turned q, is) refl
    by_test q false is = rw (u q, is, find-append (is_named q) front (e ∷ []), turned q, is, p.at q) (or_none (entity_at front q))

-- linked entities have the ids that they had
pub ids_linked : (links : EntityUID → Option (BTreeSet EntityUID)) (es : List StoredEntity) → ids_of (map (linked links) es) ≡ ids_of es
ids_linked links [] = refl
ids_linked links (e ∷ es) = let later : ids_of (map (linked links) es) ≡ ids_of es = ids_linked links es in λ i. e.uid ∷ later i

pub linked_at : (links : EntityUID → Option (BTreeSet EntityUID)) (es : List StoredEntity) (q : EntityUID) → entity_at (map (linked links) es) q ≡ option_map (linked links) (entity_at es q)
linked_at links [] q = refl
linked_at links (e ∷ es) q = by_test (is_named q e) (linked_at links es q) where
  by_test : (b : Bool) → entity_at (map (linked links) es) q ≡ option_map (linked links) (entity_at es q) → cond b (Some (linked links e)) (entity_at (map (linked links) es) q) ≡ option_map (linked links) (cond b (Some e) (entity_at es q))
  by_test true later = refl
  by_test false later = later

pub linked_some : (links : EntityUID → Option (BTreeSet EntityUID)) (e : StoredEntity) (set : BTreeSet EntityUID) → links e.uid ≡ Some set → record e { ancestors = set.keys } ≡ linked links e
linked_some links e set is = rw is refl

pub linked_none : (links : EntityUID → Option (BTreeSet EntityUID)) (e : StoredEntity) → links e.uid ≡ None → e ≡ linked links e
linked_none links e is = rw is refl

-- one more of them
pub linked_more : (links : EntityUID → Option (BTreeSet EntityUID)) (front : List StoredEntity) (e : StoredEntity) (made made' : List StoredEntity) → made ≡ map (linked links) front
    → (x : StoredEntity) → x ≡ linked links e → made' ≡ made ++ x ∷ [] → made' ≡ map (linked links) (front ++ e ∷ [])
linked_more links front e made made' m x is more = more ∙ (λ i. m i ++ is i ∷ []) ∙ sym (map-append (linked links) front (e ∷ []))

-- the entities `front` were put under their ids; those of `left` were not
pub record IsFilled (es front left : List StoredEntity) (entries : BTreeMap EntityUID StoredEntity) : Type 0 where
  pub split : es ≡ front ++ left
  pub placed : IsPlaced (λ e. e) front entries.entries
  pub stored : AreStored entries

pub filled_more : (es : List StoredEntity) → ((q : EntityUID) → IsRepeated (ids_of es) q → ⊥) → (front left : List StoredEntity) (entries entries' : BTreeMap EntityUID StoredEntity)
    → IsFilled es front left entries → (e : StoredEntity) (rest : List StoredEntity) → left ≡ e ∷ rest
    → AreStored entries'
    → ((q : EntityUID) → get uid_cmp entries' q ≡ cond (is_eq (uid_cmp e.uid q)) (Some e) (get uid_cmp entries q))
    → IsFilled es (front ++ e ∷ []) rest entries'
filled_more es once front left entries entries' t e rest is stored u =
    let next : es ≡ (front ++ e ∷ []) ++ rest = t.split ∙ ap (λ l. front ++ l) is ∙ sym (append_assoc front (e ∷ []) rest) in
    record {
      split = next;
      placed = placed_more es once front e rest next (λ x. x) entries.entries entries'.entries t.placed u;
      stored = stored;
    }

-- all entities were put
module _ (es front : List StoredEntity) (entries : BTreeMap EntityUID StoredEntity) (t : IsFilled es front [] entries) where
  pub all_filled : (q : EntityUID) → get uid_cmp entries q ≡ entity_at es q
  all_filled q = t.placed.at q ∙ itself (entity_at front q) ∙ ap (λ l. entity_at l q) (sym (append-nil front) ∙ sym t.split) where
    itself : (o : Option StoredEntity) → option_map (λ e. e) o ≡ o
    itself None = refl
    itself (Some e) = refl
