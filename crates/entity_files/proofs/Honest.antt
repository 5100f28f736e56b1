-- Answers by what was looked up are those by the whole store.
use Rattle.std.proofs.Common.{◌≡◌, Bool, true, false, List, [], ◌∷◌, Option, Some, None, Result, Ok, Err, IfOk, refl, sym, ap, ◌∙◌, subst}
use Rattle.std.specs.Prelude.{Contains, IsSomeAnd, filter}
use Rattle.std.specs.BTreeSet.{BTreeSet, contains}
use Rattle.std.specs.List.{AllByRecursion, AllZip, list_all}
use Rattle.std.specs.Option.{option_map, option_map_or}
use Rattle.std.proofs.lemmas.List.Elements.{All-contains, All-from_recursion}
use Rattle.plain_lemmas.proofs.Booleans.{and_parts_of}
use Rattle.std.specs.declared.vec.Vec.{Vec}
use Rattle.std.specs.declared.alloc.Global.{Global}
use Rattle.access_tries.specs.Views.{ViewData}
use Rattle.policy_values.specs.declared.entity_uid.EntityUID.{EntityUID}
use Rattle.policy_values.specs.Uid.{uid_cmp}
use Rattle.reads_spec.specs.Restrict.{cut_entity}
use Rattle.entity_store.specs.FromParents.{without_links}
use Rattle.entity_store.specs.Store.{StoredEntity, Store, entity_at}
use Rattle.entity_loader.specs.declared.loader.EntityRequest.{EntityRequest}
use Rattle.entity_loader.specs.declared.loader.AncestorsRequest.{AncestorsRequest}
use Rattle.entity_loader.specs.Answers.{IsHonest, IsHonestList}
use Rattle.entity_loader.specs.Asked.{asked}
use Rattle.entity_files.specs.Fetched.{AreKnown, is_whole}

empty : (xs : List EntityUID) → filter (λ y. false) xs ≡ []
empty [] = refl
empty (x ∷ xs) = empty xs

-- what is asked leaves no ancestors, whatever they are
cut_alike : (t : ViewData) (e f : StoredEntity) → without_links e ≡ without_links f → cut_entity (asked t) e ≡ cut_entity (asked t) f
cut_alike t e f same = cleared e ∙ ap (cut_entity (asked t)) same ∙ sym (cleared f)
  where
    cleared : (g : StoredEntity) → cut_entity (asked t) g ≡ cut_entity (asked t) (without_links g)
    cleared g = ap (λ l. record (cut_entity (asked t) g) { ancestors = l }) (empty g.ancestors)

-- an answer by what is but for ancestors the entity of the whole store is one by the whole store
honest_alike : (s w : Store) (r : EntityRequest) (a : Option StoredEntity) → option_map without_links (entity_at s r.entity_id) ≡ option_map without_links (entity_at w r.entity_id) → IsHonest true s r a → IsHonest true w r a
honest_alike s w r None same h = none (entity_at w r.entity_id) (sym same ∙ ap (option_map without_links) h)
  where
    none : (o : Option StoredEntity) → option_map without_links o ≡ None → o ≡ None
    none None k = refl
    none (Some e) k = absurd (cc)
honest_alike s w r (Some e) same h = some (entity_at w r.entity_id) refl (sym same ∙ ap (option_map without_links) h.at)
  where
    some : (o : Option StoredEntity) → entity_at w r.entity_id ≡ o → option_map without_links o ≡ Some (without_links h.stored) → IsHonest true w r (Some e)
    some None is k = absurd (cc)
    some (Some f) is k =
        let cut : e ≡ cut_entity (asked r.access_trie) f = h.exactly refl ∙ cut_alike r.access_trie h.stored f (sym (inside k)) in
        record { stored = f; at = is; keep = asked r.access_trie; is = cut; chains = λ c there. there; tags = λ c there. there; exactly = λ _. cut }
      where
        inside : Some (without_links f) ≡ Some (without_links h.stored) → without_links f ≡ without_links h.stored
        inside k = cc

list_alike : (exact : Bool) (s w : Store) (r : AncestorsRequest) (ys : Vec EntityUID Global) → entity_at s r.entity_id ≡ entity_at w r.entity_id → IsHonestList exact s r ys → IsHonestList exact w r ys
list_alike exact s w r ys same h = record {
  enough = λ y c k. h.enough y c (subst (λ o. IsSomeAnd o (λ e. Contains e.ancestors y)) (sym same) k);
  given = λ y c. subst (λ o. IsSomeAnd o (λ e. Contains e.ancestors y)) same (h.given y c);
  exactly = h.exactly;
}

zip_where : {X Y : Type 0} (f : X → Bool) (R S : X → Y → Type 0) → ((x : X) (y : Y) → f x ≡ true → R x y → S x y) → (xs : List X) (ys : List Y) → list_all f xs ≡ true → AllZip R xs ys → AllZip S xs ys
zip_where f R S step [] [] all h = tt
zip_where f R S step [] (y ∷ ys) all h = absurd h
zip_where f R S step (x ∷ xs) [] all h = absurd h
zip_where f R S step (x ∷ xs) (y ∷ ys) all h =
    let p = and_parts_of (f x) (list_all f xs) all in
    (step x y p.0 h.0, zip_where f R S step xs ys p.1 h.1)

all_listed : (p : EntityUID → Bool) (xs : List EntityUID) → list_all p xs ≡ true → (y : EntityUID) → Contains xs y → p y ≡ true
all_listed p xs h y c = All-contains (λ x. p x ≡ true) xs y (All-from_recursion (λ x. p x ≡ true) xs (each xs h)) c
  where
    each : (xs : List EntityUID) → list_all p xs ≡ true → AllByRecursion (λ x. p x ≡ true) xs
    each [] h = tt
    each (x ∷ xs) h = let both = and_parts_of (p x) (list_all p xs) h in (both.0, each xs both.1)

-- where the ancestors of an entity were looked up, each that it lists was
above_seen : (p : EntityUID → Bool) (o : Option StoredEntity) → option_map_or (λ e. list_all p e.ancestors) o true ≡ true → (y : EntityUID) → IsSomeAnd o (λ e. Contains e.ancestors y) → p y ≡ true
above_seen p None h y c = absurd c
above_seen p (Some e) h y c = all_listed p e.ancestors h y c

module _ (told : Option Store) (s w : Store) (seen : BTreeSet EntityUID) (known : AreKnown told seen s) (is : told ≡ Some w) where
  pub honest_if : {E : Type 0} (rs : List EntityRequest) → list_all (λ r. contains uid_cmp seen r.entity_id) rs ≡ true → (r : Result (Vec (Option StoredEntity) Global) E) →
      IfOk r (λ found. AllZip (IsHonest true s) rs found.items) → IfOk r (λ found. AllZip (IsHonest true w) rs found.items)
  honest_if rs all (Ok found) h = zip_where (λ r. contains uid_cmp seen r.entity_id) (IsHonest true s) (IsHonest true w) (λ r a at. honest_alike s w r a (known w is r.entity_id at).0) rs found.items all h
  honest_if rs all (Err e) h = tt

  same_whole : (u : EntityUID) → is_whole seen s u ≡ true → entity_at s u ≡ entity_at w u
  same_whole u h =
      let p = and_parts_of (contains uid_cmp seen u) (option_map_or (λ e. list_all (contains uid_cmp seen) e.ancestors) (entity_at s u) true) h in
      (known w is u p.0).1 (above_seen (contains uid_cmp seen) (entity_at s u) p.1)

  pub lists_if : {E : Type 0} (rs : List AncestorsRequest) → list_all (λ r. is_whole seen s r.entity_id) rs ≡ true → (r : Result (Vec (Vec EntityUID Global) Global) E) →
      IfOk r (λ found. AllZip (IsHonestList true s) rs found.items) → IfOk r (λ found. AllZip (IsHonestList true w) rs found.items)
  lists_if rs all (Ok found) h = zip_where (λ r. is_whole seen s r.entity_id) (IsHonestList true s) (IsHonestList true w) (λ r ys at. list_alike true s w r ys (same_whole r.entity_id at)) rs found.items all h
  lists_if rs all (Err e) h = tt
