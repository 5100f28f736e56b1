-- The schema that is arranged from a listing says what the listing says.
use Rattle.std.proofs.Common.{◌≡◌, ℕ, Bool, true, false, cond, List, [], ◌∷◌, map, Option, Some, None, is_some, refl, sym, ◌∙◌, ap}
use Rattle.std.specs.List.{AllByRecursion, find}
use Rattle.std.specs.List.Sorted.{IsStrictlySortedBy}
use Rattle.std.specs.Option.{option_map, option_map_or, IfSome}
use Rattle.std.specs.Ordering.{is_eq}
use Rattle.std.specs.declared.cmp.Ordering.{Ordering}
use Rattle.std.specs.Map.{keys_of}
use Rattle.std.specs.BTreeSet.{BTreeSet}
use Rattle.std.proofs.lemmas.Bool.{false≢true}
use Rattle.std.proofs.lemmas.List.Elements.{All-from_recursion}
use Rattle.std.proofs.lemmas.Map.Lookups.{CmpEqualImpliesEq, exact_bytes}
use Rattle.std.proofs.lemmas.Map.Views.{tells_apart}
use Rattle.policy_values.specs.Reaches.{at, has}
use Rattle.policy_values.specs.declared.entity_uid.EntityUID.{EntityUID}
use Rattle.policy_values.specs.Uid.{text_cmp, uid_cmp, exact_uid}
use Rattle.schema_core.specs.declared.listing.Listing.{Listing}
use Rattle.schema_core.specs.KindView.{kind_of}
use Rattle.schema_core.specs.Schema.{TypeData, ActionData, SchemaData, type_at, action_at}
use Rattle.schema_core.specs.Outline.{outline_of, HasSoundNames, HasSoundTypes, IsClosed}
use Rattle.schema_core.specs.Faults.{HasSets, IsSchema}
use Rattle.schema_core.specs.Listing.{listed_outline, HasAscending, IsListing}
use Rattle.schema_core.specs.Arranged.{arranged_type, arranged_action, keys_found}
use Rattle.schema_core.proofs.Actions.{same_outline}
use Rattle.schema_core.proofs.Kept.{as_it_is}

-- what is made of the entries of a map, under its keys
module _ {A V D : Type 0} {cmp : A → A → Ordering} (exact : CmpEqualImpliesEq cmp) (make : A × V → D) (name : D → A) (named : (e : A × V) → name (make e) ≡ e.0) where
  found_made : (q : A) (es : List (A × V)) → find (λ d. is_eq (cmp q (name d))) (map make es) ≡ option_map (λ v. make (q, v)) (at cmp es q)
  found_made q [] = refl
  found_made q (e ∷ es) = rw (named e) (by_test (is_eq (cmp q e.0)) refl (found_made q es)) where
    by_test : (b : Bool) → is_eq (cmp q e.0) ≡ b → find (λ d. is_eq (cmp q (name d))) (map make es) ≡ option_map (λ v. make (q, v)) (at cmp es q)
        → cond b (Some (make e)) (find (λ d. is_eq (cmp q (name d))) (map make es)) ≡ option_map (λ v. make (q, v)) (cond b (Some e.1) (at cmp es q))
    by_test true same later = ap (λ k. Some (make (k, e.1))) (sym (tells_apart exact q e.0 same))
    by_test false other later = later

  names_made : (es : List (A × V)) → map name (map make es) ≡ keys_of es
  names_made [] = refl
  names_made (e ∷ es) = λ i. named e i ∷ names_made es i

all_made : {E D : Type 0} (make : E → D) (P : D → Type 0) → ((e : E) → P (make e)) → (es : List E) → AllByRecursion P (map make es)
all_made make P holds [] = tt
all_made make P holds (e ∷ es) = (holds e, all_made make P holds es)

keys_ascend : {A K : Type 0} (cmp_a : A → A → Ordering) (cmp : K → K → Ordering) (sets : List (A × BTreeSet K)) → HasAscending cmp_a cmp sets → (u : A) → IsStrictlySortedBy cmp (keys_found cmp_a sets u)
unfolding IsStrictlySortedBy
keys_ascend cmp_a cmp sets all u = elim (at cmp_a sets u) as (λ r. IfSome r (λ s. IsStrictlySortedBy cmp s.keys) → IsStrictlySortedBy cmp (option_map_or (λ s. s.keys) r [])) [ None ↦ λ _. tt | Some s ↦ λ h. h ] (all u)

-- what is listed at a name, where all names have a value and a set
listed_made : {K V D : Type 0} (cmp : K → K → Ordering) (make : V → D) (part : D → List K) (r : Option V) (s : Option (BTreeSet K)) (y : K) → is_some r ≡ is_some s
    → ((v : V) → part (make v) ≡ option_map_or (λ x. x.keys) s []) → option_map_or (λ d. has cmp (part d) y) (option_map make r) false ≡ option_map_or (λ x. has cmp x.keys y) s false
listed_made cmp make part None None y h is = refl
listed_made cmp make part None (Some s) y h is = absurd (false≢true h)
listed_made cmp make part (Some v) None y h is = absurd (false≢true (sym h))
listed_made cmp make part (Some v) (Some s) y h is = ap (λ ks. has cmp ks y) (is v)

there : {V D : Type 0} (make : V → D) (r : Option V) → is_some (option_map make r) ≡ is_some r
there make None = refl
there make (Some v) = refl

seen : {V D W : Type 0} (make : V → D) (part : D → W) (view : V → W) → ((v : V) → part (make v) ≡ view v) → (r : Option V) → option_map part (option_map make r) ≡ option_map view r
seen make part view is None = refl
seen make part view is (Some v) = ap Some (is v)

-- the data of a listing
abbrev pub data_of : Listing → SchemaData
data_of l = record {
  entity_types = map (arranged_type l.types.entries) l.kinds.entries;
  action_ids = map (arranged_action l.actions.entries l.principals.entries l.resources.entries) l.contexts.entries;
}

module _ (l : Listing) (t : IsListing l) where
  types : (x : List ℕ) → type_at (data_of l) x ≡ option_map (λ k. arranged_type l.types.entries (x, k)) (at text_cmp l.kinds.entries x)
  types x = found_made exact_bytes (arranged_type l.types.entries) (λ (d : TypeData). d.name) (λ e. refl) x l.kinds.entries

  actions : (u : EntityUID) → action_at (data_of l) u ≡ option_map (λ c. arranged_action l.actions.entries l.principals.entries l.resources.entries (u, c)) (at uid_cmp l.contexts.entries u)
  actions u = found_made exact_uid (arranged_action l.actions.entries l.principals.entries l.resources.entries) (λ (d : ActionData). d.name) (λ e. refl) u l.contexts.entries

  pub shown_outline : outline_of (data_of l) ≡ listed_outline l
  shown_outline =
      same_outline (outline_of (data_of l)) (listed_outline l)
      (λ x. ap is_some (types x) ∙ there _ (at text_cmp l.kinds.entries x) ∙ t.with_kinds x)
      (λ x y. ap (λ r. option_map_or (λ (d : TypeData). has text_cmp d.descendants y) r false) (types x) ∙ listed_made text_cmp _ (λ d. d.descendants) (at text_cmp l.kinds.entries x) (at text_cmp l.types.entries x) y (t.with_kinds x) (λ v. refl))
      (λ u. ap is_some (actions u) ∙ there _ (at uid_cmp l.contexts.entries u) ∙ t.with_contexts u)
      (λ u v. ap (λ r. option_map_or (λ (d : ActionData). has uid_cmp d.descendants v) r false) (actions u) ∙ listed_made uid_cmp _ (λ d. d.descendants) (at uid_cmp l.contexts.entries u) (at uid_cmp l.actions.entries u) v (t.with_contexts u) (λ w. refl))
      (λ u y. ap (λ r. option_map_or (λ (d : ActionData). has text_cmp d.principals y) r false) (actions u) ∙ listed_made text_cmp _ (λ d. d.principals) (at uid_cmp l.contexts.entries u) (at uid_cmp l.principals.entries u) y (t.with_contexts u ∙ sym (t.with_principals u)) (λ w. refl))
      (λ u y. ap (λ r. option_map_or (λ (d : ActionData). has text_cmp d.resources y) r false) (actions u) ∙ listed_made text_cmp _ (λ d. d.resources) (at uid_cmp l.contexts.entries u) (at uid_cmp l.resources.entries u) y (t.with_contexts u ∙ sym (t.with_resources u)) (λ w. refl))
      (λ x. ap (option_map (λ (d : TypeData). d.kind)) (types x) ∙ seen _ (λ d. d.kind) kind_of (λ v. refl) (at text_cmp l.kinds.entries x))
      (λ u. ap (option_map (λ (d : ActionData). d.context)) (actions u) ∙ seen _ (λ d. d.context) (λ c. c) (λ v. refl) (at uid_cmp l.contexts.entries u) ∙ as_it_is (at uid_cmp l.contexts.entries u))

  pub shown_schema : IsStrictlySortedBy text_cmp (keys_of l.kinds.entries) → IsStrictlySortedBy uid_cmp (keys_of l.contexts.entries) → HasSoundNames (listed_outline l) → IsClosed (listed_outline l) → HasSoundTypes (listed_outline l) → IsSchema (data_of l)
  shown_schema ts us names closed inside = record {
    types_ascend = rw (names_made exact_bytes (arranged_type l.types.entries) (λ (d : TypeData). d.name) (λ e. refl) l.kinds.entries) ts;
    actions_ascend = rw (names_made exact_uid (arranged_action l.actions.entries l.principals.entries l.resources.entries) (λ (d : ActionData). d.name) (λ e. refl) l.contexts.entries) us;
    type_sets = All-from_recursion (λ (a : TypeData). IsStrictlySortedBy text_cmp a.descendants) (data_of l).entity_types (all_made (arranged_type l.types.entries) _ (λ e. keys_ascend text_cmp text_cmp l.types.entries t.types e.0) l.kinds.entries);
    action_sets = All-from_recursion HasSets (data_of l).action_ids (all_made (arranged_action l.actions.entries l.principals.entries l.resources.entries) HasSets (λ e. record {
      principals = keys_ascend uid_cmp text_cmp l.principals.entries t.principals e.0;
      resources = keys_ascend uid_cmp text_cmp l.resources.entries t.resources e.0;
      descendants = keys_ascend uid_cmp uid_cmp l.actions.entries t.actions e.0;
    }) l.contexts.entries);
    names = rw shown_outline names;
    closed = rw shown_outline closed;
    types = rw shown_outline inside;
  }
