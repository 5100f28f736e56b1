-- What is loaded lies between what is needed and the whole store.
use Rattle.std.proofs.Common.{◌≡◌, ◌⊎◌, ℕ, Bool, true, false, ◌&&◌, ◌||◌, List, [], ◌∷◌, ◌++◌, map, Contains, Option, Some, None, is_some, refl, sym, ap, ◌∙◌, subst, inl, inr}
use Rattle.std.specs.Prelude.{if◌then◌else◌, filter, IsSomeAnd}
use Rattle.std.specs.List.{list_any, AllByRecursion}
use Rattle.std.specs.List.Sorted.{IsStrictlySortedBy}
use Rattle.std.specs.Option.{option_map}
use Rattle.std.specs.declared.cmp.Ordering.TheVariants.{Less}
use Rattle.std.proofs.lemmas.Bool.{and_parts, and_from, or_cases, false≢true}
use Rattle.std.proofs.lemmas.List.{map-append}
use Rattle.policy_values.proofs.SameSorted.{same_values, same_sorted}
use Rattle.policy_values.specs.declared.entity_uid.EntityUID.{EntityUID}
use Rattle.policy_values.specs.Uid.{uid_cmp, uid_cmp_total, exact_uid}
use Rattle.policy_core.specs.Operators.{above}
use Rattle.entity_store.specs.declared.request.Request.{Request}
use Rattle.entity_store.specs.Store.{StoredEntity, Store, entity_at}
use Rattle.policy_values.specs.Value.{entity, Fields, no_fields, field}
use Rattle.access_tries.specs.declared.edge.Edge.TheVariants.{AnyTag, Root}
use Rattle.access_tries.specs.Edges.{Address}
use Rattle.access_tries.specs.Paths.{AccessPath, edge_of, address_of}
use Rattle.access_tries.specs.Table.{Table}
use Rattle.access_tries.specs.Views.{whole}
use Rattle.reads_spec.specs.Paths.{Step, any_tag, Chain, steps_of, Demand, beyond}
use Rattle.reads_spec.specs.Restrict.{Keep, cut, cut_fields, cut_entity, part, is_id, names_id, reach, kept_steps, kept_chain, kept_tag, by_paths, kept_ancestor, needed}
use Rattle.reads_spec.proofs.Cuts.{entity_at-part, above-part}
use Rattle.reads_spec.proofs.Lists.{IsIn, any_in, uid_self}
use Rattle.plain_lemmas.proofs.Booleans.{equal_by_both_ways, or_left_true, or_right_true}
use Rattle.reads_spec.proofs.Order.{cases, part_twice}
use Rattle.reads_spec.proofs.Words.{any_out, id_of, kept_means}
use Rattle.entity_loading.specs.Tries.{IsTrieOf}
use Rattle.entity_loading.specs.Needs.{sees, needs}
use Rattle.entity_loading.specs.declared.place.Place.{Place}
use Rattle.entity_loader.specs.Answers.{HasAncestor}
use Rattle.entity_loading.specs.Between.{IsBetween}
use Rattle.entity_loading.specs.Joining.{AreAscending, IsAskedFor, IsJoined}
use Rattle.entity_store.specs.FromParents.{without_links}
use Rattle.entity_loading.specs.KeptPart.{left, along, AreAlike, IsState}
use Rattle.entity_loading.specs.Keeping.{Found}
use Rattle.entity_loading.specs.Ordered.{HasOrder}
use Rattle.entity_loading.specs.Reached.{IsReached}
use Rattle.entity_loading.proofs.MoreSteps.{has_from, from_has}
use Rattle.entity_loading.proofs.NamedSteps.{entity_gone, names_larger}
use Rattle.entity_loading.proofs.ReachSteps.{prefix_leads}
use Rattle.entity_loading.proofs.StateSteps.{asked_reached}

-- ---- parts that ascend

all_filtered : {X : Type 0} (P : X → Type 0) (t : X → Bool) (xs : List X) → AllByRecursion P xs → AllByRecursion P (filter t xs)
all_filtered P t [] h = tt
all_filtered P t (x ∷ xs) h = by (t x) (all_filtered P t xs h.1)
  where
    by : (b : Bool) → AllByRecursion P (filter t xs) → AllByRecursion P (if b then x ∷ filter t xs else filter t xs)
    by true r = (h.0, r)
    by false r = r

sorted_filtered : (t : EntityUID → Bool) (xs : List EntityUID) → IsStrictlySortedBy uid_cmp xs → IsStrictlySortedBy uid_cmp (filter t xs)
unfolding IsStrictlySortedBy
sorted_filtered t [] h = tt
sorted_filtered t (x ∷ xs) h = by (t x) (sorted_filtered t xs h.1)
  where
    by : (b : Bool) → IsStrictlySortedBy uid_cmp (filter t xs) → IsStrictlySortedBy uid_cmp (if b then x ∷ filter t xs else filter t xs)
    by true r = (all_filtered (λ y. uid_cmp x y ≡ Less) t xs h.0, r)
    by false r = r

ids_above : (k : Keep) (u : EntityUID) (s : Store) → AllByRecursion (λ y. uid_cmp u y ≡ Less) (map (λ e. e.uid) s) → AllByRecursion (λ y. uid_cmp u y ≡ Less) (map (λ e. e.uid) (part k s))
ids_above k u [] h = tt
ids_above k u (e ∷ es) h = by (k.chains e.uid []) (ids_above k u es h.1)
  where
    by : (b : Bool) → AllByRecursion (λ y. uid_cmp u y ≡ Less) (map (λ e. e.uid) (part k es)) → AllByRecursion (λ y. uid_cmp u y ≡ Less) (map (λ e. e.uid) (if b then cut_entity k e ∷ part k es else part k es))
    by true r = (h.0, r)
    by false r = r

part_ascends : (k : Keep) (s : Store) → IsStrictlySortedBy uid_cmp (map (λ e. e.uid) s) → IsStrictlySortedBy uid_cmp (map (λ e. e.uid) (part k s))
unfolding IsStrictlySortedBy
part_ascends k [] h = tt
part_ascends k (e ∷ es) h = by (k.chains e.uid []) (part_ascends k es h.1)
  where
    by : (b : Bool) → IsStrictlySortedBy uid_cmp (map (λ e. e.uid) (part k es)) → IsStrictlySortedBy uid_cmp (map (λ e. e.uid) (if b then cut_entity k e ∷ part k es else part k es))
    by true r = (ids_above k e.uid es h.0, r)
    by false r = r

pub part_at : (k : Keep) (s : Store) (x : EntityUID) → entity_at (part k s) x ≡ left k x (entity_at s x)
part_at k s x = by (cases (k.chains x []))
  where
    by : (k.chains x [] ≡ true) ⊎ (k.chains x [] ≡ false) → entity_at (part k s) x ≡ left k x (entity_at s x)
    by (inl f) = entity_at-part k s x f ∙ sym (ap (λ b. if b then option_map (cut_entity k) (entity_at s x) else None) f)
    by (inr f) = entity_gone k s x f ∙ sym (ap (λ b. if b then option_map (cut_entity k) (entity_at s x) else None) f)

-- what is left of ascending ancestors ascends
pub left_ascends : (k : Keep) (s : Store) (f : Found) → HasOrder s → ((x : EntityUID) → f x ≡ left k x (entity_at s x)) → AreAscending f
left_ascends k s f order is x e h = by (k.chains x []) (entity_at s x) refl (sym (is x) ∙ h)
  where
    by : (b : Bool) (o : Option StoredEntity) → entity_at s x ≡ o → (if b then option_map (cut_entity k) o else None) ≡ Some e → IsStrictlySortedBy uid_cmp e.ancestors
    by true None g i = absurd (cc)
    by true (Some d) g i = let same : cut_entity k d ≡ e = cc in subst (λ z. IsStrictlySortedBy uid_cmp z.ancestors) same (sorted_filtered (k.ancestors d.uid) d.ancestors (order.each x d g).ancestors)
    by false o g i = absurd (cc)

-- ---- tags without the empty chain

abbrev with_key : (Chain → Bool) → Chain → Bool
with_key f [] = false
with_key f (n ∷ c) = f (n ∷ c)

keyed : (fs : Fields) (f : Chain → Bool) → cut_fields fs (with_key f) ≡ cut_fields fs f
keyed no_fields f = refl
keyed (field n v fs) f = let rest = keyed fs f in λ i. if f (n ∷ []) then field n (cut v (λ c. f (n ∷ c))) (rest i) else rest i

-- ---- ancestors

has_of : (s : Store) (x y : EntityUID) → above (entity_at s x) y ≡ true → HasAncestor s x y
has_of s x y h = by (entity_at s x) h
  where
    by : (o : Option StoredEntity) → above o y ≡ true → IsSomeAnd o (λ e. Contains e.ancestors y)
    by None g = absurd (false≢true g)
    by (Some e) g = has_from e.ancestors y g

above_of : (s : Store) (x y : EntityUID) → HasAncestor s x y → above (entity_at s x) y ≡ true
above_of s x y h = by (entity_at s x) h
  where
    by : (o : Option StoredEntity) → IsSomeAnd o (λ e. Contains e.ancestors y) → above o y ≡ true
    by None g = absurd g
    by (Some e) g = from_has e.ancestors y g

there_of : (s : Store) (x y : EntityUID) → above (entity_at s x) y ≡ true → is_some (entity_at s x) ≡ true
there_of s x y h = by (entity_at s x) h
  where
    by : (o : Option StoredEntity) → above o y ≡ true → is_some o ≡ true
    by None g = absurd (false≢true g)
    by (Some e) g = refl

behind_path : (p : AccessPath) (ns : List Step) → address_of (beyond p ns) ≡ address_of p ++ map edge_of ns
behind_path p ns = ap (λ es. Root p.root ∷ es) (map-append edge_of p.steps ns)

nil_right : (es : Address) → es ++ [] ≡ es
nil_right [] = refl
nil_right (e ∷ es) = ap (λ fs. e ∷ fs) (nil_right es)

-- an entity is what a choice leaves, where it is but for ancestors, and has the same ones
same_left : (k : Keep) (x : EntityUID) (d e : StoredEntity) → without_links e ≡ without_links (cut_entity k d) → e.ancestors ≡ (cut_entity k d).ancestors → e ≡ cut_entity k d
same_left k x d e h a i = record { uid = ap (λ z. z.uid) h i; attrs = ap (λ z. z.attrs) h i; ancestors = a i; tags = ap (λ z. z.tags) h i }

module _ (exact : Bool) (ns : Table) (q : Request) (s : Store) (asked : List Place) (kept new : Found) (st : IsState exact ns q s asked [] kept) (order : HasOrder s)
    (j : IsJoined exact s (IsAskedFor ns q asked (part st.part.choice s)) kept new) (alike : AreAlike new kept) (up : AreAscending new)
    (reads : List AccessPath) (demands : List Demand) (fit : IsTrieOf reads demands ns) where
  abbrev k : Keep
  k = st.part.choice

  abbrev n : Keep
  n = needed reads demands q s

  to_reached : (x : EntityUID) (cs : List Step) → kept_steps reads q s x cs ≡ true → IsReached false ns q s x (map edge_of cs)
  to_reached x cs h =
      let r = (kept_means reads q s x cs).0 h in
      record { path = r.path; reached = r.reached; passes = ap (sees false (whole ns)) (sym (behind_path r.path cs)) ∙ (fit.paths (beyond r.path cs)).1 r.read }

  from_reached : (x : EntityUID) (cs : List Step) → IsReached false ns q s x (map edge_of cs) → kept_steps reads q s x cs ≡ true
  from_reached x cs r = (kept_means reads q s x cs).1 (record { path = r.path; reached = r.reached; read = (fit.paths (beyond r.path cs)).0 (ap (sees false (whole ns)) (behind_path r.path cs) ∙ r.passes) })

  needed_reached : (b : Bool) (x : EntityUID) (a : Address) → needs b ns asked x a ≡ true → IsReached b ns q s x a
  needed_reached b x a h = st.sound.reached b x a (or_left_true (needs b ns asked x a) (needs b ns [] x a) h)

  chains : (x : EntityUID) (c : Chain) → kept_chain reads q s x c ≡ true → k.chains x c ≡ true
  chains x c h = st.part.chains x c (asked_reached ns q s asked st.complete false x (along c) (to_reached x (steps_of c) h))

  tags : (x : EntityUID) (m : List ℕ) (c : Chain) → kept_tag reads q s x (m ∷ c) ≡ true → k.tags x (m ∷ c) ≡ true
  tags x m c h = st.part.tags x m c (asked_reached ns q s asked st.complete false x (AnyTag ∷ along c) (to_reached x (any_tag ∷ steps_of c) h))

  only_chains : exact ≡ true → (x : EntityUID) (c : Chain) → k.chains x c ≡ true → kept_chain reads q s x c ≡ true
  only_chains e x c h = from_reached x (steps_of c) (needed_reached false x (along c) (st.part.only_chains e x c h))

  only_tags : exact ≡ true → (x : EntityUID) (m : List ℕ) (c : Chain) → k.tags x (m ∷ c) ≡ true → kept_tag reads q s x (m ∷ c) ≡ true
  only_tags e x m c h = from_reached x (any_tag ∷ steps_of c) (needed_reached false x (AnyTag ∷ along c) (st.part.only_tags e x m c h))

  -- ---- ancestors

  id_in : (x : EntityUID) (p : AccessPath) → list_any (is_id x) (reach s q p) ≡ true → IsIn (entity x) (reach s q p)
  id_in x p h = let a = any_out (is_id x) (reach s q p) h in subst (λ v. IsIn v (reach s q p)) (id_of a.0 x a.2) a.1

  abbrev asks_for : EntityUID → EntityUID → Demand → Bool
  asks_for x y d = list_any (is_id x) (reach s q d.0) && list_any (names_id y) (reach (part (by_paths reads q s) s) q d.1)

  demanded : (x y : EntityUID) → kept_ancestor reads demands q s x y ≡ true → IsAskedFor ns q asked (part k s) x y
  demanded x y h =
      let d = any_out (asks_for x y) demands h in
      let c = and_parts (list_any (is_id x) (reach s q d.0.0)) (list_any (names_id y) (reach (part (by_paths reads q s) s) q d.0.1)) d.2 in
      record {
        path = d.0.1;
        marked = asked_reached ns q s asked st.complete true x (address_of d.0.1) (record { path = d.0.0; reached = id_in x d.0.0 c.0; passes = (fit.asks d.0.0 d.0.1).1 d.1 });
        named = names_larger (by_paths reads q s) k chains tags s q d.0.1 y c.1;
      }

  only_demanded : exact ≡ true → (x y : EntityUID) → IsAskedFor ns q asked (part k s) x y → n.ancestors x y ≡ true
  only_demanded e x y a =
      let r = needed_reached true x (address_of a.path) a.marked in
      let prefix : IsReached false ns q s x [] = record { path = r.path; reached = r.reached; passes = ap (sees false (whole ns)) (nil_right (address_of r.path)) ∙ prefix_leads true ns 0 (address_of r.path) (address_of a.path) r.passes } in
      let d : Demand = (r.path, a.path) in
      and_from (kept_chain reads q s x []) (kept_ancestor reads demands q s x y) (from_reached x [] prefix)
      (any_in (asks_for x y) d demands ((fit.asks r.path a.path).0 r.passes)
      (and_from (list_any (is_id x) (reach s q r.path)) (list_any (names_id y) (reach (part (by_paths reads q s) s) q a.path)) (any_in (is_id x) (entity x) (reach s q r.path) r.reached (uid_self x))
      (names_larger k (by_paths reads q s) (only_chains e) (only_tags e) s q a.path y a.named)))

  kept_is : (x : EntityUID) → k.chains x [] ≡ true → kept x ≡ option_map (cut_entity k) (entity_at s x)
  kept_is x h = st.part.is x ∙ ap (λ b. if b then option_map (cut_entity k) (entity_at s x) else None) h

  kept_above : (x y : EntityUID) → above (kept x) y ≡ ((k.chains x [] && k.ancestors x y) && above (entity_at s x) y)
  kept_above x y = ap (λ o. above o y) (st.part.is x ∙ sym (part_at k s x)) ∙ above-part k s x y

  needed_above : (x y : EntityUID) → n.ancestors x y ≡ true → above (entity_at s x) y ≡ true → above (new x) y ≡ true
  needed_above x y h has =
      let b = and_parts (kept_chain reads q s x []) (kept_ancestor reads demands q s x y) h in
      j.enough x y (ap is_some (kept_is x (chains x [] b.0)) ∙ mapped (entity_at s x) ∙ there_of s x y has) (demanded x y b.1) (has_of s x y has)
    where
      mapped : (o : Option StoredEntity) → is_some (option_map (cut_entity k) o) ≡ is_some o
      mapped None = refl
      mapped (Some d) = refl

  above_given : (x y : EntityUID) → above (new x) y ≡ true → above (entity_at s x) y ≡ true
  above_given x y h = elim (j.given x y h) [
    | inl i ↦ (and_parts (k.chains x [] && k.ancestors x y) (above (entity_at s x) y) (sym (kept_above x y) ∙ i)).1
    | inr i ↦ above_of s x y i
  ]

  above_only : exact ≡ true → (x y : EntityUID) → above (new x) y ≡ true → n.ancestors x y ≡ true
  above_only e x y h = elim (j.exactly e x y h) [
    | inl i ↦
        let c = and_parts (k.chains x [] && k.ancestors x y) (above (entity_at s x) y) (sym (kept_above x y) ∙ i) in
        let d = and_parts (k.chains x []) (k.ancestors x y) c.0 in
        absurd (false≢true (sym (st.part.bare e x y) ∙ d.1))
    | inr i ↦ only_demanded e x y i
  ]

  -- ---- the part that is found

  abbrev pub found_part : Keep
  found_part = record { chains = k.chains; ancestors = λ x y. above (new x) y || n.ancestors x y; tags = λ x. with_key (k.tags x) }

  new_above : (x y : EntityUID) → k.chains x [] ≡ true → above (new x) y ≡ above (entity_at (part found_part s) x) y
  new_above x y h = equal_by_both_ways (above (new x) y) (above (entity_at (part found_part s) x) y) to from ∙ refl
    where
      is_above : above (entity_at (part found_part s) x) y ≡ ((k.chains x [] && (above (new x) y || n.ancestors x y)) && above (entity_at s x) y)
      is_above = above-part found_part s x y

      to : above (new x) y ≡ true → above (entity_at (part found_part s) x) y ≡ true
      to i = is_above ∙ and_from (k.chains x [] && (above (new x) y || n.ancestors x y)) (above (entity_at s x) y) (and_from (k.chains x []) (above (new x) y || n.ancestors x y) h (or_left_true (above (new x) y) (n.ancestors x y) i)) (above_given x y i)

      from : above (entity_at (part found_part s) x) y ≡ true → above (new x) y ≡ true
      from i =
          let b = and_parts (k.chains x [] && (above (new x) y || n.ancestors x y)) (above (entity_at s x) y) (sym is_above ∙ i) in
          let c = and_parts (k.chains x []) (above (new x) y || n.ancestors x y) b.0 in
          elim (or_cases (above (new x) y) (n.ancestors x y) c.1) [ inl l ↦ l | inr r ↦ needed_above x y r b.1 ]

  found_left : (x : EntityUID) → new x ≡ left found_part x (entity_at s x)
  found_left x = by (cases (k.chains x [])) (new x) refl (entity_at s x) refl
    where
      alike_left : option_map without_links (new x) ≡ option_map without_links (left k x (entity_at s x))
      alike_left = alike x ∙ ap (option_map without_links) (st.part.is x)

      chosen : (f : k.chains x [] ≡ true) (e d : StoredEntity) → new x ≡ Some e → entity_at s x ≡ Some d → e ≡ cut_entity found_part d
      chosen f e d g h =
          let both : Some (without_links e) ≡ Some (without_links (cut_entity k d)) = sym (ap (option_map without_links) g) ∙ alike_left ∙ (λ i. option_map without_links (if f i then option_map (cut_entity k) (h i) else None)) in
          let same : without_links e ≡ without_links (cut_entity k d) = cc in
          let whole_same : without_links e ≡ without_links (cut_entity found_part d) = same ∙ (λ i. record { uid = d.uid; attrs = cut_fields d.attrs (k.chains d.uid); ancestors = []; tags = sym (keyed d.tags (k.tags d.uid)) i }) in
          let there : entity_at (part found_part s) x ≡ Some (cut_entity found_part d) = entity_at-part found_part s x f ∙ ap (option_map (cut_entity found_part)) h in
          same_left found_part x d e whole_same
          (same_sorted uid_cmp uid_cmp_total exact_uid e.ancestors (filter (found_part.ancestors d.uid) d.ancestors) (up x e g) (sorted_filtered (found_part.ancestors d.uid) d.ancestors (order.each x d h).ancestors)
          (λ y. sym (ap (λ o. above o y) g) ∙ new_above x y f ∙ ap (λ o. above o y) there))

      by : (k.chains x [] ≡ true) ⊎ (k.chains x [] ≡ false) → (o : Option StoredEntity) → new x ≡ o → (p : Option StoredEntity) → entity_at s x ≡ p → new x ≡ left found_part x (entity_at s x)
      by (inl f) None g None h = g ∙ sym (λ i. if f i then option_map (cut_entity found_part) (h i) else None)
      by (inl f) None g (Some d) h = let c = sym (ap (option_map without_links) g) ∙ alike_left ∙ (λ i. option_map without_links (if f i then option_map (cut_entity k) (h i) else None)) in absurd (cc c)
      by (inl f) (Some e) g None h = let c = sym (ap (option_map without_links) g) ∙ alike_left ∙ (λ i. option_map without_links (if f i then option_map (cut_entity k) (h i) else None)) in absurd (cc c)
      by (inl f) (Some e) g (Some d) h = g ∙ ap Some (chosen f e d g h) ∙ sym (λ i. if f i then option_map (cut_entity found_part) (h i) else None)
      by (inr f) None g p h = g ∙ sym (λ i. if f i then option_map (cut_entity found_part) (entity_at s x) else None)
      by (inr f) (Some e) g p h = let c = sym (ap (option_map without_links) g) ∙ alike_left ∙ (λ i. option_map without_links (if f i then option_map (cut_entity k) (entity_at s x) else None)) in absurd (cc c)

  module _ (ids : IsStrictlySortedBy uid_cmp (map (λ e. e.uid) s)) (found : Store) (at : (x : EntityUID) → entity_at found x ≡ new x) (found_ids : IsStrictlySortedBy uid_cmp (map (λ e. e.uid) found)) where
    is_part : found ≡ part found_part s
    is_part = same_values uid_cmp uid_cmp_total exact_uid (λ e. e.uid) found (part found_part s) found_ids (part_ascends found_part s ids) (λ x. at x ∙ found_left x ∙ sym (part_at found_part s x))

    less_tags : (x : EntityUID) (c : Chain) → n.tags x c ≡ true → found_part.tags x c ≡ true
    less_tags x [] h = h
    less_tags x (m ∷ c) h = tags x m c h

    same_tags : exact ≡ true → (x : EntityUID) (c : Chain) → found_part.tags x c ≡ n.tags x c
    same_tags e x [] = refl
    same_tags e x (m ∷ c) = equal_by_both_ways (k.tags x (m ∷ c)) (kept_tag reads q s x (m ∷ c)) (only_tags e x m c) (tags x m c)

    same_ancestors : exact ≡ true → (x y : EntityUID) → found_part.ancestors x y ≡ n.ancestors x y
    same_ancestors e x y = equal_by_both_ways (above (new x) y || n.ancestors x y) (n.ancestors x y) (λ h. elim (or_cases (above (new x) y) (n.ancestors x y) h) [ inl i ↦ above_only e x y i | inr i ↦ i ]) (or_right_true (above (new x) y) (n.ancestors x y))

    same_keep : exact ≡ true → found_part ≡ n
    same_keep e i = record {
      chains = λ x c. equal_by_both_ways (k.chains x c) (kept_chain reads q s x c) (only_chains e x c) (chains x c) i;
      ancestors = λ x y. same_ancestors e x y i;
      tags = λ x c. same_tags e x c i;
    }

    pub loaded_between : IsBetween exact reads demands q s found
    loaded_between = record {
      enough = (n, sym (part_twice n found_part s chains (λ x y. or_right_true (above (new x) y) (n.ancestors x y)) less_tags) ∙ ap (part n) (sym is_part));
      part = (found_part, is_part);
      exactly = λ e. is_part ∙ ap (λ z. part z s) (same_keep e);
    }
