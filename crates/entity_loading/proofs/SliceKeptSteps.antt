-- What the nodes of reached entities lead along and name is what is read.
use Rattle.std.proofs.Common.{◌≡◌, ℕ, Bool, true, false, ◌&&◌, ◌||◌, cond, List, [], ◌∷◌, ◌++◌, Option, Some, None, is_some, map, refl, sym, ap, ◌∙◌, subst, inl, inr}
use Rattle.std.specs.Prelude.{slice_get}
use Rattle.std.specs.List.{list_any}
use Rattle.std.specs.Option.{option_map_or}
use Rattle.std.specs.BTreeMap.{BTreeMap, get}
use Rattle.std.specs.declared.vec.Vec.{Vec}
use Rattle.std.specs.declared.alloc.Global.{Global}
use Rattle.std.proofs.lemmas.List.{map-append}
use Rattle.std.proofs.lemmas.List.Folds.{list_any-append}
use Rattle.std.proofs.lemmas.Bool.{and_parts, and_from}
use Rattle.policy_values.specs.declared.entity_uid.EntityUID.{EntityUID}
use Rattle.policy_values.specs.Uid.{uid_cmp, uid_eq}
use Rattle.policy_values.specs.Value.{entity}
use Rattle.entity_store.specs.declared.request.Request.{Request}
use Rattle.entity_store.specs.Store.{StoredEntity, Store}
use Rattle.access_tries.specs.declared.edge.Edge.TheVariants.{Root}
use Rattle.access_tries.specs.Paths.{edge_of, address_of}
use Rattle.access_tries.specs.Table.{Table}
use Rattle.access_tries.specs.Views.{view_leads, view_marks, whole}
use Rattle.reads_spec.specs.Paths.{Step, any_tag, Chain, steps_of, AccessPath, Demand, beyond}
use Rattle.reads_spec.specs.Restrict.{part, is_id, names_id, reach, kept_steps, kept_chain, kept_tag, by_paths, kept_ancestor, needed, restrict}
use Rattle.reads_spec.proofs.Lists.{IsIn, any_in, same_uid, uid_self}
use Rattle.reads_spec.proofs.Words.{kept_means, any_out, id_of}
use Rattle.plain_lemmas.proofs.Booleans.{equal_by_both_ways, or_assoc, or_false, or_true}
use Rattle.entity_loading.specs.Names.{IsKept}
use Rattle.entity_loading.specs.declared.place.Place.{Place}
use Rattle.entity_loading.specs.Places.{node_of}
use Rattle.entity_loading.specs.Needs.{needs}
use Rattle.entity_loader.specs.Asked.{some_asks}
use Rattle.entity_loading.specs.Tries.{IsTrieOf}
use Rattle.entity_loading.specs.Reached.{AreReachedAsked, AreThere}
use Rattle.entity_loading.specs.Kept.{Numbers, NamedIds, numbers_at, some_place, IsGrouped, IsNumbered, along_nodes, names, some_names, with_names, AreNodes, AreNamed}
use Rattle.plain_lemmas.proofs.Lists.{is_some_within}

-- ---- places by their entities

-- what was put under the ids: `left` are still to be put
pub record IsGrouping (all left : List Place) (m : Numbers) : Type 0 where
  pub tests : (f : ℕ → Bool) (x : EntityUID) → (list_any f (numbers_at m x) || some_place f x left) ≡ some_place f x all
  pub keys : (x : EntityUID) → (is_some (get uid_cmp m x) || list_any (λ p. uid_eq p.uid x) left) ≡ list_any (λ p. uid_eq p.uid x) all

pub grouping_more : (all left : List Place) (m n : Numbers) (p : Place) (rest : List Place) → left ≡ p ∷ rest → IsNumbered p.uid p.number m n → IsGrouping all left m → IsGrouping all rest n
grouping_more all left m n p rest is one g = record {
  tests = λ f x.
      ap (λ c. c || some_place f x rest) (one.tests f x) ∙ or_assoc (list_any f (numbers_at m x)) (uid_eq p.uid x && f p.number) (some_place f x rest)
      ∙ sym (ap (λ ps. list_any f (numbers_at m x) || some_place f x ps) is) ∙ g.tests f x;
  keys = λ x.
      ap (λ c. c || list_any (λ r. uid_eq r.uid x) rest) (one.keys x) ∙ or_assoc (is_some (get uid_cmp m x)) (uid_eq p.uid x) (list_any (λ r. uid_eq r.uid x) rest)
      ∙ sym (ap (λ ps. is_some (get uid_cmp m x) || list_any (λ r. uid_eq r.uid x) ps) is) ∙ g.keys x;
}

pub grouped : (all left : List Place) (m : Numbers) → left ≡ [] → IsGrouping all left m → IsGrouped all m
grouped all left m none g = record {
  tests = λ f x. sym (or_false (list_any f (numbers_at m x))) ∙ sym (ap (λ ps. list_any f (numbers_at m x) || some_place f x ps) none) ∙ g.tests f x;
  keys = λ x. sym (or_false (is_some (get uid_cmp m x))) ∙ sym (ap (λ ps. is_some (get uid_cmp m x) || list_any (λ p. uid_eq p.uid x) ps) none) ∙ g.keys x;
}

pub numbered : (x : EntityUID) (i : ℕ) (old new : Numbers) (list : Vec ℕ Global) → list.items ≡ numbers_at old x ++ i ∷ [] → ((y : EntityUID) → get uid_cmp new y ≡ cond (uid_eq x y) (Some list) (get uid_cmp old y)) → IsNumbered x i old new
numbered x i old new list is put = record {
  tests = λ f y. ap (λ o. list_any f (option_map_or (λ (v : Vec ℕ Global). v.items) o [])) (put y) ∙ tested f y (uid_eq x y) refl;
  keys = λ y. ap is_some (put y) ∙ kept y (uid_eq x y);
}
  where
    tested : (f : ℕ → Bool) (y : EntityUID) (b : Bool) → uid_eq x y ≡ b → list_any f (option_map_or (λ (v : Vec ℕ Global). v.items) (cond b (Some list) (get uid_cmp old y)) []) ≡ (list_any f (numbers_at old y) || (b && f i))
    tested f y true e = ap (list_any f) is ∙ list_any-append f (numbers_at old x) (i ∷ []) ∙ ap (λ c. list_any f (numbers_at old x) || c) (or_false (f i)) ∙ ap (λ z. list_any f (numbers_at old z) || f i) (same_uid x y e)
    tested f y false e = sym (or_false (list_any f (numbers_at old y)))

    kept : (y : EntityUID) (b : Bool) → is_some (cond b (Some list) (get uid_cmp old y)) ≡ (is_some (get uid_cmp old y) || b)
    kept y true = sym (or_true (is_some (get uid_cmp old y)))
    kept y false = sym (or_false (is_some (get uid_cmp old y)))

-- what is put where something was taken away
pub put_over : {X : Type 0} (b : Bool) (o m n : Option X) → m ≡ cond b None n → cond b o m ≡ cond b o n
put_over true o m n h = refl
put_over false o m n h = h

-- ---- nodes that are there

and_true : (a b : Bool) → b ≡ true → a ≡ (a && b)
and_true true b h = sym h
and_true false b h = refl

all_there : (t : Table) (x : EntityUID) (ps : List Place) → AreThere t ps → list_any (λ p. uid_eq p.uid x) ps ≡ some_place (λ i. view_leads (record { nodes = t; number = i }) []) x ps
all_there t x [] there = refl
all_there t x (p ∷ ps) there =
    λ i. and_true (uid_eq p.uid x) (is_some (slice_get t p.number)) (is_some_within t p.number (there p (inl refl))) i || all_there t x ps (λ q h. there q (inr h)) i

pub are_nodes : (t : Table) (ps : List Place) (m : Numbers) → AreThere t ps → IsGrouped ps m → AreNodes t m
are_nodes t ps m there g x = g.keys x ∙ all_there t x ps there ∙ sym (g.tests (λ i. view_leads (record { nodes = t; number = i }) []) x)

-- ---- what is read

-- the edges behind a path
behind_path : (p : AccessPath) (ns : List Step) → address_of (beyond p ns) ≡ address_of p ++ map edge_of ns
behind_path p ns = ap (λ es. Root p.root ∷ es) (map-append edge_of p.steps ns)

module _ (reads : List AccessPath) (demands : List Demand) (t : Table) (fit : IsTrieOf reads demands t) (q : Request) (s : Store) (ps : List Place) (found : AreReachedAsked t q s ps) (m : Numbers) (g : IsGrouped ps m) where
  is_needed : (x : EntityUID) (cs : List Step) → some_asks t (numbers_at m x) cs ≡ needs false t ps x (map edge_of cs)
  is_needed x cs = g.tests (λ i. view_leads (record { nodes = t; number = i }) (map edge_of cs)) x

  kept_is : (x : EntityUID) (cs : List Step) → kept_steps reads q s x cs ≡ some_asks t (numbers_at m x) cs
  kept_is x cs = equal_by_both_ways (kept_steps reads q s x cs) (needs false t ps x (map edge_of cs)) to from ∙ sym (is_needed x cs)
    where
      to : kept_steps reads q s x cs ≡ true → needs false t ps x (map edge_of cs) ≡ true
      to h =
          let r = (kept_means reads q s x cs).0 h in
          (found false x (map edge_of cs)).1 (record { path = r.path; reached = r.reached; passes = ap (view_leads (whole t)) (sym (behind_path r.path cs)) ∙ (fit.paths (beyond r.path cs)).1 r.read })

      from : needs false t ps x (map edge_of cs) ≡ true → kept_steps reads q s x cs ≡ true
      from h =
          let r = (found false x (map edge_of cs)).0 h in
          (kept_means reads q s x cs).1 (record { path = r.path; reached = r.reached; read = (fit.paths (beyond r.path cs)).0 (ap (view_leads (whole t)) (behind_path r.path cs) ∙ r.passes) })

  tags_are : (x : EntityUID) (c : Chain) → kept_tag reads q s x c ≡ (along_nodes t m).tags x c
  tags_are x [] = refl
  tags_are x (n ∷ c) = kept_is x (any_tag ∷ steps_of c)

  paths_are : by_paths reads q s ≡ along_nodes t m
  paths_are i = record { chains = λ x c. kept_is x (steps_of c) i; ancestors = λ x y. false; tags = λ x c. tags_are x c i }

  module _ (kept : BTreeMap EntityUID StoredEntity) (is_kept : IsKept kept (part (along_nodes t m) s)) (there : AreThere t ps) (sets : NamedIds) (named : AreNamed t q ps kept sets) where
    -- a demand of a path to the entity, and a path that names the ancestor
    asked_for : (x y : EntityUID) (p r : AccessPath) → IsIn (let d : Demand = (p, r) in d) demands → IsIn (entity x) (reach s q p) → list_any (names_id y) (reach (part (by_paths reads q s) s) q r) ≡ true → some_names sets (numbers_at m x) y ≡ true
    asked_for x y p r d reached names_it =
        let w = (found true x (address_of r)).1 (record { path = p; reached = reached; passes = (fit.asks p r).1 d }) in
        let a = any_out (λ z. uid_eq z.uid x && view_marks (node_of t z) (address_of r)) ps w in
        let b = and_parts (uid_eq a.0.uid x) (view_marks (node_of t a.0) (address_of r)) a.2 in
        let n = (named (part (along_nodes t m) s) is_kept a.0 a.1 y).1 (record { path = r; marked = b.1; named = subst (λ k. list_any (names_id y) (reach (part k s) q r) ≡ true) paths_are names_it }) in
        g.tests (λ i. names sets i y) x ∙ any_in (λ z. uid_eq z.uid x && names sets z.number y) a.0 ps a.1 (and_from (uid_eq a.0.uid x) (names sets a.0.number y) b.0 n)

    -- whether the entity is kept where it has a node
    has_place : (x : EntityUID) (p : Place) → IsIn p ps → uid_eq p.uid x ≡ true → kept_chain reads q s x [] ≡ true
    has_place x p i same =
        kept_is x [] ∙ is_needed x [] ∙ any_in (λ z. uid_eq z.uid x && view_leads (node_of t z) []) p ps i (and_from (uid_eq p.uid x) (view_leads (node_of t p) []) same (is_some_within t p.number (there p i)))

    id_in : (x : EntityUID) (p : AccessPath) → list_any (is_id x) (reach s q p) ≡ true → IsIn (entity x) (reach s q p)
    id_in x p h = let a = any_out (is_id x) (reach s q p) h in subst (λ v. IsIn v (reach s q p)) (id_of a.0 x a.2) a.1

    to : (x y : EntityUID) → (kept_chain reads q s x [] && kept_ancestor reads demands q s x y) ≡ true → some_names sets (numbers_at m x) y ≡ true
    to x y h =
        let b = and_parts (kept_chain reads q s x []) (kept_ancestor reads demands q s x y) h in
        let d = any_out (λ (e : Demand). list_any (is_id x) (reach s q e.0) && list_any (names_id y) (reach (part (by_paths reads q s) s) q e.1)) demands b.1 in
        let c = and_parts (list_any (is_id x) (reach s q d.0.0)) (list_any (names_id y) (reach (part (by_paths reads q s) s) q d.0.1)) d.2 in
        asked_for x y d.0.0 d.0.1 d.1 (id_in x d.0.0 c.0) c.1

    from : (x y : EntityUID) → some_names sets (numbers_at m x) y ≡ true → (kept_chain reads q s x [] && kept_ancestor reads demands q s x y) ≡ true
    from x y h =
        let a = any_out (λ z. uid_eq z.uid x && names sets z.number y) ps (sym (g.tests (λ i. names sets i y) x) ∙ h) in
        let b = and_parts (uid_eq a.0.uid x) (names sets a.0.number y) a.2 in
        let n = (named (part (along_nodes t m) s) is_kept a.0 a.1 y).0 b.1 in
        let r = (found true x (address_of n.path)).0 (any_in (λ z. uid_eq z.uid x && view_marks (node_of t z) (address_of n.path)) a.0 ps a.1 (and_from (uid_eq a.0.uid x) (view_marks (node_of t a.0) (address_of n.path)) b.0 n.marked)) in
        let names_it = subst (λ k. list_any (names_id y) (reach (part k s) q n.path) ≡ true) (sym paths_are) n.named in
        let d : Demand = (r.path, n.path) in
        and_from (kept_chain reads q s x []) (kept_ancestor reads demands q s x y) (has_place x a.0 a.1 b.0)
        (any_in (λ (e : Demand). list_any (is_id x) (reach s q e.0) && list_any (names_id y) (reach (part (by_paths reads q s) s) q e.1)) d demands ((fit.asks r.path n.path).0 r.passes)
        (and_from (list_any (is_id x) (reach s q r.path)) (list_any (names_id y) (reach (part (by_paths reads q s) s) q n.path)) (any_in (is_id x) (entity x) (reach s q r.path) r.reached (uid_self x)) names_it))

    needed_is : needed reads demands q s ≡ with_names t m sets
    needed_is i = record {
      chains = λ x c. kept_is x (steps_of c) i;
      ancestors = λ x y. equal_by_both_ways (kept_chain reads q s x [] && kept_ancestor reads demands q s x y) (some_names sets (numbers_at m x) y) (to x y) (from x y) i;
      tags = λ x c. tags_are x c i;
    }

    pub restricted_is : restrict reads demands q s ≡ part (with_names t m sets) s
    restricted_is = ap (λ k. part k s) needed_is
