-- Where a trie asks for nothing, nothing is asked for.
use Rattle.std.proofs.Common.{◌≡◌, ◌⊎◌, Bool, true, false, cond, ◌&&◌, ◌||◌, List, [], ◌∷◌, ◌++◌, map, Option, Some, None, refl, sym, ap, ◌∙◌, subst, inl, inr, append_assoc, append-nil}
use Rattle.std.specs.Prelude.{◌↔◌}
use Rattle.std.specs.BTreeMap.{BTreeMap, is_at}
use Rattle.std.specs.List.{AllByRecursion}
use Rattle.std.specs.Map.{lookup}
use Rattle.std.proofs.lemmas.Bool.{and_from, false≢true}
use Rattle.policy_values.specs.declared.entity_uid.EntityUID.{EntityUID}
use Rattle.policy_values.specs.Uid.{uid_cmp, uid_eq}
use Rattle.entity_store.specs.declared.request.Request.{Request}
use Rattle.entity_store.specs.Store.{StoredEntity, Store, entity_at}
use Rattle.access_tries.specs.declared.edge.Edge.TheVariants.{Root}
use Rattle.access_tries.specs.Edges.{Address}
use Rattle.access_tries.specs.Paths.{AccessPath, address_of, edge_of}
use Rattle.access_tries.specs.Table.{Table, leads, is_marked}
use Rattle.access_tries.specs.Views.{view_leads}
use Rattle.reads_spec.specs.Paths.{Step}
use Rattle.reads_spec.proofs.Lists.{IsIn, any_in, same_uid, uid_self}
use Rattle.reads_spec.proofs.Order.{cases}
use Rattle.reads_spec.proofs.Words.{any_out}
use Rattle.entity_loading.proofs.LeastSteps.{map_append}
use Rattle.plain_lemmas.proofs.Booleans.{or_left_true}
use Rattle.plain_lemmas.proofs.Lists.{is_some_within}
use Rattle.entity_loading.specs.Answered.{answer_points, answers_point}
use Rattle.entity_loading.specs.Begun.{IsFirst, roots_point}
use Rattle.entity_loading.specs.Leads.{RootLeads}
use Rattle.entity_loading.specs.Names.{IsKept}
use Rattle.entity_loading.specs.Places.{node_of}
use Rattle.entity_loading.specs.Needs.{Adds, sees, needs}
use Rattle.entity_loading.specs.declared.place.Place.{Place}
use Rattle.entity_loader.specs.declared.loader.AncestorsRequest.{AncestorsRequest}
use Rattle.entity_loading.specs.Answering.{AreUnderIds}
use Rattle.entity_loading.specs.Joining.{lists, asks, IsAskedFor}
use Rattle.entity_loading.specs.Keeping.{Found}
use Rattle.entity_loading.specs.Rounds.{AreNoted}
use Rattle.entity_loading.specs.Unasked.{ReadsNothing, DemandsNothing, DemandNothing, AsksForSome}
use Rattle.entity_loading.proofs.PointSteps.{entity_some}

-- steps behind others, and then a path
joined : (ks ms : List Step) (r : AccessPath) → map edge_of ks ++ (map edge_of ms ++ address_of r) ≡ map edge_of (ks ++ ms) ++ address_of r
joined ks ms r = sym (append_assoc (map edge_of ks) (map edge_of ms) (address_of r)) ∙ ap (λ es. es ++ address_of r) (sym (map_append ks ms))

-- ---- what is asked for first

module _ (ns : Table) (q : Request) (start : List Place) (adds : Adds ns (roots_point ns q) [] start)
    (led : (b : Bool) (x : EntityUID) (a : Address) → roots_point ns q b x a ≡ true → RootLeads ns q b x a) where
  pub nothing_begun : ReadsNothing ns → ((p : Place) → IsIn p start → IsFirst ns p) → start ≡ []
  nothing_begun none first = by start refl
    where
      by : (ps : List Place) → start ≡ ps → ps ≡ []
      by [] is = refl
      by (p ∷ ps) is =
          let there = is_some_within ns p.number (first p (subst (IsIn p) (sym is) (inl refl))).there in
          let own = and_from (uid_eq p.uid p.uid) (view_leads (node_of ns p) []) (uid_self p.uid) there in
          let asked : needs false ns (p ∷ ps) p.uid [] ≡ true = or_left_true (uid_eq p.uid p.uid && view_leads (node_of ns p) []) (needs false ns ps p.uid []) own in
          let l = led false p.uid [] (sym (adds.each false p.uid []) ∙ ap (λ z. needs false ns z p.uid []) is ∙ asked) in
          let has : leads ns (Root l.root ∷ map edge_of l.rest.steps) ≡ true = subst (λ es. leads ns (Root l.root ∷ es) ≡ true) (append-nil (map edge_of l.rest.steps)) l.rest.passes in
          absurd (false≢true (sym (none (record { root = l.root; steps = l.rest.steps })) ∙ has))

  pub undemanding_begun : DemandsNothing ns → DemandNothing ns start
  undemanding_begun none x ms r = by (cases (needs true ns start x (map edge_of ms ++ address_of r)))
    where
      by : (needs true ns start x (map edge_of ms ++ address_of r) ≡ true) ⊎ (needs true ns start x (map edge_of ms ++ address_of r) ≡ false) → needs true ns start x (map edge_of ms ++ address_of r) ≡ false
      by (inr h) = h
      by (inl h) =
          let l = led true x (map edge_of ms ++ address_of r) (sym (adds.each true x (map edge_of ms ++ address_of r)) ∙ h) in
          let marked = subst (λ es. is_marked ns (Root l.root ∷ es) ≡ true) (joined l.rest.steps ms r) l.rest.passes in
          absurd (false≢true (sym (none (record { root = l.root; steps = l.rest.steps ++ ms }) r) ∙ marked))

-- ---- the next round

module _ (ns : Table) (found : Found) (ps next : List Place) (adds : Adds ns (answers_point ns found ps) [] next) (none : DemandNothing ns ps) where
  pub undemanding_next : DemandNothing ns next
  undemanding_next x ms r = by (cases (needs true ns next x (map edge_of ms ++ address_of r)))
    where
      answer : (p : Place) → IsIn p ps → (o : Option StoredEntity) → answer_points o (node_of ns p) true x (map edge_of ms ++ address_of r) ≡ true → ⊥
      answer p i None h = false≢true h
      answer p i (Some e) h =
          let s = entity_some x (map edge_of ms ++ address_of r) e (sees true (node_of ns p)) h in
          let marked = subst (λ es. sees true (node_of ns p) es ≡ true) (joined s.0 ms r) s.1 in
          let asked = any_in (λ q. uid_eq q.uid p.uid && sees true (node_of ns q) (map edge_of (s.0 ++ ms) ++ address_of r)) p ps i
          (and_from (uid_eq p.uid p.uid) (sees true (node_of ns p) (map edge_of (s.0 ++ ms) ++ address_of r)) (uid_self p.uid) marked) in
          false≢true (sym (none p.uid (s.0 ++ ms) r) ∙ asked)

      by : (needs true ns next x (map edge_of ms ++ address_of r) ≡ true) ⊎ (needs true ns next x (map edge_of ms ++ address_of r) ≡ false) → needs true ns next x (map edge_of ms ++ address_of r) ≡ false
      by (inr h) = h
      by (inl h) =
          let p = any_out (λ p. answer_points (found p.uid) (node_of ns p) true x (map edge_of ms ++ address_of r)) ps (sym (adds.each true x (map edge_of ms ++ address_of r)) ∙ h) in
          absurd (answer p.0 p.1 (found p.0.uid) p.2)

pub undemanding_noted : (ns : Table) (ps old new : List Place) → AreNoted ps old new → DemandNothing ns old → DemandNothing ns ps → DemandNothing ns new
undemanding_noted ns ps old new t before now x ms r =
    t.tests (λ p. uid_eq p.uid x && sees true (node_of ns p) (map edge_of ms ++ address_of r)) ∙ (λ i. before x ms r i || now x ms r i)

-- ---- ancestors

-- the store of what is kept
abbrev stored : List (EntityUID × StoredEntity) → Store
stored [] = []
stored (e ∷ es) = record (e.1) { uid = e.0 } ∷ stored es

stored_at : (es : List (EntityUID × StoredEntity)) (x : EntityUID) → ((e : StoredEntity) → lookup (is_at (uid_cmp x)) es ≡ Some e → e.uid ≡ x) → entity_at (stored es) x ≡ lookup (is_at (uid_cmp x)) es
stored_at [] x under = refl
stored_at (e ∷ es) x under = by (uid_eq x e.0) refl under (stored_at es x)
  where
    by : (b : Bool) → uid_eq x e.0 ≡ b → ((d : StoredEntity) → cond b (Some e.1) (lookup (is_at (uid_cmp x)) es) ≡ Some d → d.uid ≡ x)
        → (((d : StoredEntity) → lookup (is_at (uid_cmp x)) es ≡ Some d → d.uid ≡ x) → entity_at (stored es) x ≡ lookup (is_at (uid_cmp x)) es)
        → cond b (Some (record (e.1) { uid = e.0 })) (entity_at (stored es) x) ≡ cond b (Some e.1) (lookup (is_at (uid_cmp x)) es)
    by true f u rest = let same : e.0 ≡ e.1.uid = sym (same_uid x e.0 f) ∙ sym (u e.1 refl) in λ i. Some (record (e.1) { uid = same i })
    by false f u rest = rest u

-- a request for some ancestor is for one that is asked for
pub none_requested : (ns : Table) (q : Request) (ps : List Place) (kept : BTreeMap EntityUID StoredEntity) (rs : List AncestorsRequest) → DemandNothing ns ps → AreUnderIds kept → AllByRecursion AsksForSome rs
    → ((t : Store) → IsKept kept t → (x y : EntityUID) → (asks rs x y ≡ true) ↔ IsAskedFor ns q ps t x y) → rs ≡ []
none_requested ns q ps kept [] none under some asked = refl
none_requested ns q ps kept (r ∷ rs) none under some asked = by r.ancestors.items refl
  where
    by : (ids : List EntityUID) → r.ancestors.items ≡ ids → r ∷ rs ≡ []
    by [] is = absurd (some.0 is)
    by (y ∷ ys) is =
        let first : lists r.ancestors.items y ≡ true = ap (λ l. lists l y) is ∙ or_left_true (uid_eq y y) (lists ys y) (uid_self y) in
        let own = and_from (uid_eq r.entity_id r.entity_id) (lists r.ancestors.items y) (uid_self r.entity_id) first in
        let a = (asked (stored kept.entries) (λ x. stored_at kept.entries x (under x)) r.entity_id y).0 (or_left_true (uid_eq r.entity_id r.entity_id && lists r.ancestors.items y) (asks rs r.entity_id y) own) in
        absurd (false≢true (sym (none r.entity_id [] a.path) ∙ a.marked))

pub some_more : (rs : List AncestorsRequest) (r : AncestorsRequest) → AllByRecursion AsksForSome rs → AsksForSome r → AllByRecursion AsksForSome (rs ++ r ∷ [])
some_more [] r all one = (one, tt)
some_more (s ∷ rs) r all one = (all.0, some_more rs r all.1 one)
