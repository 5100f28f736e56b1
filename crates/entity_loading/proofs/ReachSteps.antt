-- What is asked for is what is reached.
use Rattle.std.proofs.Common.{◌≡◌, ◌⊎◌, ℕ, Bool, true, false, ◌&&◌, List, [], ◌∷◌, ◌++◌, map, Option, Some, None, refl, sym, ap, ◌∙◌, subst, inl, inr, is_some, append_assoc}
use Rattle.std.specs.Prelude.{if◌then◌else◌}
use Rattle.std.specs.List.{list_any}
use Rattle.std.specs.Option.{option_to_list}
use Rattle.std.specs.Ordering.{is_eq}
use Rattle.std.specs.declared.cmp.Ordering.TheVariants.{Less}
use Rattle.std.proofs.lemmas.Cmp.{nat_list_cmp_total}
use Rattle.std.proofs.lemmas.Bool.{and_parts, and_from, or_cases, false≢true}
use Rattle.policy_values.specs.declared.entity_uid.EntityUID.{EntityUID}
use Rattle.policy_values.specs.Uid.{text_cmp, uid_eq}
use Rattle.entity_store.specs.declared.request.Request.{Request}
use Rattle.entity_store.specs.Store.{StoredEntity, Store, entity_at}
use Rattle.policy_values.specs.Value.{Val, truth, long, string, entity, set, rec, decimal, ip, datetime, duration, Fields, no_fields, field, field_at}
use Rattle.access_tries.specs.declared.edge.Edge.{Edge}
use Rattle.access_tries.specs.declared.edge.Edge.TheVariants.{Field, AnyTag, Root}
use Rattle.access_tries.specs.declared.table.Link.{Link}
use Rattle.access_tries.specs.Edges.{Address, edge_eq}
use Rattle.access_tries.specs.Paths.{edge_of}
use Rattle.access_tries.specs.Table.{Table, at_path, has_mark, links_at}
use Rattle.access_tries.specs.Views.{whole}
use Rattle.reads_spec.specs.Merge.{IsBelowAll, IsOrdered, AreOrdered, IsEntityOrdered}
use Rattle.reads_spec.specs.Paths.{Step, along, any_tag}
use Rattle.reads_spec.specs.Restrict.{values_in, root_value, step, walk}
use Rattle.reads_spec.proofs.Cuts.{walk_on}
use Rattle.reads_spec.proofs.Lists.{IsIn, any_in, in_flat_map, flat_map_out, same_uid, uid_self, same_text}
use Rattle.type_relations.proofs.UnionLaws.{own_text}
use Rattle.plain_lemmas.proofs.Booleans.{or_left_true, or_right_true}
use Rattle.reads_spec.proofs.Words.{any_out}
use Rattle.entity_loading.specs.Begun.{root_points, roots_point}
use Rattle.entity_loading.specs.Leads.{RootLeads}
use Rattle.entity_loading.specs.Needs.{Test, sees, needs, points, fields_point, entity_points}
use Rattle.entity_loading.specs.declared.place.Place.{Place}
use Rattle.entity_loading.specs.Reached.{IsReached}
use Rattle.entity_loading.proofs.Prefixes.{prefix_leads as prefix_there}
use Rattle.entity_loading.proofs.PointSteps.{points_more, in_fields}
use Rattle.entity_loading.proofs.LeastSteps.{map_append}
use Rattle.access_tries.specs.SameLaws.{edge_is}

-- ---- addresses

-- a prefix of what is seen leads somewhere
pub prefix_leads : (b : Bool) (ns : Table) (i : ℕ) (es a : Address) → sees b (record { nodes = ns; number = i }) (es ++ a) ≡ true → sees false (record { nodes = ns; number = i }) es ≡ true
prefix_leads true ns i es a h = prefix_there has_mark refl ns es a i h
prefix_leads false ns i es a h = prefix_there is_some refl ns es a i h

-- the link that an address begins with
record Begins (b : Bool) (ns : Table) (e : Edge) (a : Address) : Type 0 where
  link : Link
  among : IsIn link (links_at ns 0)
  edge : link.edge ≡ e
  rest : sees b (record { nodes = ns; number = link.number }) a ≡ true

begins : (b : Bool) (ns : Table) (e : Edge) (a : Address) → sees b (whole ns) (e ∷ a) ≡ true → Begins b ns e a
begins true ns e a h =
    let r = any_out (λ l. edge_eq l.edge e && at_path has_mark ns l.number a) (links_at ns 0) h in
    let c = and_parts (edge_eq r.0.edge e) (at_path has_mark ns r.0.number a) r.2 in
    record { link = r.0; among = r.1; edge = edge_is r.0.edge e c.0; rest = c.1 }
begins false ns e a h =
    let r = any_out (λ l. edge_eq l.edge e && at_path is_some ns l.number a) (links_at ns 0) h in
    let c = and_parts (edge_eq r.0.edge e) (at_path is_some ns r.0.number a) r.2 in
    record { link = r.0; among = r.1; edge = edge_is r.0.edge e c.0; rest = c.1 }

-- ---- walks

-- steps lead to the entity, and pass with the address behind them
pub record Leads (s : Store) (v : Val) (t : Test) (x : EntityUID) (a : Address) : Type 0 where
  pub steps : List Step
  pub reaches : IsIn (entity x) (walk s v steps)
  pub passes : t (map edge_of steps ++ a) ≡ true

later_field : (m n : List ℕ) (v : Val) (fs : Fields) → IsBelowAll m fs → field_at fs n ≡ Some v → text_cmp m n ≡ Less
later_field m n v no_fields h e = absurd (cc)
later_field m n v (field k w fs) h e = by (is_eq (text_cmp n k)) refl e (later_field m n v fs h.1)
  where
    by : (b : Bool) → is_eq (text_cmp n k) ≡ b → (if b then Some w else field_at fs n) ≡ Some v → (field_at fs n ≡ Some v → text_cmp m n ≡ Less) → text_cmp m n ≡ Less
    by true f g ih = subst (λ z. text_cmp m z ≡ Less) (sym (same_text n k f)) h.0
    by false f g ih = ih g

past_field : (m n : List ℕ) (v w : Val) (fs : Fields) → IsBelowAll m fs → field_at fs n ≡ Some w → field_at (field m v fs) n ≡ Some w
past_field m n v w fs below e = let before = later_field m n w fs below e in rw (nat_list_cmp_total.antisymm n m, before) e

-- a field leads there
record FieldLeads (s : Store) (fs : Fields) (t : Test) (x : EntityUID) (a : Address) : Type 0 where
  name : List ℕ
  value : Val
  has : field_at fs name ≡ Some value
  rest : Leads s value (λ b. t (Field name ∷ b)) x a

mutual
  pub value_leads : (s : Store) (v : Val) (t : Test) (x : EntityUID) (a : Address) → IsOrdered v → points v t x a ≡ true → Leads s v t x a
  value_leads s (entity y) t x a o h = let p = and_parts (uid_eq y x) (t a) h in record { steps = []; reaches = inl (ap entity (same_uid y x p.0)); passes = p.1 }
  value_leads s (rec fs) t x a o h =
      let r = fields_lead s fs t x a o h in
      record { steps = along r.name ∷ r.rest.steps; reaches = in_flat_map (λ w. walk s w r.rest.steps) r.value (entity x) (option_to_list (field_at fs r.name)) (rw r.has (inl refl)) r.rest.reaches; passes = r.rest.passes }
  value_leads s (truth b) t x a o h = absurd (false≢true h)
  value_leads s (long b) t x a o h = absurd (false≢true h)
  value_leads s (string b) t x a o h = absurd (false≢true h)
  value_leads s (set b) t x a o h = absurd (false≢true h)
  value_leads s (decimal b) t x a o h = absurd (false≢true h)
  value_leads s (ip b) t x a o h = absurd (false≢true h)
  value_leads s (datetime b) t x a o h = absurd (false≢true h)
  value_leads s (duration b) t x a o h = absurd (false≢true h)

  fields_lead : (s : Store) (fs : Fields) (t : Test) (x : EntityUID) (a : Address) → AreOrdered fs → fields_point fs t x a ≡ true → FieldLeads s fs t x a
  fields_lead s no_fields t x a o h = absurd (false≢true h)
  fields_lead s (field m v fs) t x a o h = by (or_cases (points v (λ b. t (Field m ∷ b)) x a) (fields_point fs t x a) h) (value_leads s v (λ b. t (Field m ∷ b)) x a o.1) (fields_lead s fs t x a o.2)
    where
      by : (points v (λ b. t (Field m ∷ b)) x a ≡ true) ⊎ (fields_point fs t x a ≡ true) → (points v (λ b. t (Field m ∷ b)) x a ≡ true → Leads s v (λ b. t (Field m ∷ b)) x a) → (fields_point fs t x a ≡ true → FieldLeads s fs t x a) → FieldLeads s (field m v fs) t x a
      by (inl i) f g = record { name = m; value = v; has = rw (own_text m) refl; rest = f i }
      by (inr i) f g = let r = g i in record { name = r.name; value = r.value; has = past_field m r.name v r.value fs o.0 r.has; rest = r.rest }

-- some tag leads there
record TagLeads (s : Store) (fs : Fields) (t : Test) (x : EntityUID) (a : Address) : Type 0 where
  value : Val
  among : IsIn value (values_in fs)
  rest : Leads s value t x a

tags_lead : (s : Store) (fs : Fields) (t : Test) (x : EntityUID) (a : Address) → AreOrdered fs → list_any (λ v. points v t x a) (values_in fs) ≡ true → TagLeads s fs t x a
tags_lead s no_fields t x a o h = absurd (false≢true h)
tags_lead s (field m v fs) t x a o h = by (or_cases (points v t x a) (list_any (λ w. points w t x a) (values_in fs)) h) (tags_lead s fs t x a o.2)
  where
    by : (points v t x a ≡ true) ⊎ (list_any (λ w. points w t x a) (values_in fs) ≡ true) → (list_any (λ w. points w t x a) (values_in fs) ≡ true → TagLeads s fs t x a) → TagLeads s (field m v fs) t x a
    by (inl i) f = record { value = v; among = inl refl; rest = value_leads s v t x a o.1 i }
    by (inr i) f = let r = f i in record { value = r.value; among = inr r.among; rest = r.rest }

-- where an entity leads, its id does
pub entity_leads : (s : Store) (y : EntityUID) (e : StoredEntity) (t : Test) (x : EntityUID) (a : Address) → entity_at s y ≡ Some e → IsEntityOrdered e → entity_points e t x a ≡ true → Leads s (entity y) t x a
entity_leads s y e t x a at_y o h = by (or_cases (fields_point e.attrs t x a) (list_any (λ v. points v (λ b. t (AnyTag ∷ b)) x a) (values_in e.tags)) h)
  where
    by : (fields_point e.attrs t x a ≡ true) ⊎ (list_any (λ v. points v (λ b. t (AnyTag ∷ b)) x a) (values_in e.tags) ≡ true) → Leads s (entity y) t x a
    by (inl i) =
        let r = fields_lead s e.attrs t x a o.attrs i in
        record {
          steps = along r.name ∷ r.rest.steps;
          reaches = in_flat_map (λ w. walk s w r.rest.steps) r.value (entity x) (step s (entity y) (along r.name)) (rw (at_y, r.has) (inl refl)) r.rest.reaches;
          passes = r.rest.passes;
        }
    by (inr i) =
        let r = tags_lead s e.tags (λ b. t (AnyTag ∷ b)) x a o.tags i in
        record {
          steps = any_tag ∷ r.rest.steps;
          reaches = in_flat_map (λ w. walk s w r.rest.steps) r.value (entity x) (step s (entity y) any_tag) (rw at_y r.among) r.rest.reaches;
          passes = r.rest.passes;
        }

-- ---- what is asked for first is reached

pub start_reached : (b : Bool) (ns : Table) (q : Request) (s : Store) (x : EntityUID) (a : Address) → RootLeads ns q b x a → IsReached b ns q s x a
start_reached b ns q s x a l = record { path = record { root = l.root; steps = l.rest.steps }; reached = l.rest.reaches s; passes = l.rest.passes }

-- where a reached entity leads is reached
pub further_reached : (b : Bool) (ns : Table) (q : Request) (s : Store) (y x : EntityUID) (t : Test) (a : Address) → Leads s (entity y) t x a → ((c : Address) → t c ≡ true → IsReached b ns q s y c) → IsReached b ns q s x a
further_reached b ns q s y x t a l f =
    let r = f (map edge_of l.steps ++ a) l.passes in
    record {
      path = record { root = r.path.root; steps = r.path.steps ++ l.steps };
      reached = walk_on s (root_value q r.path.root) (entity y) (entity x) r.path.steps l.steps r.reached l.reaches;
      passes = subst (λ es. sees b (whole ns) (Root r.path.root ∷ es) ≡ true) (sym (append_assoc (map edge_of r.path.steps) (map edge_of l.steps) a) ∙ ap (λ es. es ++ a) (sym (map_append r.path.steps l.steps))) r.passes;
    }

-- ---- what is reached is asked for

module _ (b : Bool) (ns : Table) (q : Request) (s : Store) (asked : List Place)
    (followed : (y : EntityUID) (e : StoredEntity) → entity_at s y ≡ Some e → (x : EntityUID) (a : Address) → entity_points e (needs b ns asked y) x a ≡ true → needs b ns asked x a ≡ true) where
  walked : (ms : List Step) (v : Val) (t : Test) → ((x : EntityUID) (a : Address) → points v t x a ≡ true → needs b ns asked x a ≡ true) → (x : EntityUID) (a : Address) → IsIn (entity x) (walk s v ms) → t (map edge_of ms ++ a) ≡ true → needs b ns asked x a ≡ true
  walked [] v t all x a (inl e) h = all x a (subst (λ u. points u t x a ≡ true) (sym e) (and_from (uid_eq x x) (t a) (uid_self x) h))
  walked [] v t all x a (inr i) h = absurd i
  walked (n ∷ ms) v t all x a i h =
      let r = flat_map_out (λ w. walk s w ms) (entity x) (step s v n) i in
      walked ms r.from (λ c. t (edge_of n ∷ c)) (λ z c g. next v t all n r.from r.among z c g) x a r.gives h
    where
      listed : (o : Option Val) (w : Val) → IsIn w (option_to_list o) → o ≡ Some w
      listed None w k = absurd k
      listed (Some u) w (inl e) = ap Some e
      listed (Some u) w (inr k) = absurd k

      in_entity : (y : EntityUID) (u : Test) → ((c : Address) → u c ≡ true → needs b ns asked y c ≡ true) → (k : Step) (w : Val) (o : Option StoredEntity) → entity_at s y ≡ o → IsIn w (step s (entity y) k) → (z : EntityUID) (c : Address) → points w (λ d. u (edge_of k ∷ d)) z c ≡ true → needs b ns asked z c ≡ true
      in_entity y u f (along m) w None e k z c g = absurd (rw e at k)
      in_entity y u f any_tag w None e k z c g = absurd (rw e at k)
      in_entity y u f (along m) w (Some d) e k z c g =
          let there = listed (field_at d.attrs m) w (rw e at k) in
          followed y d e z c (or_left_true (fields_point d.attrs (needs b ns asked y) z c) (list_any (λ j. points j (λ l. needs b ns asked y (AnyTag ∷ l)) z c) (values_in d.tags))
          (in_fields z c d.attrs (needs b ns asked y) m w there (points_more z c w (λ l. u (Field m ∷ l)) (λ l. needs b ns asked y (Field m ∷ l)) (λ l. f (Field m ∷ l)) g)))
      in_entity y u f any_tag w (Some d) e k z c g =
          followed y d e z c (or_right_true (fields_point d.attrs (needs b ns asked y) z c) (list_any (λ j. points j (λ l. needs b ns asked y (AnyTag ∷ l)) z c) (values_in d.tags))
          (any_in (λ j. points j (λ l. needs b ns asked y (AnyTag ∷ l)) z c) w (values_in d.tags) (rw e at k) (points_more z c w (λ l. u (AnyTag ∷ l)) (λ l. needs b ns asked y (AnyTag ∷ l)) (λ l. f (AnyTag ∷ l)) g)))

      next : (u : Val) (p : Test) → ((z : EntityUID) (c : Address) → points u p z c ≡ true → needs b ns asked z c ≡ true) → (k : Step) (w : Val) → IsIn w (step s u k) → (z : EntityUID) (c : Address) → points w (λ d. p (edge_of k ∷ d)) z c ≡ true → needs b ns asked z c ≡ true
      next (entity y) p f k w j z c g = in_entity y p (λ d h2. f y d (and_from (uid_eq y y) (p d) (uid_self y) h2)) k w (entity_at s y) refl j z c g
      next (rec fs) p f (along m) w j z c g = f z c (in_fields z c fs p m w (listed (field_at fs m) w j) g)
      next (rec fs) p f any_tag w j z c g = absurd j
      next (truth d) p f k w j z c g = absurd j
      next (long d) p f k w j z c g = absurd j
      next (string d) p f k w j z c g = absurd j
      next (set d) p f k w j z c g = absurd j
      next (decimal d) p f k w j z c g = absurd j
      next (ip d) p f k w j z c g = absurd j
      next (datetime d) p f k w j z c g = absurd j
      next (duration d) p f k w j z c g = absurd j

  -- where the roots' values lead is asked for
  pub reached_asked : ((x : EntityUID) (a : Address) → roots_point ns q b x a ≡ true → needs b ns asked x a ≡ true) → (x : EntityUID) (a : Address) → IsReached b ns q s x a → needs b ns asked x a ≡ true
  reached_asked begun x a r =
      let d = begins b ns (Root r.path.root) (map edge_of r.path.steps ++ a) r.passes in
      walked r.path.steps (root_value q r.path.root) (sees b (record { nodes = ns; number = d.link.number }))
      (λ z c g. begun z c (any_in (λ l. root_points b (record { nodes = ns; number = l.number }) q l.edge z c) d.link (links_at ns 0) d.among
      (subst (λ e. root_points b (record { nodes = ns; number = d.link.number }) q e z c ≡ true) (sym d.edge) g))) x a r.reached d.rest
