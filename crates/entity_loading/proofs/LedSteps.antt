-- Steps that lead where values point.
use Rattle.std.proofs.Common.{◌≡◌, ◌⊎◌, ℕ, Bool, true, false, List, [], ◌∷◌, ◌++◌, Some, is_some, map, refl, sym, ap, ◌∙◌, subst, inl, inr}
use Rattle.std.specs.List.{list_any, AllByRecursion}
use Rattle.std.specs.List.Sorted.{IsStrictlySortedBy}
use Rattle.std.specs.Map.{keys_of}
use Rattle.std.specs.Ordering.{is_eq, ordering_reverse}
use Rattle.std.specs.declared.cmp.Ordering.TheVariants.{Less}
use Rattle.std.proofs.lemmas.Bool.{and_parts, or_cases}
use Rattle.std.proofs.lemmas.Cmp.{nat_list_cmp_total}
use Rattle.std.specs.declared.option.Option.{Option}
use Rattle.policy_values.specs.declared.entity_uid.EntityUID.{EntityUID}
use Rattle.policy_values.specs.Uid.{text_cmp, uid_eq}
use Rattle.policy_values.specs.Value.{Val, entity, rec, Fields, field, fields_of, field_at}
use Rattle.entity_store.specs.declared.request.Request.{Request}
use Rattle.entity_store.specs.Store.{StoredEntity}
use Rattle.access_tries.specs.declared.edge.Edge.{Edge}
use Rattle.access_tries.specs.declared.edge.Edge.TheVariants.{Field, AnyTag, Root}
use Rattle.access_tries.specs.Edges.{Address}
use Rattle.access_tries.specs.Paths.{edge_of}
use Rattle.access_tries.specs.Table.{Table, NodeData, at_path, has_mark}
use Rattle.access_tries.specs.Views.{ViewData, LeadsTo, LeadsNowhere}
use Rattle.reads_spec.specs.Paths.{Step, along, any_tag}
use Rattle.reads_spec.specs.Restrict.{values_in, step, step_in_entity, step_in_record, walk}
use Rattle.reads_spec.proofs.Lists.{IsIn, same_uid, in_flat_map}
use Rattle.type_relations.proofs.UnionLaws.{own_text}
use Rattle.entity_loading.specs.Begun.{root_points}
use Rattle.entity_loading.specs.Leads.{Leads, FieldsLead, EntityLeads, SomeLeads, RootLeads, IsLed, IsEdgeLed}
use Rattle.entity_loading.specs.Needs.{Test, sees, points, fields_point, entity_points}
use Rattle.entity_loading.proofs.FollowSteps.{sees_behind, points_behind, points_nothing, any_behind, any_nothing}

-- ---- values under their keys

abbrev pub entry : List ℕ → Val → List ℕ × Val
entry n v = (n, v)

of_key : (P : List ℕ → Type 0) (es : List (List ℕ × Val)) → AllByRecursion P (keys_of es) → (n : List ℕ) (v : Val) → IsIn (entry n v) es → P n
of_key P [] all n v h = absurd h
of_key P (e ∷ es) all n v (inl same) = subst P (ap (λ p. p.0) same) all.0
of_key P (e ∷ es) all n v (inr h) = of_key P es all.1 n v h

pub key_found : (es : List (List ℕ × Val)) → IsStrictlySortedBy text_cmp (keys_of es) → (n : List ℕ) (v : Val) → IsIn (entry n v) es → field_at (fields_of es) n ≡ Some v
unfolding IsStrictlySortedBy
key_found [] up n v h = absurd h
key_found (e ∷ es) up n v (inl same) = subst (λ p. field_at (field p.0 p.1 (fields_of es)) n ≡ Some v) (sym same) (rw (own_text n) refl)
key_found (e ∷ es) up n v (inr h) =
    let before : text_cmp e.0 n ≡ Less = of_key (λ k. text_cmp e.0 k ≡ Less) es up.0 n v h in
    let other : is_eq (text_cmp n e.0) ≡ false = ap is_eq (nat_list_cmp_total.antisymm n e.0 ∙ ap ordering_reverse before) in
    rw other (key_found es up.1 n v h)

-- ---- values

pub led_entity : (y : EntityUID) (v : ViewData) → IsLed v (points (entity y)) (Leads (entity y))
led_entity y v b x a h =
    let p = and_parts (uid_eq y x) (sees b v a) h in
    record { steps = []; reaches = λ s. inl (ap entity (same_uid y x p.0)); passes = p.1 }

pub led_record : (fs : Fields) (v : ViewData) → IsLed v (fields_point fs) (FieldsLead fs) → IsLed v (points (rec fs)) (Leads (rec fs))
led_record fs v f b x a h =
    let r = f b x a h in
    record {
      steps = r.first ∷ r.rest.steps;
      reaches = λ s. in_flat_map (λ w. walk s w r.rest.steps) r.value (entity x) (step s (rec fs) r.first) r.among (r.rest.reaches s);
      passes = r.rest.passes;
    }

-- where the tests are the same, steps lead alike
led_same : (u : Val) (t w : Test) → ((a : Address) → t a ≡ w a) → (x : EntityUID) (a : Address) → Leads u t x a → Leads u w x a
led_same u t w same x a l = record { steps = l.steps; reaches = l.reaches; passes = sym (same (map edge_of l.steps ++ a)) ∙ l.passes }

module _ (e : Edge) (v w : ViewData) (l : LeadsTo e v w) where
  pub led_behind : (u : Val) → IsLed w (points u) (Leads u) → (b : Bool) (x : EntityUID) (a : Address) → points u (λ c. sees b v (e ∷ c)) x a ≡ true → Leads u (λ c. sees b v (e ∷ c)) x a
  led_behind u f b x a h = led_same u (sees b w) (λ c. sees b v (e ∷ c)) (λ c. sym (sees_behind e v w l b c)) x a (f b x a (points_behind e v w l u b x a ∙ h))

  pub some_behind : (us : List Val) (b : Bool) (x : EntityUID) (a : Address) → SomeLeads us (sees b w) x a → SomeLeads us (λ c. sees b v (e ∷ c)) x a
  some_behind us b x a r = record { value = r.value; among = r.among; rest = led_same r.value (sees b w) (λ c. sees b v (e ∷ c)) (λ c. sym (sees_behind e v w l b c)) x a r.rest }

pub led_nowhere : (e : Edge) (v : ViewData) → LeadsNowhere e v → (u : Val) (b : Bool) (x : EntityUID) (a : Address) → points u (λ c. sees b v (e ∷ c)) x a ≡ true → Leads u (λ c. sees b v (e ∷ c)) x a
led_nowhere e v n u b x a h = let none = points_nothing e v n u b x a in absurd (cc (none, h))

-- ---- fields

-- steps lead where all fields point, or those that are left point there; these are found under their keys
pub record IsLeading (v : ViewData) (all left : List (List ℕ × Val)) : Type 0 where
  pub led : (b : Bool) (x : EntityUID) (a : Address) → fields_point (fields_of all) (sees b v) x a ≡ true → FieldsLead (fields_of all) (sees b v) x a ⊎ (fields_point (fields_of left) (sees b v) x a ≡ true)
  pub found : (n : List ℕ) (u : Val) → IsIn (entry n u) left → field_at (fields_of all) n ≡ Some u

pub leading_start : (v : ViewData) (all : List (List ℕ × Val)) → IsStrictlySortedBy text_cmp (keys_of all) → IsLeading v all all
leading_start v all up = record { led = λ b x a h. inr h; found = key_found all up }

module _ (v : ViewData) (all left : List (List ℕ × Val)) (t : IsLeading v all left) where
  pub leading_more : (n : List ℕ) (u : Val) (rest : List (List ℕ × Val)) → left ≡ entry n u ∷ rest
      → ((b : Bool) (x : EntityUID) (a : Address) → points u (λ c. sees b v (Field n ∷ c)) x a ≡ true → Leads u (λ c. sees b v (Field n ∷ c)) x a)
      → IsLeading v all rest
  leading_more n u rest is here = record { led = λ b x a h. by b x a (t.led b x a h); found = λ m w h. t.found m w (subst (IsIn (entry m w)) (sym is) (inr h)) }
    where
      this : (b : Bool) (x : EntityUID) (a : Address) → points u (λ c. sees b v (Field n ∷ c)) x a ≡ true → FieldsLead (fields_of all) (sees b v) x a
      this b x a h = record { first = along n; value = u; among = rw (t.found n u (subst (IsIn (entry n u)) (sym is) (inl refl))) (inl refl); rest = here b x a h }

      first : (b : Bool) (x : EntityUID) (a : Address) → (points u (λ c. sees b v (Field n ∷ c)) x a ≡ true) ⊎ (fields_point (fields_of rest) (sees b v) x a ≡ true) → FieldsLead (fields_of all) (sees b v) x a ⊎ (fields_point (fields_of rest) (sees b v) x a ≡ true)
      first b x a (inl h) = inl (this b x a h)
      first b x a (inr h) = inr h

      by : (b : Bool) (x : EntityUID) (a : Address) → FieldsLead (fields_of all) (sees b v) x a ⊎ (fields_point (fields_of left) (sees b v) x a ≡ true) → FieldsLead (fields_of all) (sees b v) x a ⊎ (fields_point (fields_of rest) (sees b v) x a ≡ true)
      by b x a (inl l) = inl l
      by b x a (inr h) = first b x a (or_cases (points u (λ c. sees b v (Field n ∷ c)) x a) (fields_point (fields_of rest) (sees b v) x a) (sym (ap (λ es. fields_point (fields_of es) (sees b v) x a) is) ∙ h))

  pub leading_done : left ≡ [] → IsLed v (fields_point (fields_of all)) (FieldsLead (fields_of all))
  leading_done is b x a h = by (t.led b x a h)
    where
      by : FieldsLead (fields_of all) (sees b v) x a ⊎ (fields_point (fields_of left) (sees b v) x a ≡ true) → FieldsLead (fields_of all) (sees b v) x a
      by (inl l) = l
      by (inr k) = let none = ap (λ es. fields_point (fields_of es) (sees b v) x a) is in absurd (cc (none, k))

-- ---- values, one after another

abbrev pub some_point : List Val → Test → EntityUID → Test
some_point vs t x a = list_any (λ u. points u t x a) vs

pub record IsLeadingSome (v : ViewData) (all left : List Val) : Type 0 where
  pub led : (b : Bool) (x : EntityUID) (a : Address) → some_point all (sees b v) x a ≡ true → SomeLeads all (sees b v) x a ⊎ (some_point left (sees b v) x a ≡ true)
  pub among : (u : Val) → IsIn u left → IsIn u all

pub some_start : (v : ViewData) (all left : List Val) → left ≡ all → IsLeadingSome v all left
some_start v all left is = rw is (record { led = λ b x a h. inr h; among = λ u h. h })

module _ (v : ViewData) (all left : List Val) (t : IsLeadingSome v all left) where
  pub some_more : (u : Val) (rest : List Val) → left ≡ u ∷ rest → IsLed v (points u) (Leads u) → IsLeadingSome v all rest
  some_more u rest is here = record { led = λ b x a h. by b x a (t.led b x a h); among = λ w h. t.among w (subst (IsIn w) (sym is) (inr h)) }
    where
      first : (b : Bool) (x : EntityUID) (a : Address) → (points u (sees b v) x a ≡ true) ⊎ (some_point rest (sees b v) x a ≡ true) → SomeLeads all (sees b v) x a ⊎ (some_point rest (sees b v) x a ≡ true)
      first b x a (inl h) = inl (record { value = u; among = t.among u (subst (IsIn u) (sym is) (inl refl)); rest = here b x a h })
      first b x a (inr h) = inr h

      by : (b : Bool) (x : EntityUID) (a : Address) → SomeLeads all (sees b v) x a ⊎ (some_point left (sees b v) x a ≡ true) → SomeLeads all (sees b v) x a ⊎ (some_point rest (sees b v) x a ≡ true)
      by b x a (inl l) = inl l
      by b x a (inr h) = first b x a (or_cases (points u (sees b v) x a) (some_point rest (sees b v) x a) (sym (ap (λ vs. some_point vs (sees b v) x a) is) ∙ h))

  pub some_done : left ≡ [] → IsLed v (some_point all) (SomeLeads all)
  some_done is b x a h = by (t.led b x a h)
    where
      by : SomeLeads all (sees b v) x a ⊎ (some_point left (sees b v) x a ≡ true) → SomeLeads all (sees b v) x a
      by (inl l) = l
      by (inr k) = let none = ap (λ vs. some_point vs (sees b v) x a) is in absurd (cc (none, k))

-- ---- entities

module _ (e : StoredEntity) (t : Test) (x : EntityUID) (a : Address) where
  along_attribute : FieldsLead e.attrs t x a → EntityLeads e t x a
  along_attribute r = record { first = r.first; value = r.value; among = by r.first r.among; rest = r.rest }
    where
      by : (n : Step) → IsIn r.value (step_in_record e.attrs n) → IsIn r.value (step_in_entity (Some e) n)
      by (along n) h = h
      by any_tag h = absurd h

  along_tag : SomeLeads (values_in e.tags) (λ c. t (AnyTag ∷ c)) x a → EntityLeads e t x a
  along_tag r = record { first = any_tag; value = r.value; among = r.among; rest = r.rest }

  either_way : (fields_point e.attrs t x a ≡ true → FieldsLead e.attrs t x a) → (some_point (values_in e.tags) (λ c. t (AnyTag ∷ c)) x a ≡ true → SomeLeads (values_in e.tags) (λ c. t (AnyTag ∷ c)) x a) → entity_points e t x a ≡ true → EntityLeads e t x a
  either_way f g h = by (or_cases (fields_point e.attrs t x a) (some_point (values_in e.tags) (λ c. t (AnyTag ∷ c)) x a) h)
    where
      by : (fields_point e.attrs t x a ≡ true) ⊎ (some_point (values_in e.tags) (λ c. t (AnyTag ∷ c)) x a ≡ true) → EntityLeads e t x a
      by (inl i) = along_attribute (f i)
      by (inr i) = along_tag (g i)

pub led_with_tags : (e : StoredEntity) (v w : ViewData) → LeadsTo AnyTag v w → IsLed v (fields_point e.attrs) (FieldsLead e.attrs) → IsLed w (some_point (values_in e.tags)) (SomeLeads (values_in e.tags)) → IsLed v (entity_points e) (EntityLeads e)
led_with_tags e v w l f g b x a h = either_way e (sees b v) x a (f b x a) (λ i. some_behind AnyTag v w l (values_in e.tags) b x a (g b x a (any_behind AnyTag v w l (values_in e.tags) b x a ∙ i))) h

pub led_without_tags : (e : StoredEntity) (v : ViewData) → LeadsNowhere AnyTag v → IsLed v (fields_point e.attrs) (FieldsLead e.attrs) → IsLed v (entity_points e) (EntityLeads e)
led_without_tags e v n f b x a h = either_way e (sees b v) x a (f b x a) (λ i. let none = any_nothing AnyTag v n (values_in e.tags) b x a in absurd (cc (none, i))) h

-- ---- roots

module _ (ns : Table) (q : Request) (number : ℕ) (d : Edge) (leads_on : (f : Option NodeData → Bool) (es : Address) → at_path f ns number es ≡ true → at_path f ns 0 (d ∷ es) ≡ true) where
  behind_root : (e : Edge) → ((f : Option NodeData → Bool) (es : Address) → at_path f ns number es ≡ true → at_path f ns 0 (e ∷ es) ≡ true) → IsEdgeLed (record { nodes = ns; number = number }) q e
      → (b : Bool) (x : EntityUID) (a : Address) → root_points b (record { nodes = ns; number = number }) q e x a ≡ true → RootLeads ns q b x a
  behind_root (Root r) on led b x a h =
      let l = led b x a h in
      record { root = r; rest = record { steps = l.steps; reaches = l.reaches; passes = passed b (map edge_of l.steps ++ a) l.passes } }
    where
      passed : (c : Bool) (es : Address) → sees c (record { nodes = ns; number = number }) es ≡ true → sees c (record { nodes = ns; number = 0 }) (Root r ∷ es) ≡ true
      passed false es i = on is_some es i
      passed true es i = on has_mark es i
  behind_root (Field n) on led b x a h = absurd (cc)
  behind_root AnyTag on led b x a h = absurd (cc)

  pub led_root : IsEdgeLed (record { nodes = ns; number = number }) q d → (b : Bool) (x : EntityUID) (a : Address) → root_points b (record { nodes = ns; number = number }) q d x a ≡ true → RootLeads ns q b x a
  led_root = behind_root d leads_on
