-- Fields that are cut one after another.
use Rattle.std.proofs.Common.{◌≡◌, ℕ, zero, suc, get_or, ◌≤◌, ◌<◌, Bool, true, false, ◌||◌, length, List, [], ◌∷◌, ◌++◌, map, refl, sym, ap, ◌∙◌, subst, arith, append_assoc}
use Rattle.std.specs.Prelude.{if◌then◌else◌}
use Rattle.std.specs.List.{list_any, AllByRecursion}
use Rattle.std.proofs.lemmas.List.Folds.{list_any-append}
use Rattle.std.specs.List.Sorted.{IsStrictlySortedBy}
use Rattle.std.specs.Map.{keys_of}
use Rattle.std.specs.Ordering.{ordering_reverse}
use Rattle.std.specs.declared.cmp.Ordering.TheVariants.{Less}
use Rattle.std.proofs.lemmas.Cmp.{nat_list_cmp_total}
use Rattle.policy_values.specs.Uid.{text_cmp}
use Rattle.policy_values.specs.Maps.{IsNext}
use Rattle.policy_values.specs.Value.{Val, Fields, field, fields_of, size_of, size_of_fields}
use Rattle.policy_values.proofs.MapSteps.{keys_of-append}
use Rattle.access_tries.specs.declared.edge.Edge.{Edge}
use Rattle.access_tries.specs.Paths.{edge_of}
use Rattle.access_tries.specs.Views.{ViewData, view_leads, LeadsTo, LeadsNowhere}
use Rattle.access_tries.specs.Edges.{Address}
use Rattle.access_tries.specs.Table.{Table}
use Rattle.entity_loader.specs.Asked.{asked, asked_by, asks, by_tag, some_leads, some_along, AreBelow}
use Rattle.reads_spec.specs.Paths.{any_tag, Chain, steps_of}
use Rattle.reads_spec.specs.Restrict.{cut, cut_fields}
use Rattle.plain_lemmas.proofs.Lists.{all_push, empty_of_length}
use Rattle.plain_lemmas.proofs.Booleans.{or_false}

abbrev Entries : Type 0
Entries = List (List ℕ × Val)

-- the chosen entries, each with its chosen part
abbrev pub cut_entries : List (List ℕ × Val) → (Chain → Bool) → List (List ℕ × Val)
cut_entries [] k = []
cut_entries (e ∷ es) k = if k (e.0 ∷ []) then (e.0, cut e.1 (λ c. k (e.0 ∷ c))) ∷ cut_entries es k else cut_entries es k

fields_of-cut : (es : Entries) (k : Chain → Bool) → fields_of (cut_entries es k) ≡ cut_fields (fields_of es) k
fields_of-cut [] k = refl
fields_of-cut (e ∷ es) k = by (k (e.0 ∷ [])) (fields_of-cut es k) where
  by : (b : Bool) → fields_of (cut_entries es k) ≡ cut_fields (fields_of es) k → fields_of (if b then (e.0, cut e.1 (λ c. k (e.0 ∷ c))) ∷ cut_entries es k else cut_entries es k) ≡ (if b then field e.0 (cut e.1 (λ c. k (e.0 ∷ c))) (cut_fields (fields_of es) k) else cut_fields (fields_of es) k)
  by true later = ap (field e.0 (cut e.1 (λ c. k (e.0 ∷ c)))) later
  by false later = later

-- the keys come behind those of the entries
abbrev pub AreBehind : List (List ℕ × Val) → List (List ℕ) → Type 0
AreBehind kept ns = AllByRecursion (λ n. IsNext n (keys_of kept)) ns

next_push : (m : List ℕ) (ks : List (List ℕ)) (n : List ℕ) → IsNext m ks → text_cmp n m ≡ Less → IsNext m (ks ++ n ∷ [])
next_push m [] n h before = (nat_list_cmp_total.antisymm m n ∙ ap ordering_reverse before, tt)
next_push m (k ∷ ks) n h before = (h.0, next_push m ks n h.1 before)

behind_push : (kept : Entries) (n : List ℕ) (v : Val) (ms : List (List ℕ)) → AreBehind kept ms → AllByRecursion (λ m. text_cmp n m ≡ Less) ms → AreBehind (kept ++ (n, v) ∷ []) ms
behind_push kept n v [] h before = tt
behind_push kept n v (m ∷ ms) h before = (subst (IsNext m) (sym (keys_of-append kept ((n, v) ∷ []))) (next_push m (keys_of kept) n h.0 before.0), behind_push kept n v ms h.1 before.1)

pub behind_none : (ms : List (List ℕ)) → AreBehind [] ms
behind_none [] = tt
behind_none (m ∷ ms) = (tt, behind_none ms)

-- those of `left` are still to be cut
pub record IsCutting (k : Chain → Bool) (all left kept : List (List ℕ × Val)) : Type 0 where
  pub split : kept ++ cut_entries left k ≡ cut_entries all k
  pub behind : AreBehind kept (keys_of left)
  pub ascending : IsStrictlySortedBy text_cmp (keys_of left)
  pub within : size_of_fields (fields_of left) ≤ size_of_fields (fields_of all)

pub cut_start : (k : Chain → Bool) (all : List (List ℕ × Val)) → IsStrictlySortedBy text_cmp (keys_of all) → IsCutting k all all []
cut_start k all up = record { split = refl; behind = behind_none (keys_of all); ascending = up; within = omega arith }

module _ (k : Chain → Bool) (all left kept : List (List ℕ × Val)) (n : List ℕ) (v : Val) (rest : List (List ℕ × Val)) (is : left ≡ (n, v) ∷ rest) (t : IsCutting k all left kept) where
  behind_it : AreBehind kept (n ∷ keys_of rest)
  behind_it = subst (λ l. AreBehind kept (keys_of l)) is t.behind

  ascends_it : IsStrictlySortedBy text_cmp (n ∷ keys_of rest)
  ascends_it = subst (λ l. IsStrictlySortedBy text_cmp (keys_of l)) is t.ascending

  pub next_key : IsNext n (keys_of kept)
  next_key = behind_it.0

  pub no_larger : size_of v ≤ size_of_fields (fields_of all)
  no_larger = omega (arith, t.within, ap (λ l. size_of_fields (fields_of l)) is)

  less : size_of_fields (fields_of rest) ≤ size_of_fields (fields_of all)
  less = omega (arith, t.within, ap (λ l. size_of_fields (fields_of l)) is)

  pub cut_skip : k (n ∷ []) ≡ false → IsCutting k all rest kept
  unfolding IsStrictlySortedBy
  cut_skip gone = record {
    split = sym (ap (λ l. kept ++ l) (ap (λ l. cut_entries l k) is ∙ rw gone refl)) ∙ t.split;
    behind = behind_it.1;
    ascending = ascends_it.1;
    within = less;
  }

  pub cut_more : k (n ∷ []) ≡ true → (w : Val) → w ≡ cut v (λ c. k (n ∷ c)) → IsCutting k all rest (kept ++ (n, w) ∷ [])
  unfolding IsStrictlySortedBy
  cut_more chosen w e =
      let first : cut_entries ((n, v) ∷ rest) k ≡ (n, w) ∷ cut_entries rest k = rw (chosen, e) refl in
      record {
        split = append_assoc kept ((n, w) ∷ []) (cut_entries rest k) ∙ sym (ap (λ l. kept ++ l) (ap (λ l. cut_entries l k) is ∙ first)) ∙ t.split;
        behind = behind_push kept n w (keys_of rest) behind_it.1 ascends_it.0;
        ascending = ascends_it.1;
        within = less;
      }

append_nil : (es : Entries) → es ++ [] ≡ es
append_nil [] = refl
append_nil (e ∷ es) = ap (λ l. e ∷ l) (append_nil es)

pub cut_done : (k : Chain → Bool) (all kept : List (List ℕ × Val)) → IsCutting k all [] kept → fields_of kept ≡ cut_fields (fields_of all) k
cut_done k all kept t = ap fields_of (sym (append_nil kept) ∙ t.split) ∙ fields_of-cut all k

pub cut_no_field : (es : List (List ℕ × Val)) (k : Chain → Bool) → ((n : List ℕ) → k (n ∷ []) ≡ false) → fields_of [] ≡ cut_fields (fields_of es) k
cut_no_field [] k none = refl
cut_no_field (e ∷ es) k none = rw (none e.0) (cut_no_field es k none)

-- ---- the nodes behind an edge

or_with : (a b c d : Bool) → a ≡ c → b ≡ d → (a || (b || false)) ≡ (c || (d || false))
or_with a b c d f g = rw (f, g) refl

pub below_none : (e : Edge) (ns : Table) → AreBelow e ns [] []
below_none e ns = record { leads = λ es. refl; there = tt }

module _ (e : Edge) (ns : Table) (is js : List ℕ) (i : ℕ) (b : AreBelow e ns is js) where
  pub below_more : (w : ViewData) → LeadsTo e (record { nodes = ns; number = i }) w → AreBelow e ns (is ++ i ∷ []) (js ++ w.number ∷ [])
  below_more w l = record {
    leads = λ es.
        list_any-append (λ j. view_leads (record { nodes = ns; number = j }) es) js (w.number ∷ [])
        ∙ or_with (some_leads ns js es) (view_leads (record { nodes = ns; number = w.number }) es) (some_leads ns is (e ∷ es)) (view_leads (record { nodes = ns; number = i }) (e ∷ es)) (b.leads es)
        ((λ k. view_leads (record { nodes = sym l.table k; number = w.number }) es) ∙ sym (l.paths es))
        ∙ sym (list_any-append (λ j. view_leads (record { nodes = ns; number = j }) (e ∷ es)) is (i ∷ []));
    there = all_push (λ j. view_leads (record { nodes = ns; number = j }) [] ≡ true) js w.number b.there ((λ k. view_leads (record { nodes = sym l.table k; number = w.number }) []) ∙ l.there);
  }

  pub below_skip : LeadsNowhere e (record { nodes = ns; number = i }) → AreBelow e ns (is ++ i ∷ []) js
  below_skip n = record {
    leads = λ es. b.leads es ∙ sym (list_any-append (λ j. view_leads (record { nodes = ns; number = j }) (e ∷ es)) is (i ∷ []) ∙ ap (λ c. some_leads ns is (e ∷ es) || (c || false)) (n es) ∙ or_false (some_leads ns is (e ∷ es)));
    there = b.there;
  }

some_there : {X : Type 0} (f : X → Bool) (xs : List X) → 0 < length xs → AllByRecursion (λ x. f x ≡ true) xs → list_any f xs ≡ true
some_there f [] some h = absurd (omega (arith, some))
some_there f (x ∷ xs) some h = rw h.0 refl

module _ (e : Edge) (ns : Table) (is js : List ℕ) (b : AreBelow e ns is js) where
  pub there_behind : 0 < length js → some_leads ns js [] ≡ true
  there_behind some = some_there (λ j. view_leads (record { nodes = ns; number = j }) []) js some b.there

  pub chosen_there : 0 < length js → some_leads ns is (e ∷ []) ≡ true
  chosen_there some = sym (b.leads []) ∙ there_behind some

  pub not_chosen : js ≡ [] → (es : Address) → some_leads ns is (e ∷ es) ≡ false
  not_chosen none es = sym (b.leads es) ∙ ap (λ ks. some_leads ns ks es) none

  pub cut_below : (v : Val) → cut v (some_along ns js) ≡ cut v (λ c. some_leads ns is (e ∷ map edge_of (steps_of c)))
  cut_below v = ap (cut v) (λ i c. b.leads (map edge_of (steps_of c)) i)

  pub fields_below : (fs : Fields) → cut_fields fs (by_tag (some_along ns js)) ≡ cut_fields fs (by_tag (λ c. some_leads ns is (e ∷ map edge_of (steps_of c))))
  fields_below fs = ap (λ k. cut_fields fs (by_tag k)) (λ i c. b.leads (map edge_of (steps_of c)) i)

-- one node alone
pub asked_alone : (t : ViewData) → asked_by t.nodes (t.number ∷ []) ≡ asked t
asked_alone t = λ i. record { chains = λ x c. or_false (asks t (steps_of c)) i; ancestors = λ x y. false; tags = λ x. by_tag (λ c. or_false (asks t (any_tag ∷ steps_of c)) i) }

-- what stands there does not depend on what would stand elsewhere
pub got_same : {X : Type 0} (xs : List X) (i : ℕ) (d e : X) → i < length xs → get_or xs i d ≡ get_or xs i e
got_same [] i d e h = absurd (omega (arith, h))
got_same (x ∷ xs) zero d e h = refl
got_same (x ∷ xs) (suc i) d e h = got_same xs i d e (omega (arith, h))

-- the node with this number in the table of an equal one
pub node_in : (v w : ViewData) → v ≡ w → v ≡ record { nodes = w.nodes; number = v.number }
node_in v w same j = record { nodes = (same j).nodes; number = v.number }
