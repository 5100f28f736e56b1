-- Steps of naming.
use Rattle.std.proofs.Common.{◌≡◌, ◌⊎◌, ℕ, ◌-◌, ◌<◌, Bool, true, false, cond, ◌&&◌, ◌||◌, List, [], ◌∷◌, length, map, Option, Some, None, refl, sym, ap, subst, ◌∙◌, inl, inr, arith}
use Rattle.std.specs.Prelude.{◌↔◌}
use Rattle.std.specs.BTreeSet.{BTreeSet, contains}
use Rattle.std.specs.List.{list_any, flat_map, AllByRecursion}
use Rattle.std.specs.Option.{option_to_list}
use Rattle.std.proofs.lemmas.Bool.{and_parts, or_cases, false≢true}
use Rattle.policy_values.specs.declared.entity_uid.EntityUID.{EntityUID}
use Rattle.policy_values.specs.Uid.{uid_cmp, uid_eq}
use Rattle.entity_store.specs.declared.request.Request.{Request}
use Rattle.entity_store.specs.Store.{StoredEntity, Store, entity_at}
use Rattle.policy_values.specs.Value.{Val, entity, rec, Fields, field_at}
use Rattle.access_tries.specs.declared.edge.Edge.{Edge}
use Rattle.access_tries.specs.declared.edge.Edge.TheVariants.{Field, AnyTag, Root}
use Rattle.access_tries.specs.declared.edge.EntityRoot.{EntityRoot}
use Rattle.access_tries.specs.declared.table.Link.{Link}
use Rattle.access_tries.specs.Edges.{Address, edge_eq}
use Rattle.access_tries.specs.Paths.{edge_of}
use Rattle.access_tries.specs.Table.{Table, at_path, has_mark, links_at}
use Rattle.access_tries.specs.Views.{ViewData, view_marks, LeadsTo, with_child, with_root, children_in, roots_in, children_of, roots_of, AreChildren, AreRoots}
use Rattle.reads_spec.specs.Paths.{Step, along, any_tag}
use Rattle.reads_spec.specs.Restrict.{names_id, values_in, root_value, step, walk}
use Rattle.reads_spec.proofs.Lists.{IsIn, in_flat_map, flat_map_out, any_in, same_uid, uid_self}
use Rattle.plain_lemmas.proofs.Booleans.{or_left_true, or_right_true}
use Rattle.reads_spec.proofs.Words.{any_out}
use Rattle.entity_loading.specs.Names.{IsNamed, Names, SomeNames}
use Rattle.entity_loading.specs.Waiting.{Has, Adds}
use Rattle.plain_lemmas.proofs.Lists.{within_of_is_some}
use Rattle.access_tries.specs.SameLaws.{edge_is}

-- ---- what grows

pub adds_none : (P old : EntityUID → Type 0) → ((y : EntityUID) → P y → ⊥) → Adds P old old
adds_none P old h = record { each = λ y. (λ i. inl i, λ e. elim e [ inl i ↦ i | inr p ↦ absurd (h y p) ]) }

pub adds_same : (P Q old new : EntityUID → Type 0) → ((y : EntityUID) → P y ↔ Q y) → Adds P old new → Adds Q old new
adds_same P Q old new f a = record {
  each = λ y. (
    λ i. elim ((a.each y).0 i) [ inl j ↦ inl j | inr p ↦ inr ((f y).0 p) ],
    λ e. elim e [ inl j ↦ (a.each y).1 (inl j) | inr q ↦ (a.each y).1 (inr ((f y).1 q)) ],
  );
}

pub adds_both : (P Q R old mid new : EntityUID → Type 0) → ((y : EntityUID) → R y ↔ (P y ⊎ Q y)) → Adds P old mid → Adds Q mid new → Adds R old new
adds_both P Q R old mid new f a b = record { each = λ y. (λ i. out y ((b.each y).0 i), λ e. back y e) }
  where
    first : (y : EntityUID) → old y ⊎ P y → old y ⊎ R y
    first y (inl j) = inl j
    first y (inr p) = inr ((f y).1 (inl p))

    out : (y : EntityUID) → mid y ⊎ Q y → old y ⊎ R y
    out y (inl j) = first y ((a.each y).0 j)
    out y (inr q) = inr ((f y).1 (inr q))

    part : (y : EntityUID) → P y ⊎ Q y → new y
    part y (inl p) = (b.each y).1 (inl ((a.each y).1 (inr p)))
    part y (inr q) = (b.each y).1 (inr q)

    back : (y : EntityUID) → old y ⊎ R y → new y
    back y (inl j) = (b.each y).1 (inl ((a.each y).1 (inl j)))
    back y (inr r) = part y ((f y).0 r)

-- what was named is there, but for what is left
pub record IsNaming (all left old new : EntityUID → Type 0) : Type 0 where
  pub each : (y : EntityUID) → (new y ⊎ left y) ↔ (old y ⊎ all y)

pub naming_start : (all left old : EntityUID → Type 0) → ((y : EntityUID) → left y ↔ all y) → IsNaming all left old old
naming_start all left old f = record {
  each = λ y. (
    λ e. elim e [ inl i ↦ inl i | inr l ↦ inr ((f y).0 l) ],
    λ e. elim e [ inl i ↦ inl i | inr l ↦ inr ((f y).1 l) ],
  );
}

pub naming_more : (all left this rest old mid new : EntityUID → Type 0) → ((y : EntityUID) → left y ↔ (this y ⊎ rest y)) → IsNaming all left old mid → Adds this mid new → IsNaming all rest old new
naming_more all left this rest old mid new f n a = record { each = λ y. (λ e. (n.each y).0 (out y e), λ e. back y ((n.each y).1 e)) }
  where
    had : (y : EntityUID) → mid y ⊎ this y → mid y ⊎ left y
    had y (inl i) = inl i
    had y (inr t) = inr ((f y).1 (inl t))

    out : (y : EntityUID) → new y ⊎ rest y → mid y ⊎ left y
    out y (inl i) = had y ((a.each y).0 i)
    out y (inr r) = inr ((f y).1 (inr r))

    part : (y : EntityUID) → this y ⊎ rest y → new y ⊎ rest y
    part y (inl t) = inl ((a.each y).1 (inr t))
    part y (inr r) = inr r

    back : (y : EntityUID) → mid y ⊎ left y → new y ⊎ rest y
    back y (inl i) = inl ((a.each y).1 (inl i))
    back y (inr l) = part y ((f y).0 l)

pub naming_skip : (all left rest old new : EntityUID → Type 0) → ((y : EntityUID) → left y ↔ rest y) → IsNaming all left old new → IsNaming all rest old new
naming_skip all left rest old new f n = record {
  each = λ y. (
    λ e. (n.each y).0 (elim e [ inl i ↦ inl i | inr r ↦ inr ((f y).1 r) ]),
    λ e. elim ((n.each y).1 e) [ inl i ↦ inl i | inr l ↦ inr ((f y).0 l) ],
  );
}

pub naming_done : (all left old new : EntityUID → Type 0) → ((y : EntityUID) → left y → ⊥) → IsNaming all left old new → Adds all old new
naming_done all left old new f n = record {
  each = λ y. (
    λ i. (n.each y).0 (inl i),
    λ e. elim ((n.each y).1 e) [ inl i ↦ i | inr l ↦ absurd (f y l) ],
  );
}

-- an id that is put in
pub inserted : (x : EntityUID) (old new : BTreeSet EntityUID) → ((q : EntityUID) → contains uid_cmp new q ≡ cond (uid_eq x q) true (contains uid_cmp old q)) → Adds (λ y. uid_eq y x ≡ true) (Has old) (Has new)
inserted x old new put = record { each = λ y. one y (uid_eq x y) refl (put y) }
  where
    one : (y : EntityUID) (b : Bool) → uid_eq x y ≡ b → contains uid_cmp new y ≡ cond b true (contains uid_cmp old y) → Has new y ↔ (Has old y ⊎ (uid_eq y x ≡ true))
    one y true e h = (λ i. inr (subst (λ z. uid_eq z x ≡ true) (same_uid x y e) (uid_self x)), λ i. h)
    one y false e h = (λ i. inl (sym h ∙ i), λ i. elim i [ inl j ↦ h ∙ j | inr j ↦ absurd (false≢true (sym e ∙ subst (λ z. uid_eq x z ≡ true) (sym (same_uid y x j)) (uid_self x))) ])

pub or_iff : (a b : Bool) → ((a || b) ≡ true) ↔ ((a ≡ true) ⊎ (b ≡ true))
or_iff a b = (or_cases a b, λ e. elim e [ inl i ↦ or_left_true a b i | inr i ↦ or_right_true a b i ])

pub both_known : (P : EntityUID → Type 0) (Q : Type 0) → Q → (y : EntityUID) → P y ↔ (Q × P y)
both_known P Q q y = (λ p. (q, p), λ r. r.1)

-- ---- here, and behind a step

any_one : (f : Val → Bool) (v : Val) → list_any f (v ∷ []) ≡ true → f v ≡ true
any_one f v h = elim (or_cases (f v) false h) [ inl i ↦ i | inr i ↦ absurd (cc) ]

one_any : (f : Val → Bool) (v : Val) → f v ≡ true → list_any f (v ∷ []) ≡ true
one_any f v h = any_in f v (v ∷ []) (inl refl) h

abbrev pub NamesHere : Val → ViewData → EntityUID → Type 0
NamesHere v t y = (view_marks t [] ≡ true) × (names_id y v ≡ true)

pub record NamesBehind (s : Store) (v : Val) (t : ViewData) (y : EntityUID) : Type 0 where
  pub first : Step
  pub value : Val
  pub among : IsIn value (step s v first)
  pub steps : List Step
  pub marked : view_marks t (edge_of first ∷ map edge_of steps) ≡ true
  pub named : list_any (names_id y) (walk s value steps) ≡ true

module _ (s : Store) (v : Val) (t : ViewData) (y : EntityUID) where
  pub names_split : Names s v t y → NamesHere v t y ⊎ NamesBehind s v t y
  names_split n = by n.steps n.marked n.named
    where
      by : (ms : List Step) → view_marks t (map edge_of ms) ≡ true → list_any (names_id y) (walk s v ms) ≡ true → NamesHere v t y ⊎ NamesBehind s v t y
      by [] m h = inl (m, any_one (names_id y) v h)
      by (k ∷ ms) m h =
          let a = any_out (names_id y) (flat_map (λ w. walk s w ms) (step s v k)) h in
          let r = flat_map_out (λ w. walk s w ms) a.0 (step s v k) a.1 in
          inr (record { first = k; value = r.from; among = r.among; steps = ms; marked = m; named = any_in (names_id y) a.0 (walk s r.from ms) r.gives a.2 })

  pub here_names : NamesHere v t y → Names s v t y
  here_names h = record { steps = []; marked = h.0; named = one_any (names_id y) v h.1 }

  pub behind_names : NamesBehind s v t y → Names s v t y
  behind_names b =
      let a = any_out (names_id y) (walk s b.value b.steps) b.named in
      record {
        steps = b.first ∷ b.steps;
        marked = b.marked;
        named = any_in (names_id y) a.0 (flat_map (λ w. walk s w b.steps) (step s v b.first)) (in_flat_map (λ w. walk s w b.steps) b.value a.0 (step s v b.first) b.among a.1) a.2;
      }

  -- a value that names nothing, and from which no step leads on
  pub names_nothing : names_id y v ≡ false → ((k : Step) → step s v k ≡ []) → Names s v t y → ⊥
  names_nothing h none n = elim (names_split n) [
    | inl i ↦ false≢true (sym h ∙ i.1)
    | inr b ↦ subst (IsIn b.value) (none b.first) b.among
  ]

  -- where no step leads on, what is named is named here
  pub names_alone : ((k : Step) → step s v k ≡ []) → Names s v t y → NamesHere v t y
  names_alone none n = elim (names_split n) [
    | inl h ↦ h
    | inr b ↦ absurd (subst (IsIn b.value) (none b.first) b.among)
  ]

-- ---- children

pub all_in : {A : Type 0} (P : A → Type 0) (x : A) (xs : List A) → IsIn x xs → AllByRecursion P xs → P x
all_in P x [] h a = absurd h
all_in P x (z ∷ xs) (inl e) a = subst P e a.0
all_in P x (z ∷ xs) (inr h) a = all_in P x xs h a.1

pub record ChildNames (s : Store) (fs : Fields) (cs : List (List ℕ × ViewData)) (y : EntityUID) : Type 0 where
  pub name : List ℕ
  pub below : ViewData
  pub among : IsIn (name, below) cs
  pub value : Val
  pub has : field_at fs name ≡ Some value
  pub names : Names s value below y

-- a path along a field goes through a child
pub record Through (n : List ℕ) (a : Address) (cs : List (List ℕ × ViewData)) : Type 0 where
  pub below : ViewData
  pub among : IsIn (n, below) cs
  pub marked : view_marks below a ≡ true

through_more : (n : List ℕ) (a : Address) (e : Edge) (w : ViewData) (cs : List (List ℕ × ViewData)) → Through n a cs → Through n a (with_child e w cs)
through_more n a (Field m) w cs t = record { below = t.below; among = inr t.among; marked = t.marked }
through_more n a AnyTag w cs t = t
through_more n a (Root r) w cs t = t

through_first : (n : List ℕ) (a : Address) (e : Edge) (w : ViewData) (cs : List (List ℕ × ViewData)) → edge_eq e (Field n) ≡ true → view_marks w a ≡ true → Through n a (with_child e w cs)
through_first n a e w cs h m = rw (edge_is e (Field n) h) (record { below = w; among = inl refl; marked = m })

through_some : (ns : Table) (n : List ℕ) (a : Address) (ls : List Link) → list_any (λ l. edge_eq l.edge (Field n) && at_path has_mark ns l.number a) ls ≡ true → Through n a (children_in ns ls)
through_some ns n a [] h = absurd (cc)
through_some ns n a (l ∷ ls) h = by (or_cases (edge_eq l.edge (Field n) && at_path has_mark ns l.number a) _ h) (through_some ns n a ls)
  where
    w : ViewData
    w = record { nodes = ns; number = l.number }

    by : ((edge_eq l.edge (Field n) && at_path has_mark ns l.number a) ≡ true) ⊎ (list_any (λ k. edge_eq k.edge (Field n) && at_path has_mark ns k.number a) ls ≡ true)
        → (list_any (λ k. edge_eq k.edge (Field n) && at_path has_mark ns k.number a) ls ≡ true → Through n a (children_in ns ls)) → Through n a (with_child l.edge w (children_in ns ls))
    by (inl i) f = let b = and_parts (edge_eq l.edge (Field n)) (at_path has_mark ns l.number a) i in through_first n a l.edge w (children_in ns ls) b.0 b.1
    by (inr i) f = through_more n a l.edge w (children_in ns ls) (f i)

listed : (o : Option Val) (v : Val) → IsIn v (option_to_list o) → o ≡ Some v
listed None v h = absurd h
listed (Some w) v (inl e) = ap Some e
listed (Some w) v (inr h) = absurd h

listed_back : (o : Option Val) (v : Val) → o ≡ Some v → IsIn v (option_to_list o)
listed_back o v e = rw e (inl refl)

module _ (s : Store) (fs : Fields) (t : ViewData) (y : EntityUID) where
  behind_field : NamesBehind s (rec fs) t y → ChildNames s fs (children_of t) y
  behind_field b = by b.first b.among b.marked
    where
      by : (k : Step) → IsIn b.value (step s (rec fs) k) → view_marks t (edge_of k ∷ map edge_of b.steps) ≡ true → ChildNames s fs (children_of t) y
      by (along n) i m =
          let r = through_some t.nodes n (map edge_of b.steps) (links_at t.nodes t.number) m in
          record { name = n; below = r.below; among = r.among; value = b.value; has = listed (field_at fs n) b.value i; names = record { steps = b.steps; marked = r.marked; named = b.named } }
      by any_tag i m = absurd i

  pub names_children : Names s (rec fs) t y → ChildNames s fs (children_of t) y
  names_children n = elim (names_split s (rec fs) t y n) [
    | inl h ↦ absurd (cc (h.1))
    | inr b ↦ behind_field b
  ]

  pub children_names : AreChildren t (children_of t) → ChildNames s fs (children_of t) y → Names s (rec fs) t y
  children_names lead c =
      let l = all_in (λ d. LeadsTo (Field d.0) t d.1) (c.name, c.below) (children_of t) c.among lead in
      behind_names s (rec fs) t y (record {
        first = along c.name;
        value = c.value;
        among = listed_back (field_at fs c.name) c.value c.has;
        steps = c.names.steps;
        marked = l.marks (map edge_of c.names.steps) ∙ c.names.marked;
        named = c.names.named;
      })

module _ (s : Store) (fs : Fields) (n : List ℕ) (w : ViewData) (cs : List (List ℕ × ViewData)) (y : EntityUID) where
  pub child_first : (v : Val) → field_at fs n ≡ Some v → ChildNames s fs ((n, w) ∷ cs) y ↔ (Names s v w y ⊎ ChildNames s fs cs y)
  child_first v is = (λ c. by c.name c.below c.value c.among c.has c.names, back)
    where
      by : (m : List ℕ) (u : ViewData) (z : Val) → IsIn (let d : List ℕ × ViewData = (m, u) in d) ((n, w) ∷ cs) → field_at fs m ≡ Some z → Names s z u y → Names s v w y ⊎ ChildNames s fs cs y
      by m u z (inl e) h k =
          let same : n ≡ m = ap (λ d. d.0) e in
          let there : w ≡ u = ap (λ d. d.1) e in
          let one : Some v ≡ Some z = sym is ∙ ap (field_at fs) same ∙ h in
          let value : z ≡ v = cc in
          inl (rw there (subst (λ x. Names s x u y) value k))
      by m u z (inr i) h k = inr (record { name = m; below = u; among = i; value = z; has = h; names = k })

      back : Names s v w y ⊎ ChildNames s fs cs y → ChildNames s fs ((n, w) ∷ cs) y
      back (inl k) = record { name = n; below = w; among = inl refl; value = v; has = is; names = k }
      back (inr c) = record { name = c.name; below = c.below; among = inr c.among; value = c.value; has = c.has; names = c.names }

  pub child_skipped : field_at fs n ≡ None → ChildNames s fs ((n, w) ∷ cs) y ↔ ChildNames s fs cs y
  child_skipped is = (λ c. by c.name c.below c.value c.among c.has c.names, λ c. record { name = c.name; below = c.below; among = inr c.among; value = c.value; has = c.has; names = c.names })
    where
      by : (m : List ℕ) (u : ViewData) (z : Val) → IsIn (let d : List ℕ × ViewData = (m, u) in d) ((n, w) ∷ cs) → field_at fs m ≡ Some z → Names s z u y → ChildNames s fs cs y
      by m u z (inl e) h k =
          let same : n ≡ m = ap (λ d. d.0) e in
          let one : None ≡ Some z = sym is ∙ ap (field_at fs) same ∙ h in
          absurd (cc)
      by m u z (inr i) h k = record { name = m; below = u; among = i; value = z; has = h; names = k }

pub no_child_names : (s : Store) (fs : Fields) (y : EntityUID) → ChildNames s fs [] y → ⊥
no_child_names s fs y c = c.among

-- ---- values

pub some_first : (s : Store) (v : Val) (vs : List Val) (t : ViewData) (y : EntityUID) → SomeNames s (v ∷ vs) t y ↔ (Names s v t y ⊎ SomeNames s vs t y)
some_first s v vs t y = (λ n. by n.value n.among n.names, back)
  where
    by : (w : Val) → IsIn w (v ∷ vs) → Names s w t y → Names s v t y ⊎ SomeNames s vs t y
    by w (inl e) n = inl (rw e n)
    by w (inr i) n = inr (record { value = w; among = i; names = n })

    back : Names s v t y ⊎ SomeNames s vs t y → SomeNames s (v ∷ vs) t y
    back (inl n) = record { value = v; among = inl refl; names = n }
    back (inr n) = record { value = n.value; among = inr n.among; names = n.names }

pub none_names : (s : Store) (t : ViewData) (y : EntityUID) → SomeNames s [] t y → ⊥
none_names s t y n = n.among

-- ---- an entity

module _ (s : Store) (x : EntityUID) (t : ViewData) (y : EntityUID) where
  pub absent_names : entity_at s x ≡ None → Names s (entity x) t y ↔ NamesHere (entity x) t y
  absent_names none = (names_alone s (entity x) t y alone, here_names s (entity x) t y)
    where
      alone : (k : Step) → step s (entity x) k ≡ []
      alone (along n) = rw none refl
      alone any_tag = rw none refl

  module _ (e : StoredEntity) (at : entity_at s x ≡ Some e) where
    field_step : (k : List ℕ) → step s (entity x) (along k) ≡ step s (rec e.attrs) (along k)
    field_step k = rw at refl

    tag_step : step s (entity x) any_tag ≡ values_in e.tags
    tag_step = rw at refl

    behind_entity : NamesBehind s (entity x) t y → Names s (rec e.attrs) t y ⊎ ((k : List Step) × (v : Val) × IsIn v (values_in e.tags) × (view_marks t (AnyTag ∷ map edge_of k) ≡ true) × (list_any (names_id y) (walk s v k) ≡ true))
    behind_entity b = by b.first b.among b.marked
      where
        by : (k : Step) → IsIn b.value (step s (entity x) k) → view_marks t (edge_of k ∷ map edge_of b.steps) ≡ true
            → Names s (rec e.attrs) t y ⊎ ((m : List Step) × (v : Val) × IsIn v (values_in e.tags) × (view_marks t (AnyTag ∷ map edge_of m) ≡ true) × (list_any (names_id y) (walk s v m) ≡ true))
        by (along n) i m = inl (behind_names s (rec e.attrs) t y (record { first = along n; value = b.value; among = subst (IsIn b.value) (field_step n) i; steps = b.steps; marked = m; named = b.named }))
        by any_tag i m = inr (b.steps, b.value, subst (IsIn b.value) tag_step i, m, b.named)

    from_record : Names s (rec e.attrs) t y → Names s (entity x) t y
    from_record n = elim (names_split s (rec e.attrs) t y n) [
      | inl h ↦ absurd (cc (h.1))
      | inr b ↦ by b b.first b.among b.marked
    ]
      where
        by : (b : NamesBehind s (rec e.attrs) t y) (k : Step) → IsIn b.value (step s (rec e.attrs) k) → view_marks t (edge_of k ∷ map edge_of b.steps) ≡ true → Names s (entity x) t y
        by b (along n) i m = behind_names s (entity x) t y (record { first = along n; value = b.value; among = subst (IsIn b.value) (sym (field_step n)) i; steps = b.steps; marked = m; named = b.named })
        by b any_tag i m = absurd i

    -- with tags along the trie
    pub entity_names : (w : ViewData) → LeadsTo AnyTag t w → Names s (entity x) t y ↔ ((NamesHere (entity x) t y ⊎ Names s (rec e.attrs) t y) ⊎ SomeNames s (values_in e.tags) w y)
    entity_names w l = (λ n. elim (names_split s (entity x) t y n) [ inl h ↦ inl (inl h) | inr b ↦ on (behind_entity b) ], back)
      where
        on : Names s (rec e.attrs) t y ⊎ ((k : List Step) × (v : Val) × IsIn v (values_in e.tags) × (view_marks t (AnyTag ∷ map edge_of k) ≡ true) × (list_any (names_id y) (walk s v k) ≡ true))
            → (NamesHere (entity x) t y ⊎ Names s (rec e.attrs) t y) ⊎ SomeNames s (values_in e.tags) w y
        on (inl n) = inl (inr n)
        on (inr r) = inr (record { value = r.1; among = r.2; names = record { steps = r.0; marked = sym (l.marks (map edge_of r.0)) ∙ r.3; named = r.4 } })

        back : (NamesHere (entity x) t y ⊎ Names s (rec e.attrs) t y) ⊎ SomeNames s (values_in e.tags) w y → Names s (entity x) t y
        back (inl (inl h)) = here_names s (entity x) t y h
        back (inl (inr n)) = from_record n
        back (inr n) = behind_names s (entity x) t y (record {
          first = any_tag;
          value = n.value;
          among = subst (IsIn n.value) (sym tag_step) n.among;
          steps = n.names.steps;
          marked = l.marks (map edge_of n.names.steps) ∙ n.names.marked;
          named = n.names.named;
        })

    -- without
    pub untagged_names : ((a : Address) → view_marks t (AnyTag ∷ a) ≡ false) → Names s (entity x) t y ↔ (NamesHere (entity x) t y ⊎ Names s (rec e.attrs) t y)
    untagged_names never = (λ n. elim (names_split s (entity x) t y n) [ inl h ↦ inl h | inr b ↦ on (behind_entity b) ], back)
      where
        on : Names s (rec e.attrs) t y ⊎ ((k : List Step) × (v : Val) × IsIn v (values_in e.tags) × (view_marks t (AnyTag ∷ map edge_of k) ≡ true) × (list_any (names_id y) (walk s v k) ≡ true))
            → NamesHere (entity x) t y ⊎ Names s (rec e.attrs) t y
        on (inl n) = inr n
        on (inr r) = let h = never (map edge_of r.0) in absurd (false≢true (sym h ∙ r.3))

        back : NamesHere (entity x) t y ⊎ Names s (rec e.attrs) t y → Names s (entity x) t y
        back (inl h) = here_names s (entity x) t y h
        back (inr n) = from_record n

-- ---- roots

pub record RootNames (q : Request) (s : Store) (rs : List (EntityRoot × ViewData)) (y : EntityUID) : Type 0 where
  pub root : EntityRoot
  pub below : ViewData
  pub among : IsIn (root, below) rs
  pub names : Names s (root_value q root) below y

pub record ThroughRoot (r : EntityRoot) (a : Address) (rs : List (EntityRoot × ViewData)) : Type 0 where
  pub below : ViewData
  pub among : IsIn (r, below) rs
  pub marked : view_marks below a ≡ true

root_more : (r : EntityRoot) (a : Address) (e : Edge) (w : ViewData) (rs : List (EntityRoot × ViewData)) → ThroughRoot r a rs → ThroughRoot r a (with_root e w rs)
root_more r a (Field m) w rs t = t
root_more r a AnyTag w rs t = t
root_more r a (Root p) w rs t = record { below = t.below; among = inr t.among; marked = t.marked }

root_first : (r : EntityRoot) (a : Address) (e : Edge) (w : ViewData) (rs : List (EntityRoot × ViewData)) → edge_eq e (Root r) ≡ true → view_marks w a ≡ true → ThroughRoot r a (with_root e w rs)
root_first r a e w rs h m = rw (edge_is e (Root r) h) (record { below = w; among = inl refl; marked = m })

root_some : (ns : Table) (r : EntityRoot) (a : Address) (ls : List Link) → list_any (λ l. edge_eq l.edge (Root r) && at_path has_mark ns l.number a) ls ≡ true → ThroughRoot r a (roots_in ns ls)
root_some ns r a [] h = absurd (cc)
root_some ns r a (l ∷ ls) h = by (or_cases (edge_eq l.edge (Root r) && at_path has_mark ns l.number a) _ h) (root_some ns r a ls)
  where
    w : ViewData
    w = record { nodes = ns; number = l.number }

    by : ((edge_eq l.edge (Root r) && at_path has_mark ns l.number a) ≡ true) ⊎ (list_any (λ k. edge_eq k.edge (Root r) && at_path has_mark ns k.number a) ls ≡ true)
        → (list_any (λ k. edge_eq k.edge (Root r) && at_path has_mark ns k.number a) ls ≡ true → ThroughRoot r a (roots_in ns ls)) → ThroughRoot r a (with_root l.edge w (roots_in ns ls))
    by (inl i) f = let b = and_parts (edge_eq l.edge (Root r)) (at_path has_mark ns l.number a) i in root_first r a l.edge w (roots_in ns ls) b.0 b.1
    by (inr i) f = root_more r a l.edge w (roots_in ns ls) (f i)

pub named_roots : (t : ViewData) (q : Request) (s : Store) (y : EntityUID) → AreRoots t (roots_of t) → IsNamed t q s y ↔ RootNames q s (roots_of t) y
named_roots t q s y lead = (there, back)
  where
    there : IsNamed t q s y → RootNames q s (roots_of t) y
    there n =
        let r = root_some t.nodes n.path.root (map edge_of n.path.steps) (links_at t.nodes t.number) n.marked in
        record { root = n.path.root; below = r.below; among = r.among; names = record { steps = n.path.steps; marked = r.marked; named = n.named } }

    back : RootNames q s (roots_of t) y → IsNamed t q s y
    back n =
        let l = all_in (λ d. LeadsTo (Root d.0) t d.1) (n.root, n.below) (roots_of t) n.among lead in
        record { path = record { root = n.root; steps = n.names.steps }; marked = l.marks (map edge_of n.names.steps) ∙ n.names.marked; named = n.names.named }

pub root_first_names : (q : Request) (s : Store) (r : EntityRoot) (w : ViewData) (rs : List (EntityRoot × ViewData)) (y : EntityUID) → RootNames q s ((r, w) ∷ rs) y ↔ (Names s (root_value q r) w y ⊎ RootNames q s rs y)
root_first_names q s r w rs y = (λ n. by n.root n.below n.among n.names, back)
  where
    by : (p : EntityRoot) (u : ViewData) → IsIn (let d : EntityRoot × ViewData = (p, u) in d) ((r, w) ∷ rs) → Names s (root_value q p) u y → Names s (root_value q r) w y ⊎ RootNames q s rs y
    by p u (inl e) n =
        let same : r ≡ p = ap (λ d. d.0) e in
        let there : w ≡ u = ap (λ d. d.1) e in
        inl (rw (same, there) n)
    by p u (inr i) n = inr (record { root = p; below = u; among = i; names = n })

    back : Names s (root_value q r) w y ⊎ RootNames q s rs y → RootNames q s ((r, w) ∷ rs) y
    back (inl n) = record { root = r; below = w; among = inl refl; names = n }
    back (inr n) = record { root = n.root; below = n.below; among = inr n.among; names = n.names }

pub no_root_names : (q : Request) (s : Store) (y : EntityUID) → RootNames q s [] y → ⊥
no_root_names q s y n = n.among

-- ---- later nodes

pub fewer_below : (e : Edge) (v w : ViewData) → LeadsTo e v w → length w.nodes - w.number < length v.nodes - v.number
fewer_below e v w l = let h = within_of_is_some w.nodes w.number l.there in let k = l.later in let same = ap length l.table in omega (arith, h, k, same)
