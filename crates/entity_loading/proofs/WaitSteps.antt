-- What waits at nodes, and what it names.
use Rattle.std.proofs.Common.{◌≡◌, ◌⊎◌, ℕ, ◌+◌, ◌-◌, ◌<◌, ◌≤◌, Bool, true, false, cond, ◌&&◌, ◌||◌, List, [], ◌∷◌, length, map, Option, Some, None, is_some, refl, sym, ap, ◌∙◌, subst, inl, inr, arith}
use Rattle.std.specs.Prelude.{◌↔◌}
use Rattle.std.specs.BTreeMap.{get, is_at}
use Rattle.std.specs.BTreeSet.{BTreeSet, contains}
use Rattle.std.specs.Cmp.{nat_cmp_total}
use Rattle.std.specs.List.{list_any}
use Rattle.std.specs.Map.{lookup}
use Rattle.std.specs.Option.{option_map_or}
use Rattle.std.specs.Ordering.{is_eq, is_gt, nat_cmp}
use Rattle.std.proofs.lemmas.Bool.{and_parts, and_from, or_cases, false≢true}
use Rattle.std.proofs.lemmas.Bool.Decides.{nat_tests}
use Rattle.std.proofs.lemmas.Cmp.{tied_itself}
use Rattle.std.proofs.lemmas.Map.Lookups.{exact_unsigned}
use Rattle.plain_lemmas.proofs.Booleans.{or_false, or_true, or_comm, or_left_true, or_right_true}
use Rattle.plain_lemmas.proofs.Options.{is_some_cond}
use Rattle.policy_values.specs.declared.entity_uid.EntityUID.{EntityUID}
use Rattle.policy_values.specs.Uid.{uid_cmp, uid_eq}
use Rattle.policy_values.specs.Ties.{equal_of}
use Rattle.entity_store.specs.Store.{Store}
use Rattle.policy_values.specs.Value.{Val, entity}
use Rattle.access_tries.specs.declared.edge.Edge.{Edge}
use Rattle.access_tries.specs.Table.{Table}
use Rattle.access_tries.specs.Views.{ViewData, LeadsTo, whole}
use Rattle.reads_spec.proofs.Lists.{IsIn, any_in, in_map, in_map_out, same_uid, uid_self}
use Rattle.reads_spec.proofs.Words.{any_out}
use Rattle.entity_loading.specs.Names.{Names, SomeNames}
use Rattle.entity_loading.specs.Waiting.{Waiting, waits, Waits, WaitFrom, WaitingNames, Has, Gives, Adds}

same_number : (n m : ℕ) → is_eq (nat_cmp n m) ≡ true → n ≡ m
same_number n m h = exact_unsigned n m (equal_of (nat_cmp n m) h)

number_self : (n : ℕ) → is_eq (nat_cmp n n) ≡ true
number_self n = ap is_eq (tied_itself nat_cmp_total n)

-- whether the id is among those that are found
abbrev has : Option (BTreeSet EntityUID) → EntityUID → Bool
has o x = option_map_or (λ ids. contains uid_cmp ids x) o false

-- ---- one more waits

cond_or : (b c : Bool) → cond b true c ≡ (c || b)
cond_or true c = sym (or_true c)
cond_or false c = sym (or_false c)

module _ (n : ℕ) (x : EntityUID) (old new : Waiting) where
  pub waits_put : (uids put : BTreeSet EntityUID) → ((y : EntityUID) → contains uid_cmp uids y ≡ waits old n y) → ((y : EntityUID) → contains uid_cmp put y ≡ cond (uid_eq x y) true (contains uid_cmp uids y))
      → ((m : ℕ) → get nat_cmp new m ≡ cond (is_eq (nat_cmp n m)) (Some put) (get nat_cmp old m)) → Waits n x old new
  waits_put uids put before put_id put_set = record {
    tests = λ m y. ap (λ o. has o y) (put_set m) ∙ tested m y (is_eq (nat_cmp n m)) refl;
    keys = λ m. ap (λ (o : Option (BTreeSet EntityUID)). is_some o) (put_set m) ∙ is_some_cond (is_eq (nat_cmp n m)) put (get nat_cmp old m) ∙ or_comm (is_eq (nat_cmp n m)) (is_some (get nat_cmp old m));
  }
    where
      tested : (m : ℕ) (y : EntityUID) (b : Bool) → is_eq (nat_cmp n m) ≡ b → has (cond b (Some put) (get nat_cmp old m)) y ≡ (waits old m y || (b && uid_eq x y))
      tested m y true e = put_id y ∙ cond_or (uid_eq x y) (contains uid_cmp uids y) ∙ ap (λ c. c || uid_eq x y) (before y ∙ ap (λ z. waits old z y) (same_number n m e))
      tested m y false e = sym (or_false (waits old m y))

  module _ (h : Waits n x old new) where
    pub wait_from : (k : ℕ) (ns : Table) → k ≤ n → n < length ns → WaitFrom k ns old → WaitFrom k ns new
    wait_from k ns low high all m there = by (or_cases (is_some (get nat_cmp old m)) (is_eq (nat_cmp n m)) (sym (h.keys m) ∙ there))
      where
        by : (is_some (get nat_cmp old m) ≡ true) ⊎ (is_eq (nat_cmp n m) ≡ true) → (k ≤ m) × (m < length ns)
        by (inl i) = all m i
        by (inr e) = subst (λ z. (k ≤ z) × (z < length ns)) (same_number n m e) (low, high)

    pub waiting_more : (s : Store) (ns : Table) → Adds (Names s (entity x) (record { nodes = ns; number = n })) (WaitingNames s ns old) (WaitingNames s ns new)
    waiting_more s ns = record { each = λ y. (out y, back y) }
      where
        found : (y : EntityUID) (c : WaitingNames s ns new y) → (waits old c.number c.id ≡ true) ⊎ ((is_eq (nat_cmp n c.number) && uid_eq x c.id) ≡ true) → WaitingNames s ns old y ⊎ Names s (entity x) (record { nodes = ns; number = n }) y
        found y c (inl i) = inl (record { number = c.number; id = c.id; waiting = i; names = c.names })
        found y c (inr i) =
            let b = and_parts (is_eq (nat_cmp n c.number)) (uid_eq x c.id) i in
            let number : n ≡ c.number = same_number n c.number b.0 in
            let id : x ≡ c.id = same_uid x c.id b.1 in
            inr (rw (number, id) c.names)

        out : (y : EntityUID) → WaitingNames s ns new y → WaitingNames s ns old y ⊎ Names s (entity x) (record { nodes = ns; number = n }) y
        out y c = found y c (or_cases (waits old c.number c.id) (is_eq (nat_cmp n c.number) && uid_eq x c.id) (sym (h.tests c.number c.id) ∙ c.waiting))

        back : (y : EntityUID) → WaitingNames s ns old y ⊎ Names s (entity x) (record { nodes = ns; number = n }) y → WaitingNames s ns new y
        back y (inl c) = record { number = c.number; id = c.id; waiting = h.tests c.number c.id ∙ or_left_true (waits old c.number c.id) (is_eq (nat_cmp n c.number) && uid_eq x c.id) c.waiting; names = c.names }
        back y (inr m) = record { number = n; id = x; waiting = h.tests n x ∙ or_right_true (waits old n x) (is_eq (nat_cmp n n) && uid_eq x x) (and_from (is_eq (nat_cmp n n)) (uid_eq x x) (number_self n) (uid_self x)); names = m }

-- more waits, and the same ids are there
pub gives_also : (s : Store) (t : ViewData) (ids : BTreeSet EntityUID) (v u : Val) → v ≡ u → (old new : Waiting) → Adds (Names s v t) (WaitingNames s t.nodes old) (WaitingNames s t.nodes new) → Adds (Names s u t) (Gives s t ids old) (Gives s t ids new)
gives_also s t ids v u is old new a = rw (sym is) (record { each = λ y. (out y, back y) })
  where
    out : (y : EntityUID) → Gives s t ids new y → Gives s t ids old y ⊎ Names s v t y
    out y (inl i) = inl (inl i)
    out y (inr c) = elim ((a.each y).0 c) [ inl d ↦ inl (inr d) | inr p ↦ inr p ]

    back : (y : EntityUID) → Gives s t ids old y ⊎ Names s v t y → Gives s t ids new y
    back y (inl (inl i)) = inl i
    back y (inl (inr c)) = inr ((a.each y).1 (inl c))
    back y (inr p) = inr ((a.each y).1 (inr p))

-- ids are put in, and the same waits
pub gives_more : (s : Store) (t : ViewData) (w : Waiting) (P : EntityUID → Type 0) (old new : BTreeSet EntityUID) → Adds P (Has old) (Has new) → Adds P (Gives s t old w) (Gives s t new w)
gives_more s t w P old new a = record { each = λ y. (out y, back y) }
  where
    out : (y : EntityUID) → Gives s t new w y → Gives s t old w y ⊎ P y
    out y (inl i) = elim ((a.each y).0 i) [ inl j ↦ inl (inl j) | inr p ↦ inr p ]
    out y (inr c) = inl (inr c)

    back : (y : EntityUID) → Gives s t old w y ⊎ P y → Gives s t new w y
    back y (inl (inl i)) = inl ((a.each y).1 (inl i))
    back y (inl (inr c)) = inr c
    back y (inr p) = inl ((a.each y).1 (inr p))

-- ---- those at the least number

module _ (n : ℕ) (uids : BTreeSet EntityUID) (old rest : Waiting) (value : get nat_cmp old n ≡ Some uids) (taken : (m : ℕ) → get nat_cmp rest m ≡ cond (is_eq (nat_cmp n m)) None (get nat_cmp old m)) where
  waits_here : (x : EntityUID) → waits old n x ≡ contains uid_cmp uids x
  waits_here x = ap (λ o. has o x) value

  among_keys : (x : EntityUID) → contains uid_cmp uids x ≡ true → IsIn x uids.keys
  among_keys x h =
      let a = any_out (is_at (uid_cmp x)) uids.keys h in
      subst (λ z. IsIn z uids.keys) (sym (same_uid x a.0 a.2)) a.1

  module _ (s : Store) (t : ViewData) (ids : BTreeSet EntityUID) (y : EntityUID) where
    abbrev Here : Type 0
    Here = SomeNames s (map entity uids.keys) (record { nodes = t.nodes; number = n }) y

    split : (c : WaitingNames s t.nodes old y) (b : Bool) → is_eq (nat_cmp n c.number) ≡ b → get nat_cmp rest c.number ≡ cond b None (get nat_cmp old c.number) → Gives s t ids rest y ⊎ Here
    split c true e g =
        let same : n ≡ c.number = same_number n c.number e in
        let has_it : contains uid_cmp uids c.id ≡ true = sym (waits_here c.id) ∙ ap (λ m. waits old m c.id) same ∙ c.waiting in
        inr (record { value = entity c.id; among = in_map entity c.id uids.keys (among_keys c.id has_it); names = rw same c.names })
    split c false e g = inl (inr (record { number = c.number; id = c.id; waiting = ap (λ o. has o c.id) g ∙ c.waiting; names = c.names }))

    out : Gives s t ids old y → Gives s t ids rest y ⊎ Here
    out (inl i) = inl (inl i)
    out (inr c) = split c (is_eq (nat_cmp n c.number)) refl (taken c.number)

    before : (c : WaitingNames s t.nodes rest y) (b : Bool) → get nat_cmp rest c.number ≡ cond b None (get nat_cmp old c.number) → waits old c.number c.id ≡ true
    before c true g = absurd (false≢true (sym (ap (λ o. has o c.id) g) ∙ c.waiting))
    before c false g = sym (ap (λ o. has o c.id) g) ∙ c.waiting

    here_waits : (v : Val) → IsIn v (map entity uids.keys) → Names s v (record { nodes = t.nodes; number = n }) y → Gives s t ids old y
    here_waits v i m =
        let r = in_map_out entity v uids.keys i in
        inr (record { number = n; id = r.0; waiting = waits_here r.0 ∙ any_in (is_at (uid_cmp r.0)) r.0 uids.keys r.1 (uid_self r.0); names = rw r.2 m })

    back : Gives s t ids rest y ⊎ Here → Gives s t ids old y
    back (inl (inl i)) = inl i
    back (inl (inr c)) = inr (record { number = c.number; id = c.id; waiting = before c (is_eq (nat_cmp n c.number)) (taken c.number); names = c.names })
    back (inr m) = here_waits m.value m.among m.names

    -- what those name that were taken out is there, or is named from what waits now
    pub popped : (ids' : BTreeSet EntityUID) (new : Waiting) → Adds (SomeNames s (map entity uids.keys) (record { nodes = t.nodes; number = n })) (Gives s t ids rest) (Gives s t ids' new) → Gives s t ids' new y ↔ Gives s t ids old y
    popped ids' new a = (λ g. back ((a.each y).0 g), λ g. (a.each y).1 (out g))

  after : (m : ℕ) → is_eq (nat_cmp n m) ≡ false → is_gt (nat_cmp n m) ≡ false → n + 1 ≤ m
  after m e g = grind (arith, nat_tests)

  -- what is left waits at later nodes
  rest_from : (k : ℕ) (ns : Table) → ((m : ℕ) → is_some (get nat_cmp old m) ≡ true → is_gt (nat_cmp n m) ≡ false) → WaitFrom k ns old → WaitFrom (n + 1) ns rest
  rest_from k ns least all m there = by (is_eq (nat_cmp n m)) refl (taken m)
    where
      by : (b : Bool) → is_eq (nat_cmp n m) ≡ b → get nat_cmp rest m ≡ cond b None (get nat_cmp old m) → (n + 1 ≤ m) × (m < length ns)
      by true e g = absurd (false≢true (sym (ap (λ (o : Option (BTreeSet EntityUID)). is_some o) g) ∙ there))
      by false e g =
          let old_there : is_some (get nat_cmp old m) ≡ true = sym (ap (λ (o : Option (BTreeSet EntityUID)). is_some o) g) ∙ there in
          (after m e (least m old_there), (all m old_there).1)

  -- and so does what is asked for from there
  pub new_from : (ns : Table) → ((m : ℕ) → is_some (get nat_cmp old m) ≡ true → is_gt (nat_cmp n m) ≡ false) → WaitFrom 0 ns old
      → (v : ViewData) → v ≡ record { nodes = ns; number = n } → (new : Waiting) → ((k : ℕ) → k ≤ v.number + 1 → WaitFrom k v.nodes rest → WaitFrom k v.nodes new) → WaitFrom (n + 1) ns new
  new_from ns least all v is new f =
      let later : (k : ℕ) → k ≤ n + 1 → WaitFrom k ns rest → WaitFrom k ns new = subst (λ (u : ViewData). (k : ℕ) → k ≤ u.number + 1 → WaitFrom k u.nodes rest → WaitFrom k u.nodes new) is f in
      later (n + 1) (omega arith) (rest_from 0 ns least all)

-- ---- an end

-- how many nodes there are from the least number on
abbrev pub nodes_left : ℕ → List (ℕ × BTreeSet EntityUID) → ℕ
nodes_left n [] = 0
nodes_left n (e ∷ es) = n - e.0

pub fewer_left : (ns : Table) (n : ℕ) (uids : BTreeSet EntityUID) (rest : List (ℕ × BTreeSet EntityUID)) (old new : Waiting) → old.entries ≡ (n, uids) ∷ rest → n < length ns → WaitFrom (n + 1) ns new
    → nodes_left (length ns) new.entries < nodes_left (length ns) old.entries
fewer_left ns n uids rest old new is there later = rw is (by new.entries refl)
  where
    by : (es : List (ℕ × BTreeSet EntityUID)) → new.entries ≡ es → nodes_left (length ns) es < length ns - n
    by [] e = omega (arith, there)
    by (e ∷ es) same =
        let first : is_some (get nat_cmp new e.0) ≡ true = ap (λ l. is_some (lookup (is_at (nat_cmp e.0)) l)) same ∙ ap (λ b. is_some (cond b (Some e.1) (lookup (is_at (nat_cmp e.0)) es))) (number_self e.0) in
        let l = later e.0 first in
        let low = l.0 in
        let high = l.1 in
        omega (arith, there, low, high)

no_waiting_names : (s : Store) (ns : Table) (w : Waiting) (y : EntityUID) → w.entries ≡ [] → WaitingNames s ns w y → ⊥
no_waiting_names s ns w y none c = false≢true (sym (ap (λ es. has (lookup (is_at (nat_cmp c.number)) es) c.id) none) ∙ c.waiting)

-- where nothing waits
pub gives_all : (s : Store) (t : ViewData) (ids : BTreeSet EntityUID) (w : Waiting) (y : EntityUID) → w.entries ≡ [] → Has ids y ↔ Gives s t ids w y
gives_all s t ids w y none = (λ i. inl i, λ g. elim g [ inl i ↦ i | inr c ↦ absurd (no_waiting_names s t.nodes w y none c) ])

-- from nothing
pub from_nothing : (s : Store) (t : ViewData) (P new : EntityUID → Type 0) (ids : BTreeSet EntityUID) (w : Waiting) → ids.keys ≡ [] → w.entries ≡ [] → Adds P (Gives s t ids w) new → (y : EntityUID) → new y ↔ P y
from_nothing s t P new ids w no_ids none a y = (λ h. elim ((a.each y).0 h) [ inl g ↦ absurd (no_id ((gives_all s t ids w y none).1 g)) | inr p ↦ p ], λ p. (a.each y).1 (inr p))
  where
    no_id : Has ids y → ⊥
    no_id i = false≢true (sym (ap (λ ks. list_any (is_at (uid_cmp y)) ks) no_ids) ∙ i)

pub none_from : (k : ℕ) (ns : Table) (w : Waiting) → w.entries ≡ [] → WaitFrom k ns w
none_from k ns w none m there = absurd (false≢true (sym (ap (λ es. is_some (lookup (is_at (nat_cmp m)) es)) none) ∙ there))

-- ---- at other nodes of the same table

pub adds_in : (s : Store) (v w : ViewData) → w.nodes ≡ v.nodes → (P : EntityUID → Type 0) (i j : BTreeSet EntityUID) (old new : Waiting) → Adds P (Gives s w i old) (Gives s w j new) → Adds P (Gives s v i old) (Gives s v j new)
adds_in s v w same P i j old new a = subst (λ ns. Adds P (Gives s (whole ns) i old) (Gives s (whole ns) j new)) same a

-- what is asked behind an edge waits at later nodes
pub later_in : (e : Edge) (v w : ViewData) → LeadsTo e v w → (old new : Waiting) → ((k : ℕ) → k ≤ w.number → WaitFrom k w.nodes old → WaitFrom k w.nodes new) → (k : ℕ) → k ≤ v.number + 1 → WaitFrom k v.nodes old → WaitFrom k v.nodes new
later_in e v w l old new f k low h =
    let later = l.later in
    subst (λ ns. WaitFrom k ns new) l.table (f k (omega (arith, low, later)) (subst (λ ns. WaitFrom k ns old) (sym l.table) h))

-- what is put where something was taken away
pub put_over : {X : Type 0} (b : Bool) (o m n : Option X) → m ≡ cond b None n → cond b o m ≡ cond b o n
put_over true o m n h = refl
put_over false o m n h = h

pub nothing_left : (w : Waiting) → (0 < length w.entries → ⊥) → w.entries ≡ []
nothing_left w h = by w.entries h
  where
    by : (es : List (ℕ × BTreeSet EntityUID)) → (0 < length es → ⊥) → es ≡ []
    by [] g = refl
    by (e ∷ es) g = absurd (g (omega arith))
