-- Least tries, and what conditions read.
use Rattle.std.proofs.Common.{◌≡◌, ◌⊎◌, Bool, true, false, List, [], ◌∷◌, ◌++◌, map, refl, sym, ap, ◌∙◌, subst, append_assoc, inl, inr}
use Rattle.std.specs.Prelude.{filter, if◌then◌else◌}
use Rattle.std.specs.List.{list_any}
use Rattle.std.specs.Cmp.{nat_cmp_total}
use Rattle.std.proofs.lemmas.Bool.{and_parts, and_from, or_cases}
use Rattle.std.proofs.lemmas.Cmp.{tied_itself, nat_list_cmp_total}
use Rattle.policy_expressions.specs.declared.kinds.BinaryOp.{BinaryOp}
use Rattle.policy_expressions.specs.declared.kinds.BinaryOp.TheVariants.{In}
use Rattle.policy_expressions.specs.declared.kinds.Var.TheVariants.{Principal}
use Rattle.policy_expressions.specs.Tree.{Tree, lit, var, slot, ite, conj, disj, unary, binary, attr, has, like, is_type, call, set, rec, Trees, no_trees, tree, Named, no_named, named}
use Rattle.schema_core.specs.EnvData.{EnvData}
use Rattle.schema_core.specs.Schema.{SchemaData}
use Rattle.access_tries.specs.declared.edge.Edge.{Edge}
use Rattle.access_tries.specs.declared.edge.Edge.TheVariants.{Field, AnyTag, Root}
use Rattle.access_tries.specs.declared.edge.EntityRoot.{EntityRoot}
use Rattle.access_tries.specs.declared.edge.EntityRoot.TheVariants.{Var}
use Rattle.access_tries.specs.Edges.{Address, rank, first_text, second_text, edge_eq}
use Rattle.access_tries.specs.Paths.{edge_of, address_of, demand_of, has_path, asks, is_prefix_of, is_same, IsLeast}
use Rattle.access_tries.specs.Table.{Table}
use Rattle.reads_spec.specs.Paths.{Step, along, any_tag, AccessPath, Demand, Shape, beyond, paths}
use Rattle.reads_spec.specs.PathTypes.{is_declared_path}
use Rattle.reads_spec.specs.Reads.{shape_of, wholly, binary_reads, reads, reads_all, reads_named, reads_of, pairs, binary_demands, demands, demands_all, demands_named, demands_of, declared_reads, declared_demands, are_declared}
use Rattle.reads_spec.proofs.Lists.{IsIn, in_left, in_right, in_map, any_in, in_map_out}
use Rattle.plain_lemmas.proofs.Booleans.{or_left_true}
use Rattle.plain_lemmas.proofs.Lists.{append_empty}
use Rattle.reads_spec.specs.Among.{IsPrefixOfRead}
use Rattle.reads_spec.proofs.Words.{any_out}
use Rattle.reads_spec.proofs.DeclaredPaths.{declared_read}
use Rattle.entity_loading.specs.Tries.{IsTrieOf, LeastTriesFit}
use Rattle.access_tries.specs.SameLaws.{edge_is}

-- ---- addresses

edge_self : (e : Edge) → edge_eq e e ≡ true
edge_self e = rw (tied_itself nat_cmp_total (rank e), tied_itself nat_list_cmp_total (first_text e), tied_itself nat_list_cmp_total (second_text e)) refl

same_address : (es fs : Address) → is_same es fs ≡ true → es ≡ fs
same_address [] [] h = refl
same_address [] (f ∷ fs) h = absurd (cc)
same_address (e ∷ es) [] h = absurd (cc)
same_address (e ∷ es) (f ∷ fs) h =
    let b = and_parts (edge_eq f e) (is_same es fs) h in
    λ i. sym (edge_is f e b.0) i ∷ same_address es fs b.1 i

address_self : (es : Address) → is_same es es ≡ true
address_self [] = refl
address_self (e ∷ es) = and_from (edge_eq e e) (is_same es es) (edge_self e) (address_self es)

prefix_self : (es fs : Address) → is_prefix_of es (es ++ fs) ≡ true
prefix_self [] fs = refl
prefix_self (e ∷ es) fs = and_from (edge_eq e e) (is_prefix_of es (es ++ fs)) (edge_self e) (prefix_self es fs)

-- the steps before the next root, and what comes behind them
abbrev steps_in : Address → List Step
steps_in [] = []
steps_in (Field n ∷ es) = along n ∷ steps_in es
steps_in (AnyTag ∷ es) = any_tag ∷ steps_in es
steps_in (Root r ∷ es) = []

abbrev behind_steps : Address → Address
behind_steps [] = []
behind_steps (Field n ∷ es) = behind_steps es
behind_steps (AnyTag ∷ es) = behind_steps es
behind_steps (Root r ∷ es) = Root r ∷ es

abbrev pub first_path : Address → AccessPath
first_path (Root r ∷ es) = record { root = r; steps = steps_in es }
first_path es = record { root = Var Principal; steps = [] }

abbrev pub behind_first : Address → Address
behind_first (Root r ∷ es) = behind_steps es
behind_first es = es

steps_then : (ns : List Step) (r : AccessPath) → steps_in (map edge_of ns ++ address_of r) ≡ ns
steps_then [] r = refl
steps_then (along n ∷ ns) r = ap (λ ms. along n ∷ ms) (steps_then ns r)
steps_then (any_tag ∷ ns) r = ap (λ ms. any_tag ∷ ms) (steps_then ns r)

behind_then : (ns : List Step) (r : AccessPath) → behind_steps (map edge_of ns ++ address_of r) ≡ address_of r
behind_then [] r = refl
behind_then (along n ∷ ns) r = behind_then ns r
behind_then (any_tag ∷ ns) r = behind_then ns r

steps_alone : (ns : List Step) → steps_in (map edge_of ns) ≡ ns
steps_alone [] = refl
steps_alone (along n ∷ ns) = ap (λ ms. along n ∷ ms) (steps_alone ns)
steps_alone (any_tag ∷ ns) = ap (λ ms. any_tag ∷ ms) (steps_alone ns)

pub first_then : (p r : AccessPath) → first_path (address_of p ++ address_of r) ≡ p
first_then p r i = record { root = p.root; steps = steps_then p.steps r i }

pub rest_then : (p r : AccessPath) → behind_first (address_of p ++ address_of r) ≡ address_of r
rest_then p r = behind_then p.steps r

pub path_alone : (p : AccessPath) → first_path (address_of p) ≡ p
path_alone p i = record { root = p.root; steps = steps_alone p.steps i }

abbrev pub demand : AccessPath → AccessPath → Demand
demand p r = (p, r)

same_demand : (p r : AccessPath) (d : Demand) → demand_of (p, r) ≡ demand_of d → d ≡ demand p r
same_demand p r d same =
    let first : p ≡ d.0 = sym (first_then p r) ∙ ap first_path same ∙ first_then d.0 d.1 in
    let rest : address_of r ≡ address_of d.1 = sym (rest_then p r) ∙ ap behind_first same ∙ rest_then d.0 d.1 in
    let second : r ≡ d.1 = sym (path_alone r) ∙ ap first_path rest ∙ path_alone d.1 in
    λ i. (sym first i, sym second i)

-- ---- prefixes of paths

edge_step : (m n : Step) → edge_of m ≡ edge_of n → m ≡ n
edge_step (along m) (along n) h = let same : m ≡ n = cc in ap along same
edge_step any_tag any_tag h = refl
edge_step (along m) any_tag h = absurd (cc)
edge_step any_tag (along n) h = absurd (cc)

no_step_root : (m : Step) (r : EntityRoot) → Root r ≡ edge_of m → ⊥
no_step_root (along m) r h = cc
no_step_root any_tag r h = cc

prefix_alone : (ms ns : List Step) → is_prefix_of (map edge_of ms) (map edge_of ns) ≡ true → (rest : List Step) × (ns ≡ ms ++ rest)
prefix_alone [] ns h = (ns, refl)
prefix_alone (m ∷ ms) [] h = absurd (cc)
prefix_alone (m ∷ ms) (n ∷ ns) h =
    let b = and_parts (edge_eq (edge_of n) (edge_of m)) (is_prefix_of (map edge_of ms) (map edge_of ns)) h in
    let r = prefix_alone ms ns b.1 in
    (r.0, λ i. edge_step n m (edge_is (edge_of n) (edge_of m) b.0) i ∷ r.1 i)

prefix_before : (ms ns : List Step) (r : AccessPath) → is_prefix_of (map edge_of ms) (map edge_of ns ++ address_of r) ≡ true → (rest : List Step) × (ns ≡ ms ++ rest)
prefix_before [] ns r h = (ns, refl)
prefix_before (m ∷ ms) [] r h =
    let b = and_parts (edge_eq (Root r.root) (edge_of m)) (is_prefix_of (map edge_of ms) (map edge_of r.steps)) h in
    absurd (no_step_root m r.root (edge_is (Root r.root) (edge_of m) b.0))
prefix_before (m ∷ ms) (n ∷ ns) r h =
    let b = and_parts (edge_eq (edge_of n) (edge_of m)) (is_prefix_of (map edge_of ms) (map edge_of ns ++ address_of r)) h in
    let k = prefix_before ms ns r b.1 in
    (k.0, λ i. edge_step n m (edge_is (edge_of n) (edge_of m) b.0) i ∷ k.1 i)

root_same : (r k : EntityRoot) → edge_eq (Root k) (Root r) ≡ true → k ≡ r
root_same r k h = let same = edge_is (Root k) (Root r) h in cc

-- the path is a prefix of the other
abbrev Front : AccessPath → AccessPath → Type 0
Front p z = (rest : List Step) × (z ≡ beyond p rest)

path_prefix : (p z : AccessPath) → is_prefix_of (address_of p) (address_of z) ≡ true → Front p z
path_prefix p z h =
    let b = and_parts (edge_eq (Root z.root) (Root p.root)) (is_prefix_of (map edge_of p.steps) (map edge_of z.steps)) h in
    let r = prefix_alone p.steps z.steps b.1 in
    (r.0, λ i. record { root = root_same p.root z.root b.0 i; steps = r.1 i })

demand_prefix : (p : AccessPath) (d : Demand) → is_prefix_of (address_of p) (demand_of d) ≡ true → Front p d.0
demand_prefix p d h =
    let b = and_parts (edge_eq (Root d.0.root) (Root p.root)) (is_prefix_of (map edge_of p.steps) (map edge_of d.0.steps ++ address_of d.1)) h in
    let r = prefix_before p.steps d.0.steps d.1 b.1 in
    (r.0, λ i. record { root = root_same p.root d.0.root b.0 i; steps = r.1 i })

pub map_append : (ms ns : List Step) → map edge_of (ms ++ ns) ≡ map edge_of ms ++ map edge_of ns
map_append [] ns = refl
map_append (m ∷ ms) ns = ap (λ es. edge_of m ∷ es) (map_append ms ns)

prefix_beyond : (p : AccessPath) (rest : List Step) → is_prefix_of (address_of p) (address_of (beyond p rest)) ≡ true
prefix_beyond p rest = subst (λ es. is_prefix_of (address_of p) (Root p.root ∷ es) ≡ true) (sym (map_append p.steps rest)) (prefix_self (address_of p) (map edge_of rest))

longer : (p z : AccessPath) (more rest : List Step) → z ≡ beyond p more → beyond z rest ≡ beyond p (more ++ rest)
longer p z more rest is = ap (λ y. beyond y rest) is ∙ (λ i. record { root = p.root; steps = append_assoc p.steps more rest i })

module _ (rs : List AccessPath) (ds : List Demand) (t : Table) (read : (d : Demand) → IsIn d ds → IsPrefixOfRead rs d.0) (l : IsLeast rs ds t) where
  read_part : (p : AccessPath) → list_any (is_prefix_of (address_of p)) (map address_of rs) ≡ true → IsPrefixOfRead rs p
  read_part p h =
      let a = any_out (is_prefix_of (address_of p)) (map address_of rs) h in
      let z = in_map_out address_of a.0 rs a.1 in
      let f = path_prefix p z.0 (ap (is_prefix_of (address_of p)) z.2 ∙ a.2) in
      record { rest = f.0; among = subst (λ y. IsIn y rs) f.1 z.1 }

  demanded_part : (p : AccessPath) → list_any (is_prefix_of (address_of p)) (map demand_of ds) ≡ true → IsPrefixOfRead rs p
  demanded_part p h =
      let a = any_out (is_prefix_of (address_of p)) (map demand_of ds) h in
      let d = in_map_out demand_of a.0 ds a.1 in
      let f = demand_prefix p d.0 (ap (is_prefix_of (address_of p)) d.2 ∙ a.2) in
      let r = read d.0 d.1 in
      record { rest = f.0 ++ r.rest; among = subst (λ y. IsIn y rs) (longer p d.0.0 f.0 r.rest f.1) r.among }

  to_read : (p : AccessPath) → has_path t p ≡ true → IsPrefixOfRead rs p
  to_read p h = by (or_cases (list_any (is_prefix_of (address_of p)) (map address_of rs)) (list_any (is_prefix_of (address_of p)) (map demand_of ds)) (sym (l.paths (address_of p)) ∙ h))
    where
      by : (list_any (is_prefix_of (address_of p)) (map address_of rs) ≡ true) ⊎ (list_any (is_prefix_of (address_of p)) (map demand_of ds) ≡ true) → IsPrefixOfRead rs p
      by (inl i) = read_part p i
      by (inr i) = demanded_part p i

  from_read : (p : AccessPath) → IsPrefixOfRead rs p → has_path t p ≡ true
  from_read p r =
      l.paths (address_of p) ∙ or_left_true (list_any (is_prefix_of (address_of p)) (map address_of rs)) (list_any (is_prefix_of (address_of p)) (map demand_of ds))
      (any_in (is_prefix_of (address_of p)) (address_of (beyond p r.rest)) (map address_of rs) (in_map address_of (beyond p r.rest) rs r.among) (prefix_beyond p r.rest))

  to_demand : (p r : AccessPath) → asks t p r ≡ true → IsIn (demand p r) ds
  to_demand p r h =
      let a = any_out (is_same (demand_of (p, r))) (map demand_of ds) (sym (l.marks (demand_of (p, r))) ∙ h) in
      let d = in_map_out demand_of a.0 ds a.1 in
      let same = same_demand p r d.0 (same_address (demand_of (p, r)) a.0 a.2 ∙ sym d.2) in
      subst (λ e. IsIn e ds) same d.1

  from_demand : (p r : AccessPath) → IsIn (demand p r) ds → asks t p r ≡ true
  from_demand p r i = l.marks (demand_of (p, r)) ∙ any_in (is_same (demand_of (p, r))) (demand_of (p, r)) (map demand_of ds) (in_map demand_of (demand p r) ds i) (address_self (demand_of (p, r)))

  fits : IsTrieOf rs ds t
  fits = record { paths = λ p. (to_read p, from_read p); asks = λ p r. (to_demand p r, from_demand p r) }

pub least_fits : LeastTriesFit
least_fits rs ds t read l = fits rs ds t read l

-- ---- what conditions demand of a path, they read

in_append : {A : Type 0} (y : A) (xs ys : List A) → IsIn y (xs ++ ys) → IsIn y xs ⊎ IsIn y ys
in_append y [] ys h = inr h
in_append y (x ∷ xs) ys (inl e) = inl (inl e)
in_append y (x ∷ xs) ys (inr h) = by (in_append y xs ys h)
  where
    by : IsIn y xs ⊎ IsIn y ys → IsIn y (x ∷ xs) ⊎ IsIn y ys
    by (inl i) = inl (inr i)
    by (inr i) = inr i

either_part : (d : Demand) (ds es : List Demand) (ps rs : List AccessPath) → (IsIn d ds → IsIn d.0 ps) → (IsIn d es → IsIn d.0 rs) → IsIn d (ds ++ es) → IsIn d.0 (ps ++ rs)
either_part d ds es ps rs f g h = by (in_append d ds es h)
  where
    by : IsIn d ds ⊎ IsIn d es → IsIn d.0 (ps ++ rs)
    by (inl i) = in_left d.0 ps rs (f i)
    by (inr i) = in_right d.0 ps rs (g i)

of_pairs : (d : Demand) (ps rs : List AccessPath) → IsIn d (pairs ps rs) → IsIn d.0 ps
of_pairs d [] rs h = h
of_pairs d (p ∷ ps) rs h = by (of_pairs d ps rs) (in_append d (map (λ r. (p, r)) rs) (pairs ps rs) h)
  where
    by : (IsIn d (pairs ps rs) → IsIn d.0 ps) → IsIn d (map (λ r. (p, r)) rs) ⊎ IsIn d (pairs ps rs) → IsIn d.0 (p ∷ ps)
    by later (inl i) = let m = in_map_out (λ r. demand p r) d rs i in inl (ap (λ e. e.0) m.2)
    by later (inr i) = inr (later i)

module _ (schema : SchemaData) (env : EnvData) (d : Demand) where
  of_binary : (o : BinaryOp) (a b : Shape) → IsIn d (binary_demands o a b) → IsIn d.0 (binary_reads schema env o a b)
  of_binary In a b h = in_right d.0 (wholly schema env a ++ wholly schema env b) (paths a) (of_pairs d (paths a) (paths b) h)
  of_binary o a b h = absurd h

  mutual
    demand_read : {A : Type 0} (t : Tree A) → IsIn d (demands t) → IsIn d.0 (reads schema env t)
    demand_read (lit l a) h = absurd h
    demand_read (var v a) h = absurd h
    demand_read (slot i a) h = absurd h
    demand_read (ite x y z a) h = either_part d (demands x) (demands y ++ demands z) (reads schema env x) (reads schema env y ++ reads schema env z) (demand_read x) (either_part d (demands y) (demands z) (reads schema env y) (reads schema env z) (demand_read y) (demand_read z)) h
    demand_read (conj x y a) h = either_part d (demands x) (demands y) (reads schema env x) (reads schema env y) (demand_read x) (demand_read y) h
    demand_read (disj x y a) h = either_part d (demands x) (demands y) (reads schema env x) (reads schema env y) (demand_read x) (demand_read y) h
    demand_read (unary o x a) h = in_left d.0 (reads schema env x) _ (demand_read x h)
    demand_read (binary o x y a) h = either_part d (demands x ++ demands y) (binary_demands o (shape_of x) (shape_of y)) (reads schema env x ++ reads schema env y) (binary_reads schema env o (shape_of x) (shape_of y))
        (either_part d (demands x) (demands y) (reads schema env x) (reads schema env y) (demand_read x) (demand_read y)) (of_binary o (shape_of x) (shape_of y)) h
    demand_read (attr x n a) h = in_left d.0 (reads schema env x) _ (demand_read x h)
    demand_read (has x n a) h = in_left d.0 (reads schema env x) _ (demand_read x h)
    demand_read (like x p a) h = demand_read x h
    demand_read (is_type x n a) h = demand_read x h
    demand_read (call f xs a) h = demand_read_all xs h
    demand_read (set xs a) h = demand_read_all xs h
    demand_read (rec xs a) h = demand_read_named xs h

    demand_read_all : {A : Type 0} (ts : Trees A) → IsIn d (demands_all ts) → IsIn d.0 (reads_all schema env ts)
    demand_read_all no_trees h = absurd h
    demand_read_all (tree x xs) h = either_part d (demands x) (demands_all xs) (reads schema env x) (reads_all schema env xs) (demand_read x) (demand_read_all xs) h

    demand_read_named : {A : Type 0} (ts : Named A) → IsIn d (demands_named ts) → IsIn d.0 (reads_named schema env ts)
    demand_read_named no_named h = absurd h
    demand_read_named (named k x xs) h = either_part d (demands x) (demands_named xs) (reads schema env x) (reads_named schema env xs) (demand_read x) (demand_read_named xs) h

  demands_read : {A : Type 0} (ts : List (Tree A)) → IsIn d (demands_of ts) → IsIn d.0 (reads_of schema env ts)
  demands_read [] h = h
  demands_read (t ∷ ts) h = either_part d (demands t) (demands_of ts) (reads schema env t) (reads_of schema env ts) (demand_read t) (demands_read ts) h

pub in_filter_out : {A : Type 0} (f : A → Bool) (y : A) (xs : List A) → IsIn y (filter f xs) → IsIn y xs × (f y ≡ true)
in_filter_out f y [] h = absurd h
in_filter_out f y (x ∷ xs) h = by (f x) refl h (in_filter_out f y xs)
  where
    by : (b : Bool) → f x ≡ b → IsIn y (if b then x ∷ filter f xs else filter f xs) → (IsIn y (filter f xs) → IsIn y xs × (f y ≡ true)) → IsIn y (x ∷ xs) × (f y ≡ true)
    by true e (inl same) g = (inl same, ap f (sym same) ∙ e)
    by true e (inr i) g = let r = g i in (inr r.0, r.1)
    by false e i g = let r = g i in (inr r.0, r.1)

pub whole_path : (p : AccessPath) → beyond p [] ≡ p
whole_path p i = record { root = p.root; steps = append_empty p.steps i }

-- each declared path of which conditions demand something is read
pub declared_demand : {A : Type 0} (schema : SchemaData) (env : EnvData) (ts : List (Tree A)) (d : Demand) → IsIn d (declared_demands schema env ts) → IsPrefixOfRead (declared_reads schema env ts) d.0
declared_demand schema env ts d h =
    let f = in_filter_out (are_declared schema env) d (demands_of ts) h in
    let declared = and_parts (is_declared_path schema env d.0) (is_declared_path schema env d.1) f.1 in
    (declared_read schema env (reads_of schema env ts) d.0).1 (record { rest = []; among = subst (λ y. IsIn y (reads_of schema env ts)) (sym (whole_path d.0)) (demands_read schema env d ts f.0) }, declared.0)

-- the least trie of what conditions read is a trie of it
pub declared_trie : {A : Type 0} (schema : SchemaData) (env : EnvData) (ts : List (Tree A)) (t : Table) → IsLeast (declared_reads schema env ts) (declared_demands schema env ts) t → IsTrieOf (declared_reads schema env ts) (declared_demands schema env ts) t
declared_trie schema env ts t l = least_fits (declared_reads schema env ts) (declared_demands schema env ts) t (declared_demand schema env ts) l
