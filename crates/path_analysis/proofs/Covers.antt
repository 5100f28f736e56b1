-- Steps of walks that add paths, each with all that it goes on from.
use Rattle.std.proofs.Common.{◌≡◌, ℕ, Bool, true, false, ◌||◌, ◌&&◌, List, [], ◌∷◌, ◌++◌, map, refl, sym, ap, ◌∙◌, subst}
use Rattle.access_tries.specs.Edges.{Address, edge_eq}
use Rattle.access_tries.specs.Paths.{AccessPath, address_of, edge_of, is_prefix_of}
use Rattle.access_tries.specs.PathLaws.{exact_path}
use Rattle.access_tries.specs.declared.edge.Edge.TheVariants.{Root}
use Rattle.plain_lemmas.proofs.Booleans.{or_false, or_assoc, or_assoc_left, or_right_true, and_parts_of}
use Rattle.policy_expressions.specs.declared.kinds.Literal.{Literal}
use Rattle.policy_expressions.specs.declared.kinds.Literal.TheVariants.{EntityUID}
use Rattle.policy_expressions.specs.declared.kinds.BinaryOp.{BinaryOp}
use Rattle.policy_expressions.specs.declared.kinds.BinaryOp.TheVariants.{GetTag}
use Rattle.policy_expressions.specs.Tree.{Tree, lit, binary, attr, named_of}
use Rattle.schema_core.specs.EnvData.{EnvData}
use Rattle.schema_core.specs.Schema.{SchemaData}
use Rattle.reads_spec.specs.Paths.{Root as PathRoot, Step, any_tag, along, beyond, Shape, no_shape, at_path, set_shape, record_shape, one_of, paths, extended}
use Rattle.reads_spec.specs.Reads.{with_step, reads, reads_named, shape_of, literal_shape, binary_shape, binary_reads}
use Rattle.path_analysis.specs.Covers.{covers, Adds, is_path, own_path}
use Rattle.path_analysis.specs.PathOrder.{with_paths}
use Rattle.path_analysis.proofs.Alike.{more}

pub covers_both : (xs ys : List AccessPath) (es : Address) → covers (xs ++ ys) es ≡ (covers xs es || covers ys es)
covers_both [] ys es = refl
covers_both (x ∷ xs) ys es =
    ap (λ b. is_prefix_of es (address_of x) || b) (covers_both xs ys es) ∙ or_assoc_left (is_prefix_of es (address_of x)) (covers xs es) (covers ys es)

-- nothing is added, and nothing is added yet
pub adds_none : (old : List AccessPath) → Adds old [] old []
adds_none old = record { prefixes = λ es. refl }

pub adds_start : (old all : List AccessPath) → Adds old all old all
adds_start old all = record { prefixes = λ es. refl }

-- more is added after more
pub adds_more : (old xs mid ys new : List AccessPath) → Adds old xs mid [] → Adds mid ys new [] → Adds old (xs ++ ys) new []
adds_more old xs mid ys new h k = record {
  prefixes = λ es.
      k.prefixes es ∙ ap (λ b. b || covers ys es) (sym (or_false (covers mid es)) ∙ h.prefixes es)
      ∙ or_assoc (covers old es) (covers xs es) (covers ys es) ∙ ap (λ b. covers old es || b) (sym (covers_both xs ys es));
}

-- the next of what is left is added
pub adds_next : (old all mid xs rest new : List AccessPath) → Adds old all mid (xs ++ rest) → Adds mid xs new [] → Adds old all new rest
adds_next old all mid xs rest new h k = record {
  prefixes = λ es.
      ap (λ b. b || covers rest es) (sym (or_false (covers new es)) ∙ k.prefixes es)
      ∙ or_assoc (covers mid es) (covers xs es) (covers rest es) ∙ ap (λ b. covers mid es || b) (sym (covers_both xs rest es)) ∙ h.prefixes es;
}

-- what is added to a set
set_prefixes : (old xs : List AccessPath) (es : Address) → covers (with_paths old xs) es ≡ (covers old es || covers xs es)
set_prefixes old xs es = more exact_path (λ p. is_prefix_of es (address_of p)) old xs

pub adds_set : (old xs new : List AccessPath) → new ≡ with_paths old xs → Adds old xs new []
adds_set old xs new is = record { prefixes = λ es. or_false (covers new es) ∙ ap (λ ps. covers ps es) is ∙ set_prefixes old xs es }

pub adds_set_more : (old xs mid ys new : List AccessPath) → Adds old xs mid [] → new ≡ with_paths mid ys → Adds old (xs ++ ys) new []
adds_set_more old xs mid ys new h is = adds_more old xs mid ys new h (adds_set mid ys new is)

-- a path's prefixes are prefixes of the path that goes on
prefix_of_longer : (es : Address) (ss : List Step) (n : Step) → is_prefix_of es (map edge_of ss) ≡ true → is_prefix_of es (map edge_of (ss ++ n ∷ [])) ≡ true
prefix_of_longer [] ss n h = refl
prefix_of_longer (e ∷ es) [] n h = cc
prefix_of_longer (e ∷ es) (s ∷ ss) n h =
    let parts = and_parts_of (edge_eq (edge_of s) e) (is_prefix_of es (map edge_of ss)) h in
    λ i. parts.0 i && prefix_of_longer es ss n parts.1 i

root_prefix : (es : Address) (r : PathRoot) (ss : List Step) (n : Step) → is_prefix_of es (address_of (record { root = r; steps = ss })) ≡ true → is_prefix_of es (address_of (record { root = r; steps = ss ++ n ∷ [] })) ≡ true
root_prefix [] r ss n h = refl
root_prefix (e ∷ es) r ss n h =
    let parts = and_parts_of (edge_eq (Root r) e) (is_prefix_of es (map edge_of ss)) h in
    λ i. parts.0 i && prefix_of_longer es ss n parts.1 i

one_goes_on : (es : Address) (r : PathRoot) (ss : List Step) (n : Step) →
    covers (with_step (record { root = r; steps = ss } ∷ [])) es ≡ true → covers (with_step (record { root = r; steps = ss ++ n ∷ [] } ∷ [])) es ≡ true
one_goes_on es r [] n h = cc
one_goes_on es r (s ∷ ss) n h =
    let short = address_of (record { root = r; steps = s ∷ ss }) in
    ap (λ b. b || false) (root_prefix es r (s ∷ ss) n (sym (or_false (is_prefix_of es short)) ∙ h))

-- the path that a shape is itself is one of its paths
own_in : (a : Shape) (es : Address) → covers (own_path a) es ≡ true → covers (with_step (paths a)) es ≡ true
own_in (at_path p) es h = h
own_in no_shape es h = cc
own_in (set_shape a) es h = cc
own_in (record_shape fs) es h = cc
own_in (one_of a b) es h = cc

-- what a claim adds to itself, and to what is weaker
with_own : (o x w n own : Bool) → (own ≡ true → w ≡ true) → (n || own) ≡ (o || (x || w)) → (n || w) ≡ (o || (x || w))
with_own o x true n own h k = or_right_true n true refl ∙ sym (or_right_true o (x || true) (or_right_true x true refl))
with_own o x false n true h k = absurd (cc (h refl))
with_own o x false n false h k = k

own_again : (n o x w own : Bool) → (own ≡ true → w ≡ true) → n ≡ (o || x) → ((n || w) || own) ≡ (o || (x || w))
own_again n o x true own h k = ap (λ b. b || own) (or_right_true n true refl) ∙ sym (or_right_true o (x || true) (or_right_true x true refl))
own_again n o x false true h k = absurd (cc (h refl))
own_again n o x false false h k = or_false (n || false) ∙ or_false n ∙ k ∙ ap (λ b. o || b) (sym (or_false x))

goes_on_for : (n own o x w : Bool) → (own ≡ true → w ≡ true) → (n || own) ≡ (o || x) → (n || w) ≡ (o || (x || w))
goes_on_for n own o x true h k = or_right_true n true refl ∙ sym (or_right_true o (x || true) (or_right_true x true refl))
goes_on_for n true o x false h k = absurd (cc (h refl))
goes_on_for n false o x false h k = k ∙ ap (λ b. o || b) (sym (or_false x))

-- a path that goes on stands for itself
pub path_goes_on : (a : Shape) (n : Step) (old xs new : List AccessPath) → is_path a ≡ true → Adds old xs new (own_path a) → Adds old (xs ++ with_step (paths (extended a n))) new (own_path (extended a n))
path_goes_on (at_path p) n old xs new is h = record {
  prefixes = λ es.
      let w = covers (with_step (beyond p (n ∷ []) ∷ [])) es in
      goes_on_for (covers new es) (covers (own_path (at_path p)) es) (covers old es) (covers xs es) w (one_goes_on es p.root p.steps n) (h.prefixes es)
      ∙ ap (λ b. covers old es || b) (sym (covers_both xs (with_step (beyond p (n ∷ []) ∷ [])) es));
}
path_goes_on no_shape n old xs new is h = cc
path_goes_on (set_shape a) n old xs new is h = cc
path_goes_on (record_shape fs) n old xs new is h = cc
path_goes_on (one_of a b) n old xs new is h = cc

none_own : (a : Shape) → is_path a ≡ false → own_path a ≡ []
none_own (at_path p) is = cc
none_own no_shape is = refl
none_own (set_shape a) is = refl
none_own (record_shape fs) is = refl
none_own (one_of a b) is = refl

-- where the shape is no path, the paths one step on are added
pub paths_go_on : (a : Shape) (n : Step) (old xs mid new : List AccessPath) → is_path a ≡ false → Adds old xs mid (own_path a) →
    new ≡ with_paths mid (with_step (paths (extended a n))) → Adds old (xs ++ with_step (paths (extended a n))) new (own_path (extended a n))
paths_go_on a n old xs mid new is h added = record {
  prefixes = λ es.
      let ws = with_step (paths (extended a n)) in
      let before : covers mid es ≡ (covers old es || covers xs es) =
      sym (or_false (covers mid es)) ∙ ap (λ ps. covers mid es || covers ps es) (sym (none_own a is)) ∙ h.prefixes es in
      ap (λ b. b || covers (own_path (extended a n)) es) (ap (λ ps. covers ps es) added ∙ set_prefixes mid ws es)
      ∙ own_again (covers mid es) (covers old es) (covers xs es) (covers ws es) (covers (own_path (extended a n)) es) (own_in (extended a n) es) before
      ∙ ap (λ b. covers old es || b) (sym (covers_both xs ws es));
}

-- at the end the paths of the shape are added
pub adds_own : (a : Shape) (old xs mid new : List AccessPath) → Adds old (xs ++ with_step (paths a)) mid (own_path a) → new ≡ with_paths mid (with_step (paths a)) → Adds old (xs ++ with_step (paths a)) new []
adds_own a old xs mid new h added = record {
  prefixes = λ es.
      let ws = with_step (paths a) in
      or_false (covers new es) ∙ ap (λ ps. covers ps es) added ∙ set_prefixes mid ws es
      ∙ with_own (covers old es) (covers xs es) (covers ws es) (covers mid es) (covers (own_path a) es) (own_in a es) (h.prefixes es ∙ ap (λ b. covers old es || b) (covers_both xs ws es))
      ∙ ap (λ b. covers old es || b) (sym (covers_both xs ws es));
}

literal_own : (l : Literal) (es : Address) → covers (own_path (literal_shape l)) es ≡ true → ⊥
literal_own (EntityUID u) es h = cc
literal_own l es h = cc

last_in : (xs ys : List AccessPath) (es : Address) → covers ys es ≡ true → covers (xs ++ ys) es ≡ true
last_in xs ys es h = covers_both xs ys es ∙ or_right_true (covers xs es) (covers ys es) h

module _ (schema : SchemaData) (env : EnvData) where
  binary_own : (o : BinaryOp) (a b : Shape) (es : Address) → covers (own_path (binary_shape o a)) es ≡ true → covers (binary_reads schema env o a b) es ≡ true
  binary_own GetTag a b es h = own_in (extended a any_tag) es h
  binary_own o a b es h = cc

module _ (schema : SchemaData) (env : EnvData) {A : Type 0} where
  -- where a result comes from, is read
  own_read : (e : Tree A) (es : Address) → covers (own_path (shape_of e)) es ≡ true → covers (reads schema env e) es ≡ true
  own_read (lit l a) es h = absurd (literal_own l es h)
  own_read (binary o x y a) es h =
      last_in (reads schema env x ++ reads schema env y) (binary_reads schema env o (shape_of x) (shape_of y)) es (binary_own schema env o (shape_of x) (shape_of y) es h)
  own_read (attr x n a) es h = last_in (reads schema env x) (with_step (paths (extended (shape_of x) (along n)))) es (own_in (extended (shape_of x) (along n)) es h)
  own_read e es h = cc

  -- so it stands for itself
  pub own_stands : (e : Tree A) (old new : List AccessPath) → Adds old (reads schema env e) new [] → Adds old (reads schema env e) new (own_path (shape_of e))
  own_stands e old new h = record { prefixes = λ es. kept (covers new es) (covers (own_path (shape_of e)) es) (covers old es) (covers (reads schema env e) es) (own_read e es) (h.prefixes es) }
    where
      kept : (n own o r : Bool) → (own ≡ true → r ≡ true) → (n || false) ≡ (o || r) → (n || own) ≡ (o || r)
      kept n true o r g k = or_right_true n true refl ∙ sym (or_right_true o r (g refl))
      kept n false o r g k = k

  -- both operands, and then what the operator reads
  pub binary_added : (o : BinaryOp) (x y : Tree A) (a b : Shape) (old one two new : List AccessPath) → Adds old (reads schema env x) one [] → Adds one (reads schema env y) two [] →
      a ≡ shape_of x → b ≡ shape_of y → new ≡ with_paths two (binary_reads schema env o a b) →
      Adds old ((reads schema env x ++ reads schema env y) ++ binary_reads schema env o (shape_of x) (shape_of y)) new []
  binary_added o x y a b old one two new left right is_left is_right added =
      adds_set_more old (reads schema env x ++ reads schema env y) two (binary_reads schema env o (shape_of x) (shape_of y)) new
      (adds_more old (reads schema env x) one (reads schema env y) two left right)
      (added ∙ (λ i. with_paths two (binary_reads schema env o (is_left i) (is_right i))))

  -- the next field
  pub named_next : (it rest : List (List ℕ × Tree A)) (k : List ℕ) (e : Tree A) → it ≡ (k, e) ∷ rest → (old all mid new : List AccessPath) →
      Adds old all mid (reads_named schema env (named_of it)) → Adds mid (reads schema env e) new [] → Adds old all new (reads_named schema env (named_of rest))
  named_next it rest k e is old all mid new left added =
      adds_next old all mid (reads schema env e) (reads_named schema env (named_of rest)) new (subst (λ fs. Adds old all mid (reads_named schema env (named_of fs))) is left) added
