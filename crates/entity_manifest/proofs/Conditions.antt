-- Typed conditions ask for ancestors of ids alone.
-- The plan. By induction over the expression, along the typing rules: the type is above what the paths of its shape lead
-- to, and ancestors are demanded of ids alone (`Asks`). An operator that demands them does so of its left operand, which
-- its rule types as an id; all else hands on what its parts demand.
use Rattle.std.proofs.Common.{◌≡◌, ◌⊎◌, ℕ, Bool, true, false, ◌&&◌, ◌||◌, List, [], ◌∷◌, ◌++◌, map, Option, Some, None, is_some, IsTrue, refl, sym, ap, subst, IfSome, inl, inr}
use Rattle.std.specs.Prelude.{if◌then◌else◌, option_map, Result, Ok, Err, IfOk}
use Rattle.std.specs.Option.{option_and_then, option_map_or}
use Rattle.std.specs.Result.{result_ok}
use Rattle.std.proofs.lemmas.Bool.{and_parts}
use Rattle.schema_types.specs.declared.kinds.LubHelp.{LubHelp}
use Rattle.schema_types.specs.declared.kinds.Primitive.TheVariants.{Bool as BoolType, Long, String}
use Rattle.schema_types.specs.declared.ty.AttributeType.{AttributeType}
use Rattle.schema_types.specs.Required.{required_attrs}
use Rattle.schema_types.specs.Ty.{Ty, true_type, false_type, primitive, set_of}
use Rattle.schema_core.specs.EnvData.{EnvData}
use Rattle.schema_core.specs.Schema.{SchemaData}
use Rattle.type_relations.specs.declared.mode.SubtypeMode.TheVariants.{Strict}
use Rattle.type_relations.specs.Join.{is_entity, join, join_all}
use Rattle.policy_expressions.specs.declared.kinds.Literal.{Literal}
use Rattle.policy_expressions.specs.declared.kinds.Literal.TheVariants as literal
use Rattle.policy_expressions.specs.declared.kinds.BinaryOp.{BinaryOp}
use Rattle.policy_expressions.specs.declared.kinds.BinaryOp.TheVariants.{In, GetTag}
use Rattle.policy_expressions.specs.declared.kinds.Var.{Var}
use Rattle.policy_expressions.specs.Functions.{function_of}
use Rattle.policy_expressions.specs.Tree.{lit, var, slot, ite, conj, disj, unary, binary, attr, has, like, is_type, call, set, rec, Trees, no_trees, tree, Named, no_named, named, Mark}
use Rattle.policy_expressions.specs.Plain.{Plain}
use Rattle.typing_spec.specs.Capability.{Capability, has_cap, common}
use Rattle.typing_spec.specs.Environment.{type_of_literal, type_of_variable, listed_ids}
use Rattle.typing_spec.specs.Rules as rule
use Rattle.typing_spec.specs.Signatures.{bool_type, call_type}
use Rattle.typing_spec.specs.Typing.{Typed, Typing, typing, at, unreached, attribute_known, tag_known, if_typing, and_caps, and_typing, or_caps, or_typing, binary_caps, has_caps, types_in, trees_in, record_type, named_in, types, types_all, types_named}
use Rattle.reads_spec.specs.Paths.{AccessPath, Demand, Shape, paths, extended, along}
use Rattle.reads_spec.specs.PathTypes.{path_type}
use Rattle.reads_spec.specs.Reads.{binary_shape, shape_of, shapes_of_named, pairs, binary_demands, demands, demands_all, demands_named}
use Rattle.reads_spec.proofs.Lists.{IsIn}
use Rattle.entity_manifest.specs.DeclaredPaths.{is_of_ids}
use Rattle.entity_manifest.proofs.Below.{is_plain, Below, below_self, join_above}
use Rattle.entity_manifest.proofs.Shapes.{in_append, OfShape, OfFields, AreOfIds, shape_above, field_shapes, tag_shapes, paths_to_ids}

when_some : {A B : Type 0} (P : A → Type 0) (Q : B → Type 0) (f : A → Option B) (o : Option A) → IfSome o P → ((x : A) → P x → IfSome (f x) Q) → IfSome (option_and_then f o) Q
when_some P Q f None h k = tt
when_some P Q f (Some x) h k = k x h

mapped : {A B : Type 0} (P : A → Type 0) (Q : B → Type 0) (f : A → B) (o : Option A) → IfSome o P → ((x : A) → P x → Q (f x)) → IfSome (option_map f o) Q
mapped P Q f None h k = tt
mapped P Q f (Some x) h k = k x h

any_some : {A : Type 0} (P : A → Type 0) (o : Option A) → ((x : A) → P x) → IfSome o P
any_some P None k = tt
any_some P (Some x) k = k x

passed : {A : Type 0} (c : Bool) (v w : A) → (if c then Some v else None) ≡ Some w → c ≡ true
passed true v w e = refl
passed false v w e = absurd (cc)

-- what is there, with that it is there
there : {A : Type 0} (o : Option A) → IfSome o (λ x. o ≡ Some x)
there None = tt
there (Some x) = refl

module _ (d : SchemaData) (g : EnvData) where
  -- ancestors are demanded of ids alone
  abbrev pub AsksIds : List Demand → Type 0
  AsksIds ds = (e : Demand) → IsIn e ds → IfSome (path_type d g e.0) (λ u. IsTrue (is_of_ids u))

  pub asks_both : (ds es : List Demand) → AsksIds ds → AsksIds es → AsksIds (ds ++ es)
  asks_both ds es h k e i = by (in_append e ds es i)
    where
      by : IsIn e ds ⊎ IsIn e es → IfSome (path_type d g e.0) (λ u. IsTrue (is_of_ids u))
      by (inl j) = h e j
      by (inr j) = k e j

  of_one : (p : AccessPath) (rs : List AccessPath) → IfSome (path_type d g p) (λ u. IsTrue (is_of_ids u)) → AsksIds (map (λ r. (p, r)) rs)
  of_one p [] h e i = absurd i
  of_one p (r ∷ rs) h e (inl same) = subst (λ z. IfSome (path_type d g z) (λ u. IsTrue (is_of_ids u))) (ap (λ (z : Demand). z.0) same) h
  of_one p (r ∷ rs) h e (inr i) = of_one p rs h e i

  of_pairs : (ps rs : List AccessPath) → AreOfIds d g ps → AsksIds (pairs ps rs)
  of_pairs [] rs h = λ e i. absurd i
  of_pairs (p ∷ ps) rs h = asks_both (map (λ r. (p, r)) rs) (pairs ps rs) (of_one p rs (h p (inl refl))) (of_pairs ps rs (λ z i. h z (inr i)))

  -- the type is above what the paths of the shape lead to, and ancestors are demanded of ids
  pub record Asks (t : Ty) (e : Typed) : Type 0 where
    pub shape : OfShape d g t (shape_of e)
    pub asked : AsksIds (demands e)

  abbrev Fine : Typing → Type 0
  Fine x = Asks x.type x.tree

  pub none_asked : AsksIds []
  none_asked e i = absurd i

  -- literals and variables
  literal_fine : (l : Literal) (m : Mark (Unit {0})) → IfSome (type_of_literal d l) (λ t. Asks t (lit l (at t m)))
  literal_fine (literal.Bool b) m = record { shape = tt; asked = none_asked }
  literal_fine (literal.Long n) m = record { shape = tt; asked = none_asked }
  literal_fine (literal.String t) m = record { shape = tt; asked = none_asked }
  literal_fine (literal.EntityUID u) m = by (type_of_literal d (literal.EntityUID u)) refl
    where
      by : (o : Option Ty) → type_of_literal d (literal.EntityUID u) ≡ o → IfSome o (λ t. Asks t (lit (literal.EntityUID u) (at t m)))
      by None e = tt
      by (Some t) e = record { shape = subst (λ o. IfSome o (λ w. Below w t)) (sym e) (below_self t); asked = none_asked }

  variable_fine : (v : Var) (m : Mark (Unit {0})) → IfSome (type_of_variable d g v) (λ t. Asks t (var v (at t m)))
  variable_fine v m = by (type_of_variable d g v) refl
    where
      by : (o : Option Ty) → type_of_variable d g v ≡ o → IfSome o (λ t. Asks t (var v (at t m)))
      by None e = tt
      by (Some t) e = record { shape = subst (λ o. IfSome o (λ w. Below w t)) (sym e) (below_self t); asked = none_asked }

  -- the last step of a typing
  last : (f : Ty → Typing) (w : Option Ty) → ((t : Ty) → w ≡ Some t → Fine (f t)) → IfSome (option_map f w) Fine
  last f w h = mapped (λ t. w ≡ Some t) Fine f w (there w) h

  -- `if`
  joined : (y z : Typing) (x : Typed) (m : Mark (Unit {0})) → AsksIds (demands x) → Fine y → Fine z → (t : Ty) → rule.strict_join y.type z.type ≡ Some t → Asks t (ite x y.tree z.tree (at t m))
  joined y z x m i j k t e = by (join Strict y.type z.type) (join_above y.type z.type) e
    where
      by : (r : Result Ty LubHelp) → IfOk r (λ w. Below y.type w × Below z.type w) → result_ok r ≡ Some t → Asks t (ite x y.tree z.tree (at t m))
      by (Err h) a f = absurd (cc)
      by (Ok w) a f =
          let same : w ≡ t = cc in
          record {
            shape = (shape_above d g y.type t (shape_of y.tree) (subst (Below y.type) same a.0) j.shape, shape_above d g z.type t (shape_of z.tree) (subst (Below z.type) same a.1) k.shape);
            asked = asks_both (demands x) (demands y.tree ++ demands z.tree) i (asks_both (demands y.tree) (demands z.tree) j.asked k.asked);
          }

  if_fine : (t : Ty) (cs : List Capability) (x : Typed) (m : Mark (Unit {0})) (a b : Option Typing) → AsksIds (demands x) → IfSome a Fine → IfSome b Fine → IfSome (if_typing t cs x m a b) Fine
  if_fine true_type cs x m a b i h k = mapped Fine Fine (λ y. typing y.type (y.caps ++ cs) (ite x y.tree unreached (at y.type m))) a h (λ y j. record {
    shape = (j.shape, tt);
    asked = asks_both (demands x) (demands y.tree ++ []) i (asks_both (demands y.tree) [] j.asked none_asked);
  })
  if_fine false_type cs x m a b i h k = mapped Fine Fine (λ z. typing z.type z.caps (ite x unreached z.tree (at z.type m))) b k (λ z j. record {
    shape = (tt, j.shape);
    asked = asks_both (demands x) (demands z.tree) i j.asked;
  })
  if_fine (primitive BoolType) cs x m a b i h k =
      when_some Fine Fine (λ y. option_and_then (λ z. option_map (λ t. typing t (common z.caps (y.caps ++ cs)) (ite x y.tree z.tree (at t m))) (rule.strict_join y.type z.type)) b) a h (λ y p.
      when_some Fine Fine (λ z. option_map (λ t. typing t (common z.caps (y.caps ++ cs)) (ite x y.tree z.tree (at t m))) (rule.strict_join y.type z.type)) b k (λ z q.
      last (λ t. typing t (common z.caps (y.caps ++ cs)) (ite x y.tree z.tree (at t m))) (rule.strict_join y.type z.type) (joined y z x m i p q)))
  if_fine (primitive Long) cs x m a b i h k = tt
  if_fine (primitive String) cs x m a b i h k = tt
  if_fine t cs x m a b i h k = tt

  -- `&&` and `||`
  conj_rest : (t : Ty) (cs : List Capability) (x : Typed) (m : Mark (Unit {0})) (b : Option Typing) → AsksIds (demands x) → IfSome b Fine → IfSome (option_and_then (λ y. option_map (λ w. typing w (and_caps y.type cs y.caps) (conj x y.tree (at w m))) (rule.and_type t y.type)) b) Fine
  conj_rest t cs x m b i h =
      when_some Fine Fine (λ y. option_map (λ w. typing w (and_caps y.type cs y.caps) (conj x y.tree (at w m))) (rule.and_type t y.type)) b h (λ y j.
      last (λ w. typing w (and_caps y.type cs y.caps) (conj x y.tree (at w m))) (rule.and_type t y.type) (λ w e. record { shape = tt; asked = asks_both (demands x) (demands y.tree) i j.asked }))

  conj_fine : (t : Ty) (cs : List Capability) (x : Typed) (m : Mark (Unit {0})) (b : Option Typing) → AsksIds (demands x) → IfSome b Fine → IfSome (and_typing t cs x m b) Fine
  conj_fine false_type cs x m b i h = record { shape = tt; asked = asks_both (demands x) [] i none_asked }
  conj_fine t cs x m b i h = conj_rest t cs x m b i h

  disj_rest : (t : Ty) (cs : List Capability) (x : Typed) (m : Mark (Unit {0})) (b : Option Typing) → AsksIds (demands x) → IfSome b Fine → IfSome (option_and_then (λ y. option_map (λ w. typing w (or_caps t y.type cs y.caps) (disj x y.tree (at w m))) (rule.or_type t y.type)) b) Fine
  disj_rest t cs x m b i h =
      when_some Fine Fine (λ y. option_map (λ w. typing w (or_caps t y.type cs y.caps) (disj x y.tree (at w m))) (rule.or_type t y.type)) b h (λ y j.
      last (λ w. typing w (or_caps t y.type cs y.caps) (disj x y.tree (at w m))) (rule.or_type t y.type) (λ w e. record { shape = tt; asked = asks_both (demands x) (demands y.tree) i j.asked }))

  disj_fine : (t : Ty) (cs : List Capability) (x : Typed) (m : Mark (Unit {0})) (b : Option Typing) → AsksIds (demands x) → IfSome b Fine → IfSome (or_typing t cs x m b) Fine
  disj_fine true_type cs x m b i h = record { shape = tt; asked = asks_both (demands x) [] i none_asked }
  disj_fine t cs x m b i h = disj_rest t cs x m b i h

  -- the operators
  in_asks : (x y : Plain) (t u w : Ty) (a b : Shape) → rule.in_type d g x y t u ≡ Some w → OfShape d g t a → AsksIds (pairs (paths a) (paths b))
  in_asks x y t u w a b e h =
      let f = passed (is_entity t && (is_entity u || rule.is_entity_set u)) (option_map_or (rule.in_listed d g x) (listed_ids g y) bool_type) w e in
      of_pairs (paths a) (paths b) (paths_to_ids d g t a (and_parts (is_entity t) (is_entity u || rule.is_entity_set u) f).0 h)

  binary_asks : (o : BinaryOp) (known : Bool) (x y : Plain) (t u w : Ty) (a b : Shape) → rule.binary_type d g o known x y t u ≡ Some w → OfShape d g t a → AsksIds (binary_demands o a b)
  binary_asks In known x y t u w a b e h = in_asks x y t u w a b e h
  binary_asks o known x y t u w a b e h = none_asked

  tag_there : (c : Bool) (o : Option Ty) (w : Ty) → (if c then o else None) ≡ Some w → o ≡ Some w
  tag_there true o w e = e
  tag_there false o w e = absurd (cc)

  binary_of : (o : BinaryOp) (known : Bool) (x y : Plain) (t u w : Ty) (a : Shape) → rule.binary_type d g o known x y t u ≡ Some w → OfShape d g t a → OfShape d g w (binary_shape o a)
  binary_of GetTag known x y t u w a e h = tag_shapes d g t w a (tag_there ((is_entity t && rule.is_string u) && known) (rule.tag_type d t) w e) h
  binary_of o known x y t u w a e h = tt

  attr_of : (known : Bool) (t w : Ty) (n : List ℕ) (a : Shape) → rule.attr_type d known t n ≡ Some w → OfShape d g t a → OfShape d g w (extended a (along n))
  attr_of known t w n a e h = by (rule.attribute_of d t n) refl e
    where
      safe : (b : AttributeType) → rule.attribute_of d t n ≡ Some b → (c : Bool) → (if c then Some b.attr_type else None) ≡ Some w → OfShape d g w (extended a (along n))
      safe b f true k = let same : b.attr_type ≡ w = cc in subst (λ z. OfShape d g z (extended a (along n))) same (field_shapes d g t n b a f h)
      safe b f false k = absurd (cc)

      by : (o : Option AttributeType) → rule.attribute_of d t n ≡ o → option_and_then (rule.safe_type known) o ≡ Some w → OfShape d g w (extended a (along n))
      by None f k = absurd (cc)
      by (Some b) f k = safe b f (b.is_required || known) k

  set_plain : (ts : List Ty) (t : Ty) → rule.set_type ts ≡ Some t → is_plain t ≡ true
  set_plain [] t e = absurd (cc)
  set_plain (u ∷ us) t e = by (result_ok (join_all Strict (u ∷ us))) e
    where
      by : (o : Option Ty) → option_map set_of o ≡ Some t → is_plain t ≡ true
      by None f = absurd (cc)
      by (Some w) f = let same : set_of w ≡ t = cc in subst (λ z. is_plain z ≡ true) same refl

  abbrev G : List Capability → Plain → Option Typing
  G = types d g

  -- of several operands
  abbrev AllFine : List Typing → Type 0
  AllFine ys = AsksIds (demands_all (trees_in ys))

  abbrev NamedFine : List (List ℕ × Typing) → Type 0
  NamedFine ys = OfFields d g (required_attrs (map (λ e. (e.0, e.1.type)) ys)) (shapes_of_named (named_in ys)) × AsksIds (demands_named (named_in ys))

  mutual
    pub types_fine : (cs : List Capability) (e : Plain) → IfSome (types d g cs e) Fine
    types_fine cs (lit l m) = mapped (λ t. Asks t (lit l (at t m))) Fine (λ t. typing t [] (lit l (at t m))) (type_of_literal d l) (literal_fine l m) (λ t h. h)
    types_fine cs (var v m) = mapped (λ t. Asks t (var v (at t m))) Fine (λ t. typing t [] (var v (at t m))) (type_of_variable d g v) (variable_fine v m) (λ t h. h)
    types_fine cs (slot i m) = record { shape = tt; asked = none_asked }
    types_fine cs (ite x y z m) =
        when_some Fine Fine (λ a. if_typing a.type a.caps a.tree m (G (cs ++ a.caps) y) (G cs z)) (G cs x) (types_fine cs x) (λ a h.
        if_fine a.type a.caps a.tree m (G (cs ++ a.caps) y) (G cs z) h.asked (types_fine (cs ++ a.caps) y) (types_fine cs z))
    types_fine cs (conj x y m) =
        when_some Fine Fine (λ a. and_typing a.type a.caps a.tree m (G (cs ++ a.caps) y)) (G cs x) (types_fine cs x) (λ a h.
        conj_fine a.type a.caps a.tree m (G (cs ++ a.caps) y) h.asked (types_fine (cs ++ a.caps) y))
    types_fine cs (disj x y m) =
        when_some Fine Fine (λ a. or_typing a.type a.caps a.tree m (G cs y)) (G cs x) (types_fine cs x) (λ a h.
        disj_fine a.type a.caps a.tree m (G cs y) h.asked (types_fine cs y))
    types_fine cs (unary o x m) =
        when_some Fine Fine (λ a. option_map (λ t. typing t [] (unary o a.tree (at t m))) (rule.unary_type o a.type)) (G cs x) (types_fine cs x) (λ a h.
        last (λ t. typing t [] (unary o a.tree (at t m))) (rule.unary_type o a.type) (λ t e. record { shape = tt; asked = h.asked }))
    types_fine cs (binary o x y m) =
        when_some Fine Fine (λ a. option_and_then (λ b. option_map (λ t. typing t (binary_caps o x y) (binary o a.tree b.tree (at t m))) (rule.binary_type d g o (has_cap cs (tag_known x y)) x y a.type b.type)) (G cs y)) (G cs x) (types_fine cs x) (λ a h.
        when_some Fine Fine (λ b. option_map (λ t. typing t (binary_caps o x y) (binary o a.tree b.tree (at t m))) (rule.binary_type d g o (has_cap cs (tag_known x y)) x y a.type b.type)) (G cs y) (types_fine cs y) (λ b i.
        last (λ t. typing t (binary_caps o x y) (binary o a.tree b.tree (at t m))) (rule.binary_type d g o (has_cap cs (tag_known x y)) x y a.type b.type) (λ t e. record {
          shape = binary_of o (has_cap cs (tag_known x y)) x y a.type b.type t (shape_of a.tree) e h.shape;
          asked = asks_both (demands a.tree ++ demands b.tree) (binary_demands o (shape_of a.tree) (shape_of b.tree)) (asks_both (demands a.tree) (demands b.tree) h.asked i.asked)
              (binary_asks o (has_cap cs (tag_known x y)) x y a.type b.type t (shape_of a.tree) (shape_of b.tree) e h.shape);
        })))
    types_fine cs (attr x n m) =
        when_some Fine Fine (λ a. option_map (λ t. typing t [] (attr a.tree n (at t m))) (rule.attr_type d (has_cap cs (attribute_known x n)) a.type n)) (G cs x) (types_fine cs x) (λ a h.
        last (λ t. typing t [] (attr a.tree n (at t m))) (rule.attr_type d (has_cap cs (attribute_known x n)) a.type n) (λ t e.
        record { shape = attr_of (has_cap cs (attribute_known x n)) a.type t n (shape_of a.tree) e h.shape; asked = h.asked }))
    types_fine cs (has x n m) =
        when_some Fine Fine (λ a. option_map (λ t. typing t (has_caps (is_some (rule.attribute_of d a.type n)) x n) (has a.tree n (at t m))) (rule.has_type d (has_cap cs (attribute_known x n)) a.type n)) (G cs x) (types_fine cs x) (λ a h.
        last (λ t. typing t (has_caps (is_some (rule.attribute_of d a.type n)) x n) (has a.tree n (at t m))) (rule.has_type d (has_cap cs (attribute_known x n)) a.type n) (λ t e. record { shape = tt; asked = h.asked }))
    types_fine cs (like x p m) =
        when_some Fine Fine (λ a. option_map (λ t. typing t [] (like a.tree p (at t m))) (rule.like_type a.type)) (G cs x) (types_fine cs x) (λ a h.
        last (λ t. typing t [] (like a.tree p (at t m))) (rule.like_type a.type) (λ t e. record { shape = tt; asked = h.asked }))
    types_fine cs (is_type x n m) =
        when_some Fine Fine (λ a. option_map (λ t. typing t [] (is_type a.tree n (at t m))) (rule.is_type a.type n)) (G cs x) (types_fine cs x) (λ a h.
        last (λ t. typing t [] (is_type a.tree n (at t m))) (rule.is_type a.type n) (λ t e. record { shape = tt; asked = h.asked }))
    types_fine cs (call f xs m) =
        when_some AllFine Fine (λ ys. option_map (λ t. typing t [] (call f (trees_in ys) (at t m))) (call_type (function_of f) xs (types_in ys))) (types_all d g cs xs) (all_fine cs xs) (λ ys h.
        last (λ t. typing t [] (call f (trees_in ys) (at t m))) (call_type (function_of f) xs (types_in ys)) (λ t e. record { shape = tt; asked = h }))
    types_fine cs (set xs m) =
        when_some AllFine Fine (λ ys. option_map (λ t. typing t [] (set (trees_in ys) (at t m))) (rule.set_type (types_in ys))) (types_all d g cs xs) (all_fine cs xs) (λ ys h.
        last (λ t. typing t [] (set (trees_in ys) (at t m))) (rule.set_type (types_in ys)) (λ t e. record { shape = set_plain (types_in ys) t e; asked = h }))
    types_fine cs (rec xs m) =
        mapped NamedFine Fine (λ ys. typing (record_type ys) [] (rec (named_in ys) (at (record_type ys) m))) (types_named d g cs xs) (named_fine cs xs) (λ ys h. record { shape = h.0; asked = h.1 })

    all_fine : (cs : List Capability) (xs : Trees (Mark (Unit {0}))) → IfSome (types_all d g cs xs) AllFine
    all_fine cs no_trees = none_asked
    all_fine cs (tree x xs) =
        when_some Fine AllFine (λ a. option_map (λ ys. a ∷ ys) (types_all d g cs xs)) (G cs x) (types_fine cs x) (λ a h.
        mapped AllFine AllFine (λ ys. a ∷ ys) (types_all d g cs xs) (all_fine cs xs) (λ ys i. asks_both (demands a.tree) (demands_all (trees_in ys)) h.asked i))

    named_fine : (cs : List Capability) (xs : Named (Mark (Unit {0}))) → IfSome (types_named d g cs xs) NamedFine
    named_fine cs no_named = (tt, none_asked)
    named_fine cs (named k x xs) =
        when_some Fine NamedFine (λ a. option_map (λ ys. (k, a) ∷ ys) (types_named d g cs xs)) (G cs x) (types_fine cs x) (λ a h.
        mapped NamedFine NamedFine (λ ys. (k, a) ∷ ys) (types_named d g cs xs) (named_fine cs xs) (λ ys i. ((refl, h.shape, i.0), asks_both (demands a.tree) (demands_named (named_in ys)) h.asked i.1)))
