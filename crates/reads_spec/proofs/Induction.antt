-- What is read is enough: on a store that keeps what a typed expression reads, the expression has the outcome that it has on
-- the whole one.
use Rattle.std.proofs.Common.{◌≡◌, ℕ, Bool, true, false, List, [], ◌∷◌, ◌++◌, ◌+ℤ◌, ◌-ℤ◌, ◌*ℤ◌, refl, ap, subst, inl, inr}
use Rattle.std.specs.Prelude.{Result, Ok, Err}
use Rattle.std.specs.List.{flat_map}
use Rattle.std.specs.Option.{option_map_or}
use Rattle.std.specs.Ordering.{is_eq}
use Rattle.policy_values.specs.Value.{Val, truth, fields_of}
use Rattle.policy_values.specs.ValueOrder.{val_cmp}
use Rattle.policy_expressions.specs.declared.kinds.Literal.{Literal}
use Rattle.policy_expressions.specs.declared.kinds.Literal.TheVariants as literal
use Rattle.policy_expressions.specs.declared.kinds.UnaryOp.{UnaryOp}
use Rattle.policy_expressions.specs.declared.kinds.UnaryOp.TheVariants.{Not, Neg, IsEmpty}
use Rattle.policy_expressions.specs.declared.kinds.BinaryOp.{BinaryOp}
use Rattle.policy_expressions.specs.declared.kinds.BinaryOp.TheVariants.{Eq, Less, LessEq, Add, Sub, Mul, In, Contains, ContainsAll, ContainsAny, GetTag, HasTag}
use Rattle.policy_core.specs.declared.outcome.EvalError.{EvalError}
use Rattle.policy_core.specs.declared.outcome.Outcome.{Outcome}
use Rattle.policy_core.specs.declared.outcome.Outcome.TheVariants.{Value, Error}
use Rattle.policy_core.specs.Calls.{call_outcome}
use Rattle.policy_core.specs.Eval.{literal_value, truth_of, truth_outcome, choose, in_prefix, set_outcome, record_outcome, eval, eval_all, eval_named}
use Rattle.policy_expressions.specs.Functions.{function_of}
use Rattle.policy_core.specs.Operators.{unary_value, binary_value, contains_value, contains_all_value, contains_any_value, like_value, is_value}
use Rattle.policy_expressions.specs.Tree.{Tree, lit, var, slot, ite, conj, disj, unary, binary, attr, has, like, is_type, call, set as set_tree, rec as rec_tree, Trees, no_trees, tree, Named, no_named, named}
use Rattle.reads_spec.specs.Paths.{variable, an_id, along, any_tag, steps_of, AccessPath, Demand, beyond, Shape, no_shape, set_shape, record_shape, one_of, FieldShapes, field_shape, paths, extended, has_step}
use Rattle.reads_spec.specs.PathTypes.{path_type, chains}
use Rattle.reads_spec.specs.Reads.{literal_shape, binary_shape, shape_of, shape_of_all, shapes_of_named, with_step, all_below, wholly, unary_reads, binary_reads, reads, reads_all, reads_named, binary_demands, demands, demands_all, demands_named}
use Rattle.reads_spec.specs.Cover.{Prunes, PrunesAll, PrunesNamed}
use Rattle.reads_spec.proofs.Lists.{IsIn, in_left, in_right, in_map, in_filter, in_flat_map}
use Rattle.reads_spec.proofs.Relation.{Setting, there, EachRelated, Rel, RelFields, Agree, root_at}
use Rattle.reads_spec.proofs.Tops.{rel_top, IsPlainOutcome, agree_equal, top_agrees, tops_agree, not_top, neg_top, like_top, is_top, compared_top, calculated_top, truth_same, called_agrees}
use Rattle.reads_spec.proofs.Operators.{AllIn, DeepIn, WholeIn, whole_equal, then_agrees, agree_left, agree_right, wholly_agrees, empty_plain, contains_plain, contains_all_plain, contains_any_plain, attribute_agrees, has_agrees, tag_agrees, has_tag_agrees}
use Rattle.reads_spec.proofs.Within.{in_pairs, Kept, in_agrees}

-- all that is read and demanded is in the setting
pub record Covered (c : Setting) (ds : List Demand) (ps : List AccessPath) (es : List Demand) : Type 0 where
  pub reads : AllIn c ps
  pub demands : (d : Demand) → IsIn d es → IsIn d ds

module _ (c : Setting) (ds : List Demand) (ps rs : List AccessPath) (es fs : List Demand) where
  pub left_part : Covered c ds (ps ++ rs) (es ++ fs) → Covered c ds ps es
  left_part h = record { reads = λ p i. h.reads p (in_left p ps rs i); demands = λ d i. h.demands d (in_left d es fs i) }

  pub right_part : Covered c ds (ps ++ rs) (es ++ fs) → Covered c ds rs fs
  right_part h = record { reads = λ p i. h.reads p (in_right p ps rs i); demands = λ d i. h.demands d (in_right d es fs i) }

-- the same, where only one part demands
module _ (c : Setting) (ds : List Demand) (ps rs : List AccessPath) (es : List Demand) where
  pub first_reads : Covered c ds (ps ++ rs) es → Covered c ds ps es
  first_reads h = record { reads = λ p i. h.reads p (in_left p ps rs i); demands = h.demands }

  last_reads : Covered c ds (ps ++ rs) es → AllIn c rs
  last_reads h = λ p i. h.reads p (in_right p ps rs i)

-- those of the paths that have a step
deep_in : (c : Setting) (ps : List AccessPath) → AllIn c (with_step ps) → DeepIn c ps
deep_in c ps h = λ p i k. h p (in_filter has_step p ps i k)

module _ (c : Setting) (a : Shape) (h : AllIn c (wholly c.schema c.env a)) where
  deep_of : DeepIn c (paths a)
  deep_of = deep_in c (paths a) (λ p i. h p (in_left p (with_step (paths a)) (flat_map (all_below c.schema c.env) (paths a)) i))

  whole_of : WholeIn c (paths a)
  whole_of = record {
    below = λ p i cs j. h (beyond p (steps_of cs)) (in_right (beyond p (steps_of cs)) (with_step (paths a)) (flat_map (all_below c.schema c.env) (paths a))
        (in_flat_map (all_below c.schema c.env) p (beyond p (steps_of cs)) (paths a) i (in_map (λ cs. beyond p (steps_of cs)) cs (option_map_or chains (path_type c.schema c.env p) []) j)));
  }

-- lists of values
abbrev AgreeAll : Shape → Setting → Result (List Val) EvalError → Result (List Val) EvalError → Type 0
AgreeAll a c (Ok vs) (Ok ws) = EachRelated (Rel a c) vs ws
AgreeAll a c (Err e) (Err f) = e ≡ f
AgreeAll a c r s = ⊥

abbrev AgreeNamed : FieldShapes → Setting → Result (List (List ℕ × Val)) EvalError → Result (List (List ℕ × Val)) EvalError → Type 0
AgreeNamed fs c (Ok vs) (Ok ws) = RelFields fs c (fields_of vs) (fields_of ws)
AgreeNamed fs c (Err e) (Err f) = e ≡ f
AgreeNamed fs c r s = ⊥

each_weaker : (R S : Val → Val → Type 0) (vs ws : List Val) → ((v w : Val) → R v w → S v w) → EachRelated R vs ws → EachRelated S vs ws
each_weaker R S [] [] f h = tt
each_weaker R S [] (w ∷ ws) f h = absurd h
each_weaker R S (v ∷ vs) [] f h = absurd h
each_weaker R S (v ∷ vs) (w ∷ ws) f h = (f v w h.0, each_weaker R S vs ws f h.1)

one_more : (a b : Shape) (c : Setting) (o p : Outcome) (r s : Result (List Val) EvalError) → Agree a c o p → AgreeAll b c r s → AgreeAll (one_of a b) c (in_prefix (λ v. v) o r) (in_prefix (λ v. v) p s)
one_more a b c (Value v) (Value w) (Ok vs) (Ok ws) h k = (inl h, each_weaker (Rel b c) (Rel (one_of a b) c) vs ws (λ x y r. inr r) k)
one_more a b c (Value v) (Value w) (Ok vs) (Err e) h k = absurd k
one_more a b c (Value v) (Value w) (Err e) (Ok ws) h k = absurd k
one_more a b c (Value v) (Value w) (Err e) (Err f) h k = k
one_more a b c (Value v) (Error e) r s h k = absurd h
one_more a b c (Error e) (Value w) r s h k = absurd h
one_more a b c (Error e) (Error f) r s h k = h

one_more_field : (n : List ℕ) (a : Shape) (fs : FieldShapes) (c : Setting) (o p : Outcome) (r s : Result (List (List ℕ × Val)) EvalError) → Agree a c o p → AgreeNamed fs c r s → AgreeNamed (field_shape n a fs) c (in_prefix (λ v. (n, v)) o r) (in_prefix (λ v. (n, v)) p s)
one_more_field n a fs c (Value v) (Value w) (Ok vs) (Ok ws) h k = (v, w, fields_of vs, fields_of ws, refl, refl, (h, k))
one_more_field n a fs c (Value v) (Value w) (Ok vs) (Err e) h k = absurd k
one_more_field n a fs c (Value v) (Value w) (Err e) (Ok ws) h k = absurd k
one_more_field n a fs c (Value v) (Value w) (Err e) (Err f) h k = k
one_more_field n a fs c (Value v) (Error e) r s h k = absurd h
one_more_field n a fs c (Error e) (Value w) r s h k = absurd h
one_more_field n a fs c (Error e) (Error f) r s h k = h

set_agrees : (a : Shape) (c : Setting) (r s : Result (List Val) EvalError) → AgreeAll a c r s → Agree (set_shape a) c (set_outcome r) (set_outcome s)
set_agrees a c (Ok vs) (Ok ws) h = (vs, ws, refl, refl, h)
set_agrees a c (Ok vs) (Err e) h = absurd h
set_agrees a c (Err e) (Ok ws) h = absurd h
set_agrees a c (Err e) (Err f) h = h

record_agrees : (fs : FieldShapes) (c : Setting) (r s : Result (List (List ℕ × Val)) EvalError) → AgreeNamed fs c r s → Agree (record_shape fs) c (record_outcome r) (record_outcome s)
record_agrees fs c (Ok vs) (Ok ws) h = (fields_of vs, fields_of ws, refl, refl, h)
record_agrees fs c (Ok vs) (Err e) h = absurd h
record_agrees fs c (Err e) (Ok ws) h = absurd h
record_agrees fs c (Err e) (Err f) h = h

call_agrees : (a : Shape) (c : Setting) (f : List ℕ) (r s : Result (List Val) EvalError) → AgreeAll a c r s → Agree no_shape c (call_outcome f r) (call_outcome f s)
call_agrees a c f (Ok vs) (Ok ws) h = called_agrees a c (function_of f) vs ws h
call_agrees a c f (Ok vs) (Err e) h = absurd h
call_agrees a c f (Err e) (Ok ws) h = absurd h
call_agrees a c f (Err e) (Err g) h = h

-- an operand that is used as a boolean
truth_plain : (r : Result Bool EvalError) → IsPlainOutcome (truth_outcome r)
truth_plain (Ok b) = tt
truth_plain (Err e) = tt

used_agrees : (a : Shape) (c : Setting) (o p : Outcome) → Agree a c o p → Agree no_shape c (truth_outcome (truth_of o)) (truth_outcome (truth_of p))
used_agrees a c o p h = agree_equal c (truth_outcome (truth_of o)) (truth_outcome (truth_of p)) (truth_plain (truth_of o)) (ap truth_outcome (truth_same a c o p h))

-- `if`, `&&` and `||`: what is not evaluated need not agree
choose_agrees : (a : Shape) (c : Setting) (r s : Result Bool EvalError) (x y x2 y2 : Outcome) → r ≡ s → (r ≡ Ok true → Agree a c x x2) → (r ≡ Ok false → Agree a c y y2) → Agree a c (choose r x y) (choose s x2 y2)
choose_agrees a c r s x y x2 y2 e f g = subst (λ z. Agree a c (choose r x y) (choose z x2 y2)) e (here r f g)
  where
    here : (r : Result Bool EvalError) → (r ≡ Ok true → Agree a c x x2) → (r ≡ Ok false → Agree a c y y2) → Agree a c (choose r x y) (choose r x2 y2)
    here (Ok true) f g = f refl
    here (Ok false) f g = g refl
    here (Err e) f g = refl

-- literals
literal_agrees : (c : Setting) (l : Literal) → Agree (literal_shape l) c (Value (literal_value l)) (Value (literal_value l))
literal_agrees c (literal.EntityUID u) = root_at c (an_id u)
literal_agrees c (literal.Bool b) = (refl, tt)
literal_agrees c (literal.Long n) = (refl, tt)
literal_agrees c (literal.String t) = (refl, tt)

-- the operators of one operand
unary_agrees : (o : UnaryOp) (a : Shape) (c : Setting) → AllIn c (unary_reads c.schema c.env o a) → (v w : Val) → Rel a c v w → Agree no_shape c (unary_value o v) (unary_value o w)
unary_agrees Not a c h v w r = top_agrees c (unary_value Not) not_top v w (rel_top a c v w r)
unary_agrees Neg a c h v w r = top_agrees c (unary_value Neg) neg_top v w (rel_top a c v w r)
unary_agrees IsEmpty a c h v w r = agree_equal c (unary_value IsEmpty v) (unary_value IsEmpty w) (empty_plain v) (ap (unary_value IsEmpty) (whole_equal a c v w r (whole_of c a h)))

-- operands that are read wholly
wholly_read : (c : Setting) (a b : Shape) → AllIn c (wholly c.schema c.env a ++ wholly c.schema c.env b) → (f : Val → Val → Outcome) → ((v w : Val) → IsPlainOutcome (f v w)) → (v w v2 w2 : Val) → Rel a c v v2 → Rel b c w w2 → Agree no_shape c (f v w) (f v2 w2)
wholly_read c a b h f plain v w v2 w2 r s =
    let in_a : AllIn c (wholly c.schema c.env a) = λ p i. h p (in_left p (wholly c.schema c.env a) (wholly c.schema c.env b) i) in
    let in_b : AllIn c (wholly c.schema c.env b) = λ p i. h p (in_right p (wholly c.schema c.env a) (wholly c.schema c.env b) i) in
    wholly_agrees c f plain v w v2 w2 (whole_equal a c v v2 r (whole_of c a in_a)) (whole_equal b c w w2 s (whole_of c b in_b))

-- the operators of two operands
binary_agrees : (o : BinaryOp) (a b : Shape) (c : Setting) (ds : List Demand) → Kept c ds → Covered c ds (binary_reads c.schema c.env o a b) (binary_demands o a b) → (v w v2 w2 : Val) → Rel a c v v2 → Rel b c w w2 → Agree (binary_shape o a) c (binary_value o v w c.whole) (binary_value o v2 w2 (there c))
binary_agrees Eq a b c ds kept h v w v2 w2 r s = wholly_read c a b h.reads (λ x y. Value (truth (is_eq (val_cmp x y)))) (λ x y. tt) v w v2 w2 r s
binary_agrees Less a b c ds kept h v w v2 w2 r s = tops_agree c _ (compared_top _) v w v2 w2 (rel_top a c v v2 r) (rel_top b c w w2 s)
binary_agrees LessEq a b c ds kept h v w v2 w2 r s = tops_agree c _ (compared_top _) v w v2 w2 (rel_top a c v v2 r) (rel_top b c w w2 s)
binary_agrees Add a b c ds kept h v w v2 w2 r s = tops_agree c _ (calculated_top (λ m n. m +ℤ n)) v w v2 w2 (rel_top a c v v2 r) (rel_top b c w w2 s)
binary_agrees Sub a b c ds kept h v w v2 w2 r s = tops_agree c _ (calculated_top (λ m n. m -ℤ n)) v w v2 w2 (rel_top a c v v2 r) (rel_top b c w w2 s)
binary_agrees Mul a b c ds kept h v w v2 w2 r s = tops_agree c _ (calculated_top (λ m n. m *ℤ n)) v w v2 w2 (rel_top a c v v2 r) (rel_top b c w w2 s)
binary_agrees In a b c ds kept h v w v2 w2 r s =
    let both = wholly c.schema c.env a ++ wholly c.schema c.env b in
    let in_a : AllIn c (wholly c.schema c.env a) = λ p i. h.reads p (in_left p both (paths a) (in_left p (wholly c.schema c.env a) (wholly c.schema c.env b) i)) in
    let in_b : AllIn c (wholly c.schema c.env b) = λ p i. h.reads p (in_left p both (paths a) (in_right p (wholly c.schema c.env a) (wholly c.schema c.env b) i)) in
    in_agrees a b c ds kept v w v2 w2 r s (whole_equal a c v v2 r (whole_of c a in_a)) (whole_equal b c w w2 s (whole_of c b in_b)) record {
      left = λ p i. h.reads p (in_right p both (paths a) i);
      right = deep_of c b in_b;
      asked = λ p r i j. h.demands (p, r) (in_pairs (paths a) (paths b) p r i j);
    }
binary_agrees Contains a b c ds kept h v w v2 w2 r s = wholly_read c a b h.reads contains_value contains_plain v w v2 w2 r s
binary_agrees ContainsAll a b c ds kept h v w v2 w2 r s = wholly_read c a b h.reads contains_all_value contains_all_plain v w v2 w2 r s
binary_agrees ContainsAny a b c ds kept h v w v2 w2 r s = wholly_read c a b h.reads contains_any_value contains_any_plain v w v2 w2 r s
binary_agrees GetTag a b c ds kept h v w v2 w2 r s = tag_agrees a c v v2 w w2 r (rel_top b c w w2 s) (deep_in c (paths (extended a any_tag)) h.reads)
binary_agrees HasTag a b c ds kept h v w v2 w2 r s = has_tag_agrees a c v v2 w w2 r (rel_top b c w w2 s) (deep_in c (paths (extended a any_tag)) h.reads)

-- an expression on the whole store, and on the part that is there
module _ {A B : Type 0} (c : Setting) (ds : List Demand) (kept : Kept c ds) where
  mutual
    pub agrees : (e : Tree A) (t : Tree B) → Prunes c.request c.whole e t → Covered c ds (reads c.schema c.env t) (demands t) → Agree (shape_of t) c (eval e c.request c.whole) (eval e c.request (there c))
    agrees (lit l a) (lit m b) k h = subst (λ m. Agree (literal_shape m) c (Value (literal_value l)) (Value (literal_value l))) k (literal_agrees c l)
    agrees (var v a) (var w b) k h = subst (λ w. Agree (shape_of (var w b)) c (eval (var v a) c.request c.whole) (eval (var v a) c.request (there c))) k (root_at c (variable v))
    agrees (slot i a) (slot j b) k h = refl
    agrees (ite x y z a) (ite x2 y2 z2 b) k h =
        let hx = left_part c ds (reads c.schema c.env x2) (reads c.schema c.env y2 ++ reads c.schema c.env z2) (demands x2) (demands y2 ++ demands z2) h in
        let hr = right_part c ds (reads c.schema c.env x2) (reads c.schema c.env y2 ++ reads c.schema c.env z2) (demands x2) (demands y2 ++ demands z2) h in
        let hy = left_part c ds (reads c.schema c.env y2) (reads c.schema c.env z2) (demands y2) (demands z2) hr in
        let hz = right_part c ds (reads c.schema c.env y2) (reads c.schema c.env z2) (demands y2) (demands z2) hr in
        choose_agrees (one_of (shape_of y2) (shape_of z2)) c (truth_of (eval x c.request c.whole)) (truth_of (eval x c.request (there c))) _ _ _ _
        (truth_same (shape_of x2) c (eval x c.request c.whole) (eval x c.request (there c)) (agrees x x2 k.0 hx))
        (λ e. agree_left (shape_of y2) (shape_of z2) c (eval y c.request c.whole) (eval y c.request (there c)) (agrees y y2 (k.1 e) hy))
        (λ e. agree_right (shape_of y2) (shape_of z2) c (eval z c.request c.whole) (eval z c.request (there c)) (agrees z z2 (k.2 e) hz))
    agrees (conj x y a) (conj x2 y2 b) k h =
        let hx = left_part c ds (reads c.schema c.env x2) (reads c.schema c.env y2) (demands x2) (demands y2) h in
        let hy = right_part c ds (reads c.schema c.env x2) (reads c.schema c.env y2) (demands x2) (demands y2) h in
        choose_agrees no_shape c (truth_of (eval x c.request c.whole)) (truth_of (eval x c.request (there c))) _ _ _ _
        (truth_same (shape_of x2) c (eval x c.request c.whole) (eval x c.request (there c)) (agrees x x2 k.0 hx))
        (λ e. used_agrees (shape_of y2) c (eval y c.request c.whole) (eval y c.request (there c)) (agrees y y2 (k.1 e) hy))
        (λ e. (refl, tt))
    agrees (disj x y a) (disj x2 y2 b) k h =
        let hx = left_part c ds (reads c.schema c.env x2) (reads c.schema c.env y2) (demands x2) (demands y2) h in
        let hy = right_part c ds (reads c.schema c.env x2) (reads c.schema c.env y2) (demands x2) (demands y2) h in
        choose_agrees no_shape c (truth_of (eval x c.request c.whole)) (truth_of (eval x c.request (there c))) _ _ _ _
        (truth_same (shape_of x2) c (eval x c.request c.whole) (eval x c.request (there c)) (agrees x x2 k.0 hx))
        (λ e. (refl, tt))
        (λ e. used_agrees (shape_of y2) c (eval y c.request c.whole) (eval y c.request (there c)) (agrees y y2 (k.1 e) hy))
    agrees (unary o x a) (unary p x2 b) k h =
        let hx = first_reads c ds (reads c.schema c.env x2) (unary_reads c.schema c.env p (shape_of x2)) (demands x2) h in
        rw k.0 (then_agrees (shape_of x2) no_shape c (eval x c.request c.whole) (eval x c.request (there c)) (unary_value p) (unary_value p) (agrees x x2 k.1 hx)
        (λ v w r. unary_agrees p (shape_of x2) c (last_reads c ds (reads c.schema c.env x2) (unary_reads c.schema c.env p (shape_of x2)) (demands x2) h) v w r))
    agrees (binary o x y a) (binary p x2 y2 b) k h =
        let both = left_part c ds (reads c.schema c.env x2 ++ reads c.schema c.env y2) (binary_reads c.schema c.env p (shape_of x2) (shape_of y2)) (demands x2 ++ demands y2) (binary_demands p (shape_of x2) (shape_of y2)) h in
        let own = right_part c ds (reads c.schema c.env x2 ++ reads c.schema c.env y2) (binary_reads c.schema c.env p (shape_of x2) (shape_of y2)) (demands x2 ++ demands y2) (binary_demands p (shape_of x2) (shape_of y2)) h in
        let hx = left_part c ds (reads c.schema c.env x2) (reads c.schema c.env y2) (demands x2) (demands y2) both in
        let hy = right_part c ds (reads c.schema c.env x2) (reads c.schema c.env y2) (demands x2) (demands y2) both in
        let ihy = agrees y y2 k.2 hy in
        rw k.0 (then_agrees (shape_of x2) (binary_shape p (shape_of x2)) c (eval x c.request c.whole) (eval x c.request (there c)) _ _ (agrees x x2 k.1 hx)
        (λ v v2 r. then_agrees (shape_of y2) (binary_shape p (shape_of x2)) c (eval y c.request c.whole) (eval y c.request (there c)) _ _ ihy
        (λ w w2 s. binary_agrees p (shape_of x2) (shape_of y2) c ds kept own v w v2 w2 r s)))
    agrees (attr x n a) (attr x2 m b) k h =
        let rs = with_step (paths (extended (shape_of x2) (along m))) in
        let hx = first_reads c ds (reads c.schema c.env x2) rs (demands x2) h in
        rw k.0 (then_agrees (shape_of x2) (extended (shape_of x2) (along m)) c (eval x c.request c.whole) (eval x c.request (there c)) _ _ (agrees x x2 k.1 hx)
        (λ v w r. attribute_agrees (shape_of x2) c m v w r (deep_in c (paths (extended (shape_of x2) (along m))) (last_reads c ds (reads c.schema c.env x2) rs (demands x2) h))))
    agrees (has x n a) (has x2 m b) k h =
        let rs = with_step (paths (extended (shape_of x2) (along m))) in
        let hx = first_reads c ds (reads c.schema c.env x2) rs (demands x2) h in
        rw k.0 (then_agrees (shape_of x2) no_shape c (eval x c.request c.whole) (eval x c.request (there c)) _ _ (agrees x x2 k.1 hx)
        (λ v w r. has_agrees (shape_of x2) c m v w r (deep_in c (paths (extended (shape_of x2) (along m))) (last_reads c ds (reads c.schema c.env x2) rs (demands x2) h))))
    agrees (like x p a) (like x2 r b) k h =
        then_agrees (shape_of x2) no_shape c (eval x c.request c.whole) (eval x c.request (there c)) _ _ (agrees x x2 k.1 h)
        (λ v w r. top_agrees c (λ v. like_value v p) (like_top p) v w (rel_top (shape_of x2) c v w r))
    agrees (is_type x n a) (is_type x2 m b) k h =
        then_agrees (shape_of x2) no_shape c (eval x c.request c.whole) (eval x c.request (there c)) _ _ (agrees x x2 k.1 h)
        (λ v w r. top_agrees c (λ v. is_value v n) (is_top n) v w (rel_top (shape_of x2) c v w r))
    agrees (call f xs a) (call g ys b) k h = call_agrees (shape_of_all ys) c f (eval_all xs c.request c.whole) (eval_all xs c.request (there c)) (agrees_all xs ys k.1 h)
    agrees (set_tree xs a) (set_tree ys b) k h = set_agrees (shape_of_all ys) c (eval_all xs c.request c.whole) (eval_all xs c.request (there c)) (agrees_all xs ys k h)
    agrees (rec_tree xs a) (rec_tree ys b) k h = record_agrees (shapes_of_named ys) c (eval_named xs c.request c.whole) (eval_named xs c.request (there c)) (agrees_named xs ys k h)
    agrees e t k h = absurd k

    agrees_all : (es : Trees A) (ts : Trees B) → PrunesAll c.request c.whole es ts → Covered c ds (reads_all c.schema c.env ts) (demands_all ts) → AgreeAll (shape_of_all ts) c (eval_all es c.request c.whole) (eval_all es c.request (there c))
    agrees_all no_trees no_trees k h = tt
    agrees_all (tree x xs) (tree y ys) k h =
        one_more (shape_of y) (shape_of_all ys) c (eval x c.request c.whole) (eval x c.request (there c)) (eval_all xs c.request c.whole) (eval_all xs c.request (there c))
        (agrees x y k.0 (left_part c ds (reads c.schema c.env y) (reads_all c.schema c.env ys) (demands y) (demands_all ys) h))
        (agrees_all xs ys k.1 (right_part c ds (reads c.schema c.env y) (reads_all c.schema c.env ys) (demands y) (demands_all ys) h))
    agrees_all no_trees (tree y ys) k h = absurd k
    agrees_all (tree x xs) no_trees k h = absurd k

    agrees_named : (es : Named A) (ts : Named B) → PrunesNamed c.request c.whole es ts → Covered c ds (reads_named c.schema c.env ts) (demands_named ts) → AgreeNamed (shapes_of_named ts) c (eval_named es c.request c.whole) (eval_named es c.request (there c))
    agrees_named no_named no_named k h = (refl, refl)
    agrees_named (named n x xs) (named m y ys) k h =
        rw k.0 (one_more_field m (shape_of y) (shapes_of_named ys) c (eval x c.request c.whole) (eval x c.request (there c)) (eval_named xs c.request c.whole) (eval_named xs c.request (there c))
        (agrees x y k.1 (left_part c ds (reads c.schema c.env y) (reads_named c.schema c.env ys) (demands y) (demands_named ys) h))
        (agrees_named xs ys k.2 (right_part c ds (reads c.schema c.env y) (reads_named c.schema c.env ys) (demands y) (demands_named ys) h)))
    agrees_named no_named (named m y ys) k h = absurd k
    agrees_named (named n x xs) no_named k h = absurd k
