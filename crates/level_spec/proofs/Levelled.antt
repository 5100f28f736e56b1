-- An expression with a level gives only ids that are reached in so many steps.
use Rattle.std.proofs.Common.{◌≡◌, ℕ, zero, suc, max, nat_lt, Bool, true, false, List, [], ◌∷◌, Option, Some, None, refl, sym, ◌∙◌, subst, cond, arith}
use Rattle.std.specs.Prelude.{Result, Ok, Err, IfSome}
use Rattle.std.specs.List.{AllByRecursion}
use Rattle.std.specs.Option.{option_map}
use Rattle.std.specs.Ordering.{is_eq}
use Rattle.std.proofs.Math.Numerals.{suc-eq-add-one}
use Rattle.policy_values.specs.declared.entity_uid.EntityUID.{EntityUID}
use Rattle.policy_values.specs.Uid.{text_cmp, uid_eq}
use Rattle.policy_values.specs.Value.{Val, string, entity, rec, field_at}
use Rattle.entity_store.specs.declared.request.Request.{Request}
use Rattle.entity_store.specs.Request.{principal_of, action_of, resource_of}
use Rattle.entity_store.specs.Store.{StoredEntity, Store, entity_at}
use Rattle.policy_expressions.specs.declared.kinds.Literal.{Literal}
use Rattle.policy_expressions.specs.declared.kinds.Literal.TheVariants as literal
use Rattle.policy_expressions.specs.declared.kinds.Var.{Var}
use Rattle.policy_expressions.specs.declared.kinds.Var.TheVariants.{Principal, Action, Resource, Context}
use Rattle.policy_expressions.specs.declared.kinds.BinaryOp.{BinaryOp}
use Rattle.policy_expressions.specs.declared.kinds.BinaryOp.TheVariants.{GetTag}
use Rattle.policy_core.specs.declared.outcome.EvalError.{EvalError}
use Rattle.policy_core.specs.declared.outcome.EvalError.TheVariants.{MissingAttribute, MissingTag}
use Rattle.policy_core.specs.declared.outcome.Outcome.{Outcome}
use Rattle.policy_core.specs.declared.outcome.Outcome.TheVariants.{Value, Error}
use Rattle.policy_core.specs.Operators.{found_or, attr_of, attr_value, tag_of, get_tag_value, binary_value}
use Rattle.policy_core.specs.Eval.{literal_value, variable_value, truth_of, choose, with_value, in_prefix, record_outcome, eval, eval_named, known_fields}
use Rattle.policy_expressions.specs.Tree.{Tree, lit, var, slot, ite, conj, disj, unary, binary, attr, has, like, is_type, call, set as set_tree, rec as rec_tree, Named, no_named, named, Mark}
use Rattle.schema_types.specs.Ty.{Ty}
use Rattle.typing_spec.specs.Typing.{Typed}
use Rattle.level_spec.specs.Cut.{ids_in, ids_in_fields, ids_held, is_among, reach}
use Rattle.level_spec.specs.Levels.{is_reached, gives_entity, greater, if_level, one_more, binary_level, literal_level, level, level_under}
use Rattle.level_spec.proofs.Reached.{same_uid, Within, AllAmong, first_among, last_among, more_among, asked_reached, reach_grows, held_reached, Held, field_among, all_held, more_held}
use Rattle.level_spec.proofs.Fits.{IsNoId, Fits, FitNamed}

-- so are the ids of an outcome
abbrev pub HeldBy : List EntityUID → List (List ℕ) → Outcome → Type 0
HeldBy us ns (Value v) = Held us ns v
HeldBy us ns (Error e) = Unit {0}

-- where there is a level, the ids of the outcome are reached in so many steps
abbrev pub Levelled : Request → Store → Option ℕ → List (List ℕ) → Outcome → Type 0
Levelled q s o ns x = IfSome o (λ k. HeldBy (reach k q s) ns x)

more_held_by : (us ws : List EntityUID) → Within us ws → (ns : List (List ℕ)) (o : Outcome) → HeldBy us ns o → HeldBy ws ns o
more_held_by us ws f ns (Value v) h = more_held us ws f ns v h
more_held_by us ws f ns (Error e) h = tt

left_level : (j k : ℕ) → nat_lt j (suc (max j k)) ≡ true
left_level j k = search (arith)

right_level : (j k : ℕ) → nat_lt k (suc (max j k)) ≡ true
right_level j k = search (arith)

module _ (q : Request) (s : Store) where
  -- the greater of two levels is one of both
  greater_left : (j k : Option ℕ) (ns : List (List ℕ)) (x : Outcome) → Levelled q s j ns x → Levelled q s (greater j k) ns x
  greater_left None k ns x h = tt
  greater_left (Some j) None ns x h = tt
  greater_left (Some j) (Some k) ns x h = more_held_by (reach j q s) (reach (max j k) q s) (reach_grows q s j (max j k) (left_level j k)) ns x h

  greater_right : (j k : Option ℕ) (ns : List (List ℕ)) (x : Outcome) → Levelled q s k ns x → Levelled q s (greater j k) ns x
  greater_right None k ns x h = tt
  greater_right (Some j) None ns x h = tt
  greater_right (Some j) (Some k) ns x h = more_held_by (reach k q s) (reach (max j k) q s) (reach_grows q s k (max j k) (right_level j k)) ns x h

  -- `if`: the branch that is evaluated is reached
  if_left : (b c : Bool) (j k : Option ℕ) (ns : List (List ℕ)) (x : Outcome) → b ≡ true → Levelled q s j ns x → Levelled q s (if_level b c j k) ns x
  if_left true true j k ns x e h = greater_left j k ns x h
  if_left true false j k ns x e h = h
  if_left false c j k ns x e h = absurd (cc)

  if_right : (b c : Bool) (j k : Option ℕ) (ns : List (List ℕ)) (x : Outcome) → c ≡ true → Levelled q s k ns x → Levelled q s (if_level b c j k) ns x
  if_right true true j k ns x e h = greater_right j k ns x h
  if_right false true j k ns x e h = h
  if_right b false j k ns x e h = absurd (cc)

  error_levelled : (j : Option ℕ) (ns : List (List ℕ)) (e : EvalError) → Levelled q s j ns (Error e)
  error_levelled None ns e = tt
  error_levelled (Some j) ns e = tt

  choose_levelled : (o : Option ℕ) (ns : List (List ℕ)) (r : Result Bool EvalError) (x y : Outcome) → (r ≡ Ok true → Levelled q s o ns x) → (r ≡ Ok false → Levelled q s o ns y) → Levelled q s o ns (choose r x y)
  choose_levelled o ns (Ok true) x y f g = f refl
  choose_levelled o ns (Ok false) x y f g = g refl
  choose_levelled o ns (Err e) x y f g = error_levelled o ns e

  -- what is found in what is reached is reached with it
  found_held : (us : List EntityUID) (ns : List (List ℕ)) (e : EvalError) (o : Option Val) → IfSome o (λ w. AllAmong us (ids_in w)) → HeldBy us ns (found_or e o)
  found_held us ns e None h = tt
  found_held us ns e (Some w) h = all_held us ns w h

  -- `.` of an id, one step further
  attr_step : (k : ℕ) (ns : List (List ℕ)) (u : EntityUID) (n : List ℕ) → is_among (reach k q s) u ≡ true → HeldBy (reach (suc k) q s) ns (attr_of u (entity_at s u) n)
  attr_step k ns u n h = here (entity_at s u) (held_reached q s k u h)
    where
      here : (o : Option StoredEntity) → IfSome o (λ e. AllAmong (reach (suc k) q s) (ids_held e)) → HeldBy (reach (suc k) q s) ns (attr_of u o n)
      here None i = tt
      here (Some e) i = found_held (reach (suc k) q s) ns MissingAttribute (field_at e.attrs n) (field_among (reach (suc k) q s) e.attrs n (first_among (reach (suc k) q s) (ids_in_fields e.attrs) (ids_in_fields e.tags) i))

  -- so is a field of a record, whatever the record is
  attr_whole : (k : ℕ) (ns : List (List ℕ)) (n : List ℕ) (o : Outcome) → HeldBy (reach k q s) [] o → HeldBy (reach (suc k) q s) ns (with_value o (λ v. attr_value v n s))
  attr_whole k ns n (Value (entity u)) h = attr_step k ns u n h.0
  attr_whole k ns n (Value (rec fs)) h =
      let all : AllAmong (reach (suc k) q s) (ids_in_fields fs) = more_among (reach k q s) (reach (suc k) q s) (ids_in_fields fs) (reach_grows q s k (suc k) (search (arith))) h in
      found_held (reach (suc k) q s) ns MissingAttribute (field_at fs n) (field_among (reach (suc k) q s) fs n all)
  attr_whole k ns n (Value v) h = tt
  attr_whole k ns n (Error e) h = tt

  attr_entity : (o : Option ℕ) (ns : List (List ℕ)) (n : List ℕ) (x : Outcome) → Levelled q s o [] x → Levelled q s (one_more o) ns (with_value x (λ v. attr_value v n s))
  attr_entity None ns n x h = tt
  attr_entity (Some k) ns n x h = subst (λ j. HeldBy (reach j q s) ns (with_value x (λ v. attr_value v n s))) (suc-eq-add-one k) (attr_whole k ns n x h)

  -- `.` of a record, with one pending field fewer
  pending : (us : List EntityUID) (ns : List (List ℕ)) (o : Option Val) → IfSome o (λ w. Held us ns w) → HeldBy us ns (found_or MissingAttribute o)
  pending us ns None h = tt
  pending us ns (Some w) h = h

  attr_field : (us : List EntityUID) (ns : List (List ℕ)) (n : List ℕ) (x : Outcome) → IsNoId x → HeldBy us (n ∷ ns) x → HeldBy us ns (with_value x (λ v. attr_value v n s))
  attr_field us ns n (Value (entity u)) i h = absurd i
  attr_field us ns n (Value (rec fs)) i h = pending us ns (field_at fs n) h
  attr_field us ns n (Value v) i h = tt
  attr_field us ns n (Error e) i h = tt

  attr_record : (o : Option ℕ) (ns : List (List ℕ)) (n : List ℕ) (x : Outcome) → IsNoId x → Levelled q s o (n ∷ ns) x → Levelled q s o ns (with_value x (λ v. attr_value v n s))
  attr_record None ns n x i h = tt
  attr_record (Some k) ns n x i h = attr_field (reach k q s) ns n x i h

  attr_levelled : (b : Bool) (j k : Option ℕ) (ns : List (List ℕ)) (n : List ℕ) (x : Outcome) → (b ≡ false → IsNoId x) → Levelled q s j [] x → Levelled q s k (n ∷ ns) x → Levelled q s (cond b (one_more j) k) ns (with_value x (λ v. attr_value v n s))
  attr_levelled true j k ns n x i h l = attr_entity j ns n x h
  attr_levelled false j k ns n x i h l = attr_record k ns n x (i refl) l

  -- `getTag`, one step further
  tag_step : (k : ℕ) (ns : List (List ℕ)) (u : EntityUID) (n : List ℕ) → is_among (reach k q s) u ≡ true → HeldBy (reach (suc k) q s) ns (tag_of u (entity_at s u) n)
  tag_step k ns u n h = here (entity_at s u) (held_reached q s k u h)
    where
      here : (o : Option StoredEntity) → IfSome o (λ e. AllAmong (reach (suc k) q s) (ids_held e)) → HeldBy (reach (suc k) q s) ns (tag_of u o n)
      here None i = tt
      here (Some e) i = found_held (reach (suc k) q s) ns MissingTag (field_at e.tags n) (field_among (reach (suc k) q s) e.tags n (last_among (reach (suc k) q s) (ids_in_fields e.attrs) (ids_in_fields e.tags) i))

  tag_value : (k : ℕ) (ns : List (List ℕ)) (v w : Val) → Held (reach k q s) [] v → HeldBy (reach (suc k) q s) ns (get_tag_value v w s)
  tag_value k ns (entity u) (string n) h = tag_step k ns u n h.0
  tag_value k ns v w h = tt

  tag_outcome : (k : ℕ) (ns : List (List ℕ)) (x y : Outcome) → HeldBy (reach k q s) [] x → HeldBy (reach (suc k) q s) ns (with_value x (λ v. with_value y (λ w. get_tag_value v w s)))
  tag_outcome k ns (Value v) (Value w) h = tag_value k ns v w h
  tag_outcome k ns (Value v) (Error e) h = tt
  tag_outcome k ns (Error e) y h = tt

  tag_levelled : (o : Option ℕ) (ns : List (List ℕ)) (x y : Outcome) → Levelled q s o [] x → Levelled q s (one_more o) ns (with_value x (λ v. with_value y (λ w. get_tag_value v w s)))
  tag_levelled None ns x y h = tt
  tag_levelled (Some k) ns x y h = subst (λ j. HeldBy (reach j q s) ns (with_value x (λ v. with_value y (λ w. get_tag_value v w s)))) (suc-eq-add-one k) (tag_outcome k ns x y h)

  binary_levelled : (p : BinaryOp) (o : Option ℕ) (ns : List (List ℕ)) (x y : Outcome) → Levelled q s o [] x → Levelled q s (binary_level p o) ns (with_value x (λ v. with_value y (λ w. binary_value p v w s)))
  binary_levelled GetTag o ns x y h = tag_levelled o ns x y h
  binary_levelled p o ns x y h = tt

  -- a record literal: what stands under the first pending field
  one_field : (o : Option ℕ) (ns : List (List ℕ)) (b : Bool) (k : List ℕ) (n : List ℕ) (j l : Option ℕ) (x : Outcome) (r : Result (List (List ℕ × Val)) EvalError) → is_eq (text_cmp n k) ≡ b → Levelled q s j ns x → Levelled q s l (n ∷ ns) (record_outcome r) → Levelled q s (cond b j l) (n ∷ ns) (record_outcome (in_prefix (λ v. (k, v)) x r))
  one_field o ns true k n None l x r e h i = tt
  one_field o ns true k n (Some j) l (Error f) r e h i = tt
  one_field o ns true k n (Some j) l (Value v) (Err f) e h i = tt
  one_field o ns true k n (Some j) l (Value v) (Ok fs) e h i = rw e h
  one_field o ns false k n j None x r e h i = tt
  one_field o ns false k n j (Some l) (Error f) r e h i = tt
  one_field o ns false k n j (Some l) (Value v) (Err f) e h i = tt
  one_field o ns false k n j (Some l) (Value v) (Ok fs) e h i = rw e i

  module _ (g : Option EntityUID) (of : (a : EntityUID) → g ≡ Some a → a ≡ action_of q) where
    literal_levelled : (l : Literal) (ns : List (List ℕ)) → Levelled q s (literal_level g l) ns (Value (literal_value l))
    literal_levelled (literal.EntityUID u) ns = here g of
      where
        by_test : (a : EntityUID) → a ≡ action_of q → (b : Bool) → uid_eq u a ≡ b → Levelled q s (cond b (Some 0) None) ns (Value (entity u))
        by_test a e true i = all_held (reach zero q s) ns (entity u) ((subst (λ w. is_among (reach zero q s) w ≡ true) (sym (same_uid u a i ∙ e)) (asked_reached q s).1.0, tt))
        by_test a e false i = tt

        here : (o : Option EntityUID) → ((a : EntityUID) → o ≡ Some a → a ≡ action_of q) → Levelled q s (Rattle.std.specs.Option.option_and_then (λ a. cond (uid_eq u a) (Some 0) None) o) ns (Value (entity u))
        here None f = tt
        here (Some a) f = by_test a (f a refl) (uid_eq u a) refl
    literal_levelled (literal.Bool b) ns = tt
    literal_levelled (literal.Long n) ns = tt
    literal_levelled (literal.String t) ns = tt

    variable_levelled : (v : Var) (ns : List (List ℕ)) → HeldBy (reach zero q s) ns (Value (variable_value v q))
    variable_levelled Principal ns = all_held (reach zero q s) ns (entity (principal_of q)) ((asked_reached q s).0, tt)
    variable_levelled Action ns = all_held (reach zero q s) ns (entity (action_of q)) ((asked_reached q s).1.0, tt)
    variable_levelled Resource ns = all_held (reach zero q s) ns (entity (resource_of q)) ((asked_reached q s).1.1.0, tt)
    variable_levelled Context ns = all_held (reach zero q s) ns (rec (known_fields q.context)) (asked_reached q s).1.1.1

    module _ {A : Type 0} where
      mutual
        pub levelled : (e : Tree A) (t : Typed) (ns : List (List ℕ)) → Fits q s e t → Levelled q s (level g t ns) ns (eval e q s)
        levelled (lit l a) (lit m b) ns f = subst (λ m. Levelled q s (literal_level g m) ns (Value (literal_value l))) f (literal_levelled l ns)
        levelled (var v a) (var w b) ns f = variable_levelled v ns
        levelled (slot i a) (slot j b) ns f = tt
        levelled (ite x y z a) (ite x2 y2 z2 b) ns f =
            choose_levelled (if_level (is_reached y2) (is_reached z2) (level g y2 ns) (level g z2 ns)) ns (truth_of (eval x q s)) (eval y q s) (eval z q s)
            (λ e. if_left (is_reached y2) (is_reached z2) (level g y2 ns) (level g z2 ns) ns (eval y q s) (f.1 e).0 (levelled y y2 ns (f.1 e).1))
            (λ e. if_right (is_reached y2) (is_reached z2) (level g y2 ns) (level g z2 ns) ns (eval z q s) (f.2 e).0 (levelled z z2 ns (f.2 e).1))
        levelled (conj x y a) (conj x2 y2 b) ns f = tt
        levelled (disj x y a) (disj x2 y2 b) ns f = tt
        levelled (unary o x a) (unary p x2 b) ns f = tt
        levelled (binary o x y a) (binary p x2 y2 b) ns f = rw f.0 (binary_levelled p (level g x2 []) ns (eval x q s) (eval y q s) (levelled x x2 [] f.1))
        levelled (attr x n a) (attr x2 m b) ns f = rw f.0 (attr_levelled (gives_entity x2) (level g x2 []) (level g x2 (m ∷ ns)) ns m (eval x q s) f.2 (levelled x x2 [] f.1) (levelled x x2 (m ∷ ns) f.1))
        levelled (has x n a) (has x2 m b) ns f = tt
        levelled (like x p a) (like x2 r b) ns f = tt
        levelled (is_type x n a) (is_type x2 m b) ns f = tt
        levelled (call h xs a) (call k ys b) ns f = tt
        levelled (set_tree xs a) (set_tree ys b) ns f = tt
        levelled (rec_tree xs a) (rec_tree ys b) ns f = named_levelled xs ys ns f
        levelled e t ns f = absurd f

        named_levelled : (xs : Named A) (ys : Named (Mark (Option Ty))) (ns : List (List ℕ)) → FitNamed q s xs ys → Levelled q s (level_under g ys ns) ns (record_outcome (eval_named xs q s))
        named_levelled no_named no_named ns f = tt
        named_levelled (named k x xs) (named l y ys) [] f = tt
        named_levelled (named k x xs) (named l y ys) (n ∷ ns) f =
            rw f.0 (one_field None ns (is_eq (text_cmp n l)) l n (level g y ns) (level_under g ys (n ∷ ns)) (eval x q s) (eval_named xs q s) refl (levelled x y ns f.1) (named_levelled xs ys (n ∷ ns) f.2))
        named_levelled no_named (named l y ys) ns f = absurd f
        named_levelled (named k x xs) no_named ns f = absurd f
