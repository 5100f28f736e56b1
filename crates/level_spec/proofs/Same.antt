-- What passes at a level has the same outcome on the store cut there.
use Rattle.std.proofs.Common.{◌≡◌, ℕ, Bool, true, false, ◌&&◌, ◌||◌, List, [], ◌++◌, Option, Some, None, refl, sym, ap, ◌∙◌}
use Rattle.std.specs.Prelude.{Result, Ok, Err}
use Rattle.std.specs.List.{list_all}
use Rattle.std.proofs.lemmas.List.Folds.{list_all-append}
use Rattle.policy_values.specs.declared.entity_uid.EntityUID.{EntityUID}
use Rattle.policy_values.specs.Value.{Val, truth, string, entity, set, Vals, no_vals, val}
use Rattle.entity_store.specs.declared.request.Request.{Request}
use Rattle.entity_store.specs.Request.{action_of}
use Rattle.entity_store.specs.Store.{Store, entity_at}
use Rattle.policy_expressions.specs.declared.kinds.BinaryOp.{BinaryOp}
use Rattle.policy_expressions.specs.declared.kinds.BinaryOp.TheVariants.{In, GetTag, HasTag}
use Rattle.policy_core.specs.declared.outcome.EvalError.{EvalError}
use Rattle.policy_core.specs.declared.outcome.Outcome.{Outcome}
use Rattle.policy_core.specs.declared.outcome.Outcome.TheVariants.{Value, Error}
use Rattle.policy_core.specs.Calls.{call_outcome}
use Rattle.policy_values.specs.Uid.{uid_eq}
use Rattle.policy_core.specs.Operators.{above, or_within, within, within_any, in_value, attr_of, attr_value, has_of, has_value, tag_of, get_tag_value, has_tag_of, has_tag_value, unary_value, binary_value, like_value, is_value}
use Rattle.policy_core.specs.Eval.{truth_of, truth_outcome, choose, with_value, in_prefix, set_outcome, record_outcome, eval, eval_all, eval_named}
use Rattle.policy_expressions.specs.Tree.{Tree, lit, var, slot, ite, conj, disj, unary, binary, attr, has, like, is_type, call, set as set_tree, rec as rec_tree, Trees, no_trees, tree, Named, no_named, named, Mark}
use Rattle.schema_types.specs.Ty.{Ty}
use Rattle.typing_spec.specs.Typing.{Typed}
use Rattle.level_spec.specs.Cut.{cut}
use Rattle.level_spec.specs.Levels.{gives_entity, asks_store, level_if, is_below, level, dereferences, dereferences_all, dereferences_named, passes}
use Rattle.level_spec.proofs.Reached.{found_cut}
use Rattle.level_spec.proofs.Fits.{IsNoId, Fits, FitAll, FitNamed}
use Rattle.level_spec.proofs.Levelled.{Levelled, levelled}
use Rattle.plain_lemmas.proofs.Booleans.{and_parts_of}

pub both_below : (n : ℕ) (os ps : List (Option ℕ)) → list_all (is_below n) (os ++ ps) ≡ true → (list_all (is_below n) os ≡ true) × (list_all (is_below n) ps ≡ true)
both_below n os ps h = and_parts_of (list_all (is_below n) os) (list_all (is_below n) ps) (sym (list_all-append (is_below n) os ps) ∙ h)

-- a left operand that is dereferenced
own_below : (n : ℕ) (b : Bool) (o : Option ℕ) → list_all (is_below n) (level_if b o) ≡ true → b ≡ true → is_below n o ≡ true
own_below n true o h e = (and_parts_of (is_below n o) true h).0
own_below n false o h e = absurd (cc)

choose_same : (r r2 : Result Bool EvalError) (x y x2 y2 : Outcome) → r2 ≡ r → (r ≡ Ok true → x2 ≡ x) → (r ≡ Ok false → y2 ≡ y) → choose r2 x2 y2 ≡ choose r x y
choose_same r r2 x y x2 y2 e f g = ap (λ r. choose r x2 y2) e ∙ here r f g
  where
    here : (r : Result Bool EvalError) → (r ≡ Ok true → x2 ≡ x) → (r ≡ Ok false → y2 ≡ y) → choose r x2 y2 ≡ choose r x y
    here (Ok true) f g = f refl
    here (Ok false) f g = g refl
    here (Err e) f g = refl

module _ (q : Request) (s : Store) (n : ℕ) where
  abbrev there : Store
  there = cut n q s

  -- an id is looked up on the cut store as on the whole one
  abbrev IsSameAt : Outcome → Type 0
  IsSameAt (Value (entity u)) = entity_at there u ≡ entity_at s u
  IsSameAt o = Unit {0}

  no_id_same : (x : Outcome) → IsNoId x → IsSameAt x
  no_id_same (Value (entity u)) i = absurd i
  no_id_same (Value v) i = tt
  no_id_same (Error e) i = tt

  below_same : (o : Option ℕ) (x : Outcome) → is_below n o ≡ true → Levelled q s o [] x → IsSameAt x
  below_same None x h l = absurd (cc)
  below_same (Some k) (Value (entity u)) h l = found_cut q s n k u h l.0
  below_same (Some k) (Value v) h l = tt
  below_same (Some k) (Error e) h l = tt

  access_same : (b : Bool) (o : Option ℕ) (x : Outcome) → (b ≡ true → is_below n o ≡ true) → (b ≡ false → IsNoId x) → Levelled q s o [] x → IsSameAt x
  access_same true o x h i l = below_same o x (h refl) l
  access_same false o x h i l = no_id_same x (i refl)

  -- `.` and `has`
  attr_same : (k : List ℕ) (x : Outcome) → IsSameAt x → with_value x (λ v. attr_value v k there) ≡ with_value x (λ v. attr_value v k s)
  attr_same k (Value (entity u)) h = ap (λ o. attr_of u o k) h
  attr_same k (Value v) h = refl
  attr_same k (Error e) h = refl

  has_same : (k : List ℕ) (x : Outcome) → IsSameAt x → with_value x (λ v. has_value v k there) ≡ with_value x (λ v. has_value v k s)
  has_same k (Value (entity u)) h = ap (λ o. Value (truth (has_of o k))) h
  has_same k (Value v) h = refl
  has_same k (Error e) h = refl

  -- `in`
  within_same : (u w : EntityUID) → entity_at there u ≡ entity_at s u → within u w there ≡ within u w s
  within_same u w h = ap (λ o. uid_eq u w || above o w) h

  any_same : (u : EntityUID) → entity_at there u ≡ entity_at s u → (ws : Vals) → within_any u ws there ≡ within_any u ws s
  any_same u h no_vals = refl
  any_same u h (val (entity w) ws) = (λ i. or_within (within_same u w h i) (any_same u h ws i))
  any_same u h (val v ws) = refl

  in_same : (v w : Val) → IsSameAt (Value v) → in_value v w there ≡ in_value v w s
  in_same (entity u) (entity w) h = ap (λ b. Value (truth b)) (within_same u w h)
  in_same (entity u) (set ws) h = any_same u h ws
  in_same v w h = refl

  -- tags
  get_same : (v w : Val) → IsSameAt (Value v) → get_tag_value v w there ≡ get_tag_value v w s
  get_same (entity u) (string k) h = ap (λ o. tag_of u o k) h
  get_same v w h = refl

  has_tag_same : (v w : Val) → IsSameAt (Value v) → has_tag_value v w there ≡ has_tag_value v w s
  has_tag_same (entity u) (string k) h = ap (λ o. Value (truth (has_tag_of o k))) h
  has_tag_same v w h = refl

  value_same : (p : BinaryOp) (v w : Val) → (asks_store p ≡ true → IsSameAt (Value v)) → binary_value p v w there ≡ binary_value p v w s
  value_same In v w h = in_same v w (h refl)
  value_same GetTag v w h = get_same v w (h refl)
  value_same HasTag v w h = has_tag_same v w (h refl)
  value_same p v w h = refl

  binary_same : (p : BinaryOp) (x y : Outcome) → (asks_store p ≡ true → IsSameAt x) → with_value x (λ v. with_value y (λ w. binary_value p v w there)) ≡ with_value x (λ v. with_value y (λ w. binary_value p v w s))
  binary_same p (Value v) (Value w) h = value_same p v w h
  binary_same p (Value v) (Error e) h = refl
  binary_same p (Error e) y h = refl

  module _ (g : Option EntityUID) (of : (a : EntityUID) → g ≡ Some a → a ≡ action_of q) {A : Type 0} where
    mutual
      pub same : (e : Tree A) (t : Typed) → Fits q s e t → passes g n t ≡ true → eval e q there ≡ eval e q s
      same (lit l a) (lit m b) f p = refl
      same (var v a) (var w b) f p = refl
      same (slot i a) (slot j b) f p = refl
      same (ite x y z a) (ite x2 y2 z2 b) f p =
          let r = both_below n (dereferences g x2) (dereferences g y2 ++ dereferences g z2) p in
          let t = both_below n (dereferences g y2) (dereferences g z2) r.1 in
          choose_same (truth_of (eval x q s)) (truth_of (eval x q there)) (eval y q s) (eval z q s) (eval y q there) (eval z q there) (ap truth_of (same x x2 f.0 r.0))
          (λ e. same y y2 (f.1 e).1 t.0) (λ e. same z z2 (f.2 e).1 t.1)
      same (conj x y a) (conj x2 y2 b) f p =
          let r = both_below n (dereferences g x2) (dereferences g y2) p in
          choose_same (truth_of (eval x q s)) (truth_of (eval x q there)) (truth_outcome (truth_of (eval y q s))) (Value (truth false)) (truth_outcome (truth_of (eval y q there))) (Value (truth false)) (ap truth_of (same x x2 f.0 r.0))
          (λ e. ap (λ o. truth_outcome (truth_of o)) (same y y2 (f.1 e) r.1)) (λ e. refl)
      same (disj x y a) (disj x2 y2 b) f p =
          let r = both_below n (dereferences g x2) (dereferences g y2) p in
          choose_same (truth_of (eval x q s)) (truth_of (eval x q there)) (Value (truth true)) (truth_outcome (truth_of (eval y q s))) (Value (truth true)) (truth_outcome (truth_of (eval y q there))) (ap truth_of (same x x2 f.0 r.0))
          (λ e. refl) (λ e. ap (λ o. truth_outcome (truth_of o)) (same y y2 (f.1 e) r.1))
      same (unary o x a) (unary o2 x2 b) f p = ap (λ r. with_value r (unary_value o)) (same x x2 f.1 p)
      same (binary o x y a) (binary o2 x2 y2 b) f p =
          let r = both_below n (level_if (asks_store o2) (level g x2 [])) (dereferences g x2 ++ dereferences g y2) p in
          let t = both_below n (dereferences g x2) (dereferences g y2) r.1 in
          (λ i. with_value (same x x2 f.1 t.0 i) (λ v. with_value (same y y2 f.2 t.1 i) (λ w. binary_value o v w there)))
          ∙ binary_same o (eval x q s) (eval y q s) (λ e. below_same (level g x2 []) (eval x q s) (own_below n (asks_store o2) (level g x2 []) r.0 (ap asks_store (sym f.0) ∙ e)) (levelled q s g of x x2 [] f.1))
      same (attr x k a) (attr x2 m b) f p =
          let r = both_below n (level_if (gives_entity x2) (level g x2 [])) (dereferences g x2) p in
          ap (λ o. with_value o (λ v. attr_value v k there)) (same x x2 f.1 r.1)
          ∙ attr_same k (eval x q s) (access_same (gives_entity x2) (level g x2 []) (eval x q s) (own_below n (gives_entity x2) (level g x2 []) r.0) f.2 (levelled q s g of x x2 [] f.1))
      same (has x k a) (has x2 m b) f p =
          let r = both_below n (level_if (gives_entity x2) (level g x2 [])) (dereferences g x2) p in
          ap (λ o. with_value o (λ v. has_value v k there)) (same x x2 f.1 r.1)
          ∙ has_same k (eval x q s) (access_same (gives_entity x2) (level g x2 []) (eval x q s) (own_below n (gives_entity x2) (level g x2 []) r.0) f.2 (levelled q s g of x x2 [] f.1))
      same (like x k a) (like x2 m b) f p = ap (λ r. with_value r (λ v. like_value v k)) (same x x2 f.1 p)
      same (is_type x k a) (is_type x2 m b) f p = ap (λ r. with_value r (λ v. is_value v k)) (same x x2 f.1 p)
      same (call h xs a) (call k ys b) f p = ap (call_outcome h) (same_all xs ys f.1 p)
      same (set_tree xs a) (set_tree ys b) f p = ap set_outcome (same_all xs ys f p)
      same (rec_tree xs a) (rec_tree ys b) f p = ap record_outcome (same_named xs ys f p)
      same e t f p = absurd f

      same_all : (xs : Trees A) (ys : Trees (Mark (Option Ty))) → FitAll q s xs ys → list_all (is_below n) (dereferences_all g ys) ≡ true → eval_all xs q there ≡ eval_all xs q s
      same_all no_trees no_trees f p = refl
      same_all (tree x xs) (tree y ys) f p =
          let r = both_below n (dereferences g y) (dereferences_all g ys) p in
          (λ i. in_prefix (λ v. v) (same x y f.0 r.0 i) (same_all xs ys f.1 r.1 i))
      same_all no_trees (tree y ys) f p = absurd f
      same_all (tree x xs) no_trees f p = absurd f

      same_named : (xs : Named A) (ys : Named (Mark (Option Ty))) → FitNamed q s xs ys → list_all (is_below n) (dereferences_named g ys) ≡ true → eval_named xs q there ≡ eval_named xs q s
      same_named no_named no_named f p = refl
      same_named (named k x xs) (named l y ys) f p =
          let r = both_below n (dereferences g y) (dereferences_named g ys) p in
          (λ i. in_prefix (λ v. (k, v)) (same x y f.1 r.0 i) (same_named xs ys f.2 r.1 i))
      same_named no_named (named l y ys) f p = absurd f
      same_named (named k x xs) no_named f p = absurd f
