-- What is found of an operator itself is so.
use Rattle.std.proofs.Common.{◌≡◌, ◌∙◌, sym, ap, subst, true≢false, ℕ, Bool, true, false, ◌||◌, List, [], ◌∷◌, ◌++◌, Option, Some, None, is_some, IsSomeAnd, Result, Ok, Err, refl, Contains, if◌then◌else◌}
use Rattle.std.specs.Option.{option_map_or}
use Rattle.schema_types.specs.declared.kinds.LubHelp.{LubHelp}
use Rattle.schema_types.specs.declared.ty.AttributeType.{AttributeType}
use Rattle.schema_types.specs.Ty.{Ty, set_of}
use Rattle.schema_core.specs.Schema.{SchemaData}
use Rattle.schema_core.specs.EnvData.{EnvData}
use Rattle.type_relations.specs.declared.mode.SubtypeMode.TheVariants.{Strict}
use Rattle.type_relations.specs.Join.{join, join_rest, join_all}
use Rattle.policy_expressions.specs.declared.kinds.BinaryOp.{BinaryOp}
use Rattle.policy_expressions.specs.declared.kinds.BinaryOp.TheVariants.{Eq, Less, LessEq, Add, Sub, Mul, In, Contains as ContainsOp, ContainsAll, ContainsAny, GetTag, HasTag}
use Rattle.policy_expressions.specs.declared.functions.ExtensionFunction.{ExtensionFunction}
use Rattle.policy_expressions.specs.Functions.{function_of}
use Rattle.policy_expressions.specs.Tree.{attr, binary, call, set, Trees, no_trees, Mark}
use Rattle.policy_expressions.specs.Plain.{Plain}
use Rattle.typing_spec.specs.Signatures.{long_type, datetime_type, duration_type, same_type, only_text, is_readable, has_count, has_literals, has_readable}
use Rattle.typing_spec.specs.Rules.{order_type, attribute_of, safe_type, tag_type}
use Rattle.findings.specs.declared.helps.LubContext.{LubContext}
use Rattle.findings.specs.declared.helps.LubContext.TheVariants as context
use Rattle.findings.specs.declared.access.AttributeAccess.{AttributeAccess}
use Rattle.findings.specs.Finding.{Finding, Kind, UnexpectedType}
use Rattle.typecheck_rules.specs.Own.{of_both, incompatible, no_join, contains_found, is_comparable, wrong, order_wrong, tag_found, binary_found, attribute_found, set_found, text_found, call_found}
use Rattle.typecheck_rules.specs.Operators.{place}
use Rattle.typing_spec.specs.Capability.{Capability, has_cap}
use Rattle.typing_spec.specs.Typing.{attribute_known, tag_known}
use Rattle.typecheck_rules.specs.Truth.{Part, NoneAbove, Gives, GiveEach, IsToJoin, IsSo, IsTrueAt}
use Rattle.typecheck_rules.proofs.Each.{Each, each_both, each_if_none, each_if_not}
use Rattle.typecheck_rules.proofs.Below.{same_is, IsLeast, least_long, least_extension, not_below, unordered}

module _ (schema : SchemaData) (env : EnvData) (ps : List Part) (cs : List Capability) where
  abbrev pub Q : Finding → Type 0
  Q = IsTrueAt schema env ps

  -- the expression is a part, with what is known before it
  abbrev pub At : Plain → Type 0
  At e = Contains ps (record { known = cs; is = e })

  -- the types that a part may give
  abbrev pub MayGive : Plain → Option Ty → Type 0
  MayGive e o = (t : Ty) → o ≡ Some t → Gives schema env cs e t

  pub one_true : (k : Kind) (e : Plain) → At e → IsSo schema env cs e k → Each Q (record { kind = k; loc = place e } ∷ [])
  one_true k e at h = (record { part = record { known = cs; is = e }; among = at; at = refl; so = h }, tt)

  incompatible_true : (context : LubContext) (e : Plain) (ts : List Ty) (j : Result Ty LubHelp) → At e → IsToJoin schema env cs e ts → ((h : LubHelp) → j ≡ Err h → join_all Strict ts ≡ Err h) → Each Q (incompatible context (place e) ts j)
  incompatible_true context e ts (Ok t) at joins k = tt
  incompatible_true context e ts (Err h) at joins k = one_true _ e at (ts, joins, refl, k h refl)

  pub no_join_true : (context : LubContext) (e : Plain) (t u : Ty) → At e → IsToJoin schema env cs e (t ∷ u ∷ []) → Each Q (no_join context (place e) t u)
  no_join_true context e t u at joins = incompatible_true context e (t ∷ u ∷ []) (join Strict t u) at joins (λ h k. ap (λ r. join_rest Strict r []) k)

  pub of_both_true : (found : Ty → Ty → List Finding) (t u : Option Ty) → ((a b : Ty) → t ≡ Some a → u ≡ Some b → Each Q (found a b)) → Each Q (of_both found t u)
  of_both_true found (Some t) (Some u) h = h t u refl refl
  of_both_true found (Some t) None h = tt
  of_both_true found None u h = tt

  contains_true : (x y : Plain) (m : Mark (Unit {0})) (t u : Ty) → At (binary ContainsOp x y m) → Gives schema env cs x t → Gives schema env cs y u → Each Q (contains_found m.loc t u)
  contains_true x y m (set_of t) u at lx ly = no_join_true context.Contains (binary ContainsOp x y m) t u at (lx, ly)
  contains_true x y m _ u at lx ly = tt

  -- `<` and `<=`
  wrong_true : (ts : List Ty) (e : Plain) (t : Ty) → At e → Gives schema env cs e t → NoneAbove t ts → Each Q (wrong ts (place e) t)
  wrong_true ts e t at borrowed h = one_true (UnexpectedType ts t None) e at (borrowed, h)

  either : (b c : Bool) → (b || c) ≡ false → (b ≡ false) × (c ≡ false)
  either true c e = absurd (true≢false e)
  either false c e = (refl, e)

  barred : (t : Ty) → same_type t long_type ≡ false → is_comparable t ≡ false → NoneAbove t (datetime_type ∷ duration_type ∷ long_type ∷ [])
  barred t e d =
      let p = either (same_type t datetime_type) (same_type t duration_type) d in
      (not_below datetime_type t (least_extension _) p.0, (not_below duration_type t (least_extension _) p.1, (not_below long_type t least_long e, tt)))

  -- a comparable type has none below it
  compared : (t : Ty) → is_comparable t ≡ true → IsLeast t
  compared t e = by (same_type t datetime_type) refl e
    where
      by : (b : Bool) → same_type t datetime_type ≡ b → (b || same_type t duration_type) ≡ true → IsLeast t
      by true d f = subst IsLeast (sym (same_is t datetime_type d)) (least_extension _)
      by false d f = subst IsLeast (sym (same_is t duration_type f)) (least_extension _)

  other : (t u : Ty) → order_type t u ≡ None → (same_type t long_type || is_comparable t) ≡ true → same_type u t ≡ false
  other t u none e = by (same_type u t) refl
    where
      by : (b : Bool) → same_type u t ≡ b → same_type u t ≡ false
      by true d = unordered t u (same_type u t ≡ false) none (sym (same_is u t d)) e
      by false d = d

  apart : (t u : Ty) → is_comparable u ≡ true → is_comparable t ≡ false → same_type t u ≡ false
  apart t u k j = by (same_type t u) refl
    where
      by : (b : Bool) → same_type t u ≡ b → same_type t u ≡ false
      by true p = absurd (true≢false (sym k ∙ (ap is_comparable (sym (same_is t u p)) ∙ j)))
      by false p = p

  order_true : (x y : Plain) (t u : Ty) → At x → At y → Gives schema env cs x t → Gives schema env cs y u → order_type t u ≡ None → Each Q (order_wrong (place x) (place y) t u)
  order_true x y t u at to lx ly none = by (same_type t long_type) refl (same_type u long_type) refl (is_comparable t) refl (is_comparable u) refl
    where
      by : (b : Bool) → same_type t long_type ≡ b → (c : Bool) → same_type u long_type ≡ c → (d : Bool) → is_comparable t ≡ d → (e : Bool) → is_comparable u ≡ e →
          Each Q (if b then wrong (long_type ∷ []) (place y) u else (if c then wrong (long_type ∷ []) (place x) t else (if d then wrong (t ∷ []) (place y) u else (if e then wrong (u ∷ []) (place x) t else
          (wrong (datetime_type ∷ duration_type ∷ long_type ∷ []) (place x) t ++ wrong (datetime_type ∷ duration_type ∷ long_type ∷ []) (place y) u)))))
      by true h c i d j e k =
          let is_long = same_is t long_type h in
          wrong_true (long_type ∷ []) y u to ly (not_below long_type u least_long (subst (λ w. same_type u w ≡ false) is_long (other t u none (ap (λ w. w || is_comparable t) h))), tt)
      by false h true i d j e k = wrong_true (long_type ∷ []) x t at lx (not_below long_type t least_long h, tt)
      by false h false i true j e k = wrong_true (t ∷ []) y u to ly (not_below t u (compared t j) (other t u none (ap (λ w. w || is_comparable t) h ∙ j)), tt)
      by false h false i false j true k = wrong_true (u ∷ []) x t at lx (not_below u t (compared u k) (apart t u k j), tt)
      by false h false i false j false k =
          each_both Q (wrong (datetime_type ∷ duration_type ∷ long_type ∷ []) (place x) t) (wrong (datetime_type ∷ duration_type ∷ long_type ∷ []) (place y) u)
          (wrong_true (datetime_type ∷ duration_type ∷ long_type ∷ []) x t at lx (barred t h j)) (wrong_true (datetime_type ∷ duration_type ∷ long_type ∷ []) y u to ly (barred u i k))

  -- `getTag`
  tag_true : (known : Bool) (x y : Plain) (m : Mark (Unit {0})) (t : Ty) → known ≡ has_cap cs (tag_known x y) → At (binary GetTag x y m) → Gives schema env cs x t → Each Q (tag_found schema known y m.loc t)
  tag_true false x y m t asked at borrowed = one_true _ (binary GetTag x y m) at (t, borrowed, refl, refl, sym asked)
  tag_true true x y m t asked at borrowed = each_if_none Q (tag_type schema t) _ (λ e. one_true _ (binary GetTag x y m) at (t, borrowed, refl, e))

  tag_if : (known : Bool) (x y : Plain) (m : Mark (Unit {0})) (t : Option Ty) → known ≡ has_cap cs (tag_known x y) → At (binary GetTag x y m) → MayGive x t → Each Q (option_map_or (tag_found schema known y m.loc) t [])
  tag_if known x y m None asked at borrowed = tt
  tag_if known x y m (Some t) asked at borrowed = tag_true known x y m t asked at (borrowed t refl)

  pub binary_true : (o : BinaryOp) (known : Bool) (x y : Plain) (m : Mark (Unit {0})) (type t u : Option Ty) → known ≡ has_cap cs (tag_known x y) → At x → At y → At (binary o x y m) → MayGive x t → MayGive y u →
      Each Q (binary_found schema o known y type (place x) (place y) m.loc t u)
  binary_true Eq known x y m type t u asked at to here lx ly = of_both_true _ t u (λ a b p q. each_if_none Q type _ (λ e. no_join_true context.Equality (binary Eq x y m) a b here (lx a p, ly b q)))
  binary_true Less known x y m type t u asked at to here lx ly = of_both_true _ t u (λ a b p q. each_if_none Q (order_type a b) _ (λ e. order_true x y a b at to (lx a p) (ly b q) e))
  binary_true LessEq known x y m type t u asked at to here lx ly = of_both_true _ t u (λ a b p q. each_if_none Q (order_type a b) _ (λ e. order_true x y a b at to (lx a p) (ly b q) e))
  binary_true Add known x y m type t u asked at to here lx ly = tt
  binary_true Sub known x y m type t u asked at to here lx ly = tt
  binary_true Mul known x y m type t u asked at to here lx ly = tt
  binary_true In known x y m type t u asked at to here lx ly = tt
  binary_true ContainsOp known x y m type t u asked at to here lx ly = of_both_true _ t u (λ a b p q. contains_true x y m a b here (lx a p) (ly b q))
  binary_true ContainsAll known x y m type t u asked at to here lx ly = of_both_true _ t u (λ a b p q. no_join_true context.ContainsAnyAll (binary ContainsAll x y m) a b here (lx a p, ly b q))
  binary_true ContainsAny known x y m type t u asked at to here lx ly = of_both_true _ t u (λ a b p q. no_join_true context.ContainsAnyAll (binary ContainsAny x y m) a b here (lx a p, ly b q))
  binary_true GetTag known x y m type t u asked at to here lx ly = tag_if known x y m t asked here lx
  binary_true HasTag known x y m type t u asked at to here lx ly = tt

  -- attributes
  unsafe : (known : Bool) (a : AttributeType) → safe_type known a ≡ None → a.is_required ≡ false
  unsafe known a e = by a.is_required refl known e
    where
      by : (b : Bool) → a.is_required ≡ b → (k : Bool) → (if b || k then Some a.attr_type else None) ≡ None → a.is_required ≡ false
      by true h k d = absurd (true≢false (ap is_some d))
      by false h k d = h

  unknown : (known : Bool) (a : AttributeType) → safe_type known a ≡ None → known ≡ false
  unknown known a e = by known refl a.is_required e
    where
      by : (k : Bool) → known ≡ k → (b : Bool) → (if b || k then Some a.attr_type else None) ≡ None → known ≡ false
      by true h true d = absurd (true≢false (ap is_some d))
      by true h false d = absurd (true≢false (ap is_some d))
      by false h b d = h

  pub attribute_true : (access : AttributeAccess) (known : Bool) (x : Plain) (n : List ℕ) (m : Mark (Unit {0})) (t : Ty) → known ≡ has_cap cs (attribute_known x n) → At (attr x n m) → Gives schema env cs x t →
      Each Q (attribute_found schema access known n m.loc t (attribute_of schema t n))
  attribute_true access known x n m t asked at borrowed = by (attribute_of schema t n) refl
    where
      by : (a : Option AttributeType) → attribute_of schema t n ≡ a → Each Q (attribute_found schema access known n m.loc t a)
      by None e = one_true _ (attr x n m) at (t, borrowed, e, refl)
      by (Some a) e = each_if_none Q (safe_type known a) _ (λ d. one_true _ (attr x n m) at (t, borrowed, subst (λ o. IsSomeAnd o (λ b. b.is_required ≡ false)) (sym e) (unsafe known a d), sym asked ∙ unknown known a d))

  pub set_true : (xs : Trees (Mark (Unit {0}))) (m : Mark (Unit {0})) (ts : List Ty) → At (set xs m) → (ts ≡ [] → xs ≡ no_trees) → GiveEach schema env cs xs ts → Each Q (set_found m.loc ts)
  set_true xs m [] at k borrowed = one_true _ (set xs m) at (k refl)
  set_true xs m (t ∷ ts) at k borrowed = incompatible_true context.Set (set xs m) (t ∷ ts) (join_all Strict (t ∷ ts)) at borrowed (λ h e. e)

  -- calls
  text_true : (f : List ℕ) (g : ExtensionFunction) (xs : Trees (Mark (Unit {0}))) (m : Mark (Unit {0})) (o : Option (List ℕ)) → function_of f ≡ Some g → only_text xs ≡ o → option_map_or (is_readable g) o true ≡ false →
      At (call f xs m) → Each Q (text_found g m.loc o)
  text_true f g xs m None is only e at = tt
  text_true f g xs m (Some s) is only e at = one_true _ (call f xs m) at (g, is, s, only, refl, e)

  pub call_true : (f : List ℕ) (g : ExtensionFunction) (xs : Trees (Mark (Unit {0}))) (m : Mark (Unit {0})) → function_of f ≡ Some g → At (call f xs m) → Each Q (call_found g xs m.loc)
  call_true f g xs m is at =
      each_both Q _ _ (each_if_not Q (has_count g xs) _ (λ e. one_true _ (call f xs m) at (g, is, refl, refl, e)))
      (each_both Q _ _ (each_if_not Q (has_readable g xs) _ (λ e. text_true f g xs m (only_text xs) is refl e at)) (each_if_not Q (has_literals g xs) _ (λ e. one_true _ (call f xs m) at (g, is, e))))
