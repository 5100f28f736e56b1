-- A typed expression ends with none of the allowed errors but its risks.
use Rattle.std.proofs.Common.{◌≡◌, ℕ, Bool, true, false, ◌||◌, inl, inr, List, [], ◌∷◌, ◌++◌, Option, Some, None, is_some, Result, refl, sym, subst, ◌∙◌, IfSome, cond}
use Rattle.std.specs.Prelude.{option_map}
use Rattle.std.specs.Option.{option_and_then}
use Rattle.std.proofs.lemmas.Option.{option_and_then_some}
use Rattle.plain_lemmas.proofs.Booleans.{or_cases, or_false_parts}
use Rattle.plain_lemmas.proofs.Options.{some_injective}
use Rattle.policy_values.specs.declared.entity_uid.EntityUID.{EntityUID}
use Rattle.policy_values.specs.Value.{Val, entity}
use Rattle.entity_store.specs.declared.request.Request.{Request}
use Rattle.entity_store.specs.Store.{StoredEntity, Store, entity_at}
use Rattle.schema_types.specs.declared.kinds.Primitive.TheVariants.{Bool as BoolType, Long, String}
use Rattle.schema_types.specs.Ty.{Ty, true_type, false_type, primitive, record_of}
use Rattle.schema_core.specs.EnvData.{LinkedEnvironment, declared_action}
use Rattle.schema_core.specs.Faults.{IsSchema}
use Rattle.schema_core.specs.Schema.{SchemaData}
use Rattle.policy_core.specs.declared.outcome.EvalError.{EvalError}
use Rattle.policy_core.specs.declared.outcome.EvalError.TheVariants.{MissingEntity, IntegerOverflow, ExtensionOverflow}
use Rattle.policy_core.specs.declared.outcome.Outcome.{Outcome}
use Rattle.policy_core.specs.declared.outcome.Outcome.TheVariants.{Value, Error}
use Rattle.policy_core.specs.Calls.{called}
use Rattle.policy_core.specs.Eval.{eval, eval_all, eval_named, truth_of, truth_outcome, with_value}
use Rattle.policy_core.specs.Operators.{unary_value, binary_value, attr_value, has_value, like_value, is_value}
use Rattle.policy_expressions.specs.declared.functions.UnaryFunction.TheVariants.{ToDate}
use Rattle.policy_expressions.specs.declared.functions.BinaryFunction.TheVariants.{Offset, DurationSince}
use Rattle.policy_expressions.specs.declared.functions.ExtensionFunction.{ExtensionFunction}
use Rattle.policy_expressions.specs.declared.functions.ExtensionFunction.TheVariants.{Unary, Binary}
use Rattle.policy_expressions.specs.declared.kinds.PatternElem.{PatternElem}
use Rattle.policy_expressions.specs.declared.kinds.UnaryOp.{UnaryOp}
use Rattle.policy_expressions.specs.declared.kinds.UnaryOp.TheVariants.{Neg}
use Rattle.policy_expressions.specs.declared.kinds.BinaryOp.{BinaryOp}
use Rattle.policy_expressions.specs.declared.kinds.BinaryOp.TheVariants.{Add, Sub, Mul, GetTag}
use Rattle.policy_expressions.specs.Functions.{function_of}
use Rattle.policy_expressions.specs.Keys.{HasKeysOnce, HaveKeysOnce, AreKeysOnce}
use Rattle.policy_expressions.specs.Plain.{Plain}
use Rattle.policy_expressions.specs.Slots.{has_slot, some_has_slot, some_named_has_slot}
use Rattle.policy_expressions.specs.Tree.{lit, var, slot, ite, conj, disj, unary, binary, attr, has, like, is_type, call, set, rec, Trees, no_trees, tree, Named, no_named, named, Mark, mark_of}
use Rattle.typing_spec.specs.Capability.{Capability, has_cap}
use Rattle.typing_spec.specs.Conforms.{RequestConforms, StoreConforms, IsOf}
use Rattle.typing_spec.specs.Environment.{type_of_literal, type_of_variable}
use Rattle.typing_spec.specs.Holds.{AllHold}
use Rattle.typing_spec.specs.Rules as rule
use Rattle.typing_spec.specs.Signatures.{call_type}
use Rattle.typing_spec.specs.Sound.{IsOfType, Fulfils, TypingIsSound, TypedHasItsType}
use Rattle.typing_spec.specs.Typing.{Typed, Typing, typing, at, unreached, attribute_known, tag_known, if_typing, and_caps, and_typing, or_caps, or_typing, types_in, trees_in, record_type, named_in, types, types_all, types_named}
use Rattle.condition_risks.specs.Sides.{Found, is_found, merged, sides}
use Rattle.condition_risks.specs.Risks.{Risk, missing, integer_overflow, extension_overflow, is_noted_record, is_of_record, is_known, attr_risks, unary_risks, binary_risks, call_risks, risks_behind, risks, risks_all, risks_named}
use Rattle.condition_risks.specs.Expected.{IsStoredOutcome, AreStored, IsOneOf}
use Rattle.condition_risks.proofs.Ends.{EndsOnly, AllEndOnly, Comes, weaker, all_weaker, settled, with_ends, choose_ends, truth_ends, first_ends, set_ends, record_ends, call_ends}
use Rattle.condition_risks.proofs.Operators.{OfEntity, OfNumber, OfExtension, OfUnary, OfBinary, OfFunction, IsMissing, unary_ends, attr_ends, has_ends, like_ends, is_ends, binary_ends, called_ends}
use Rattle.condition_risks.proofs.Holding.{HasFound, found_stored, merged_stored, sides_hold}

-- it is no id of an entity
abbrev IsNoEntity : Outcome → Type 0
IsNoEntity o = (u : EntityUID) → o ≡ Value (entity u) → ⊥

no_entity : (t : Ty) (o : Outcome) → IsOfType t o → is_noted_record (Some t) ≡ true → IsNoEntity o
no_entity (record_of xs p) o h i u e = subst (IsOfType (record_of xs p)) e h
no_entity t o h i u e = absurd (cc)

absent : (r : Option StoredEntity) → r ≡ None → is_some r ≡ true → ⊥
absent None p e = cc
absent (Some x) p e = cc

module _ (q : Request) (s : Store) (stored : List Typed) (there : AreStored q s stored) where
  abbrev EndsBy : List Risk → Outcome → Type 0
  EndsBy rs o = EndsOnly (IsOneOf q s rs) o

  abbrev AllEndBy : {X : Type 0} → List Risk → Result X EvalError → Type 0
  AllEndBy rs r = AllEndOnly (IsOneOf q s rs) r

  -- a typed expression, and several, whatever else is known to be stored
  abbrev Good : Typed → Type 0
  Good t = (known : List Typed) → AreStored q s known → EndsBy (risks stored known t) (eval t q s)

  abbrev GoodAll : Trees (Mark (Option Ty)) → Type 0
  GoodAll xs = (known : List Typed) → AreStored q s known → AllEndBy (risks_all stored known xs) (eval_all xs q s)

  abbrev GoodNamed : Named (Mark (Option Ty)) → Type 0
  GoodNamed xs = (known : List Typed) → AreStored q s known → AllEndBy (risks_named stored known xs) (eval_named xs q s)

  in_first : (rs ts : List Risk) (e : EvalError) → IsOneOf q s rs e → IsOneOf q s (rs ++ ts) e
  in_first [] ts e h = absurd h
  in_first (r ∷ rs) ts e (inl h) = inl h
  in_first (r ∷ rs) ts e (inr h) = inr (in_first rs ts e h)

  in_second : (rs ts : List Risk) (e : EvalError) → IsOneOf q s ts e → IsOneOf q s (rs ++ ts) e
  in_second [] ts e h = h
  in_second (r ∷ rs) ts e h = inr (in_second rs ts e h)

  left : (rs ts : List Risk) (o : Outcome) → EndsBy rs o → EndsBy (rs ++ ts) o
  left rs ts o h = weaker (IsOneOf q s rs) (IsOneOf q s (rs ++ ts)) (in_first rs ts) o h

  right : (rs ts : List Risk) (o : Outcome) → EndsBy ts o → EndsBy (rs ++ ts) o
  right rs ts o h = weaker (IsOneOf q s ts) (IsOneOf q s (rs ++ ts)) (in_second rs ts) o h

  all_left : {X : Type 0} (rs ts : List Risk) (r : Result X EvalError) → AllEndBy rs r → AllEndBy (rs ++ ts) r
  all_left rs ts r h = all_weaker (IsOneOf q s rs) (IsOneOf q s (rs ++ ts)) (in_first rs ts) r h

  all_right : {X : Type 0} (rs ts : List Risk) (r : Result X EvalError) → AllEndBy ts r → AllEndBy (rs ++ ts) r
  all_right rs ts r h = all_weaker (IsOneOf q s ts) (IsOneOf q s (rs ++ ts)) (in_second rs ts) r h

  -- an operand behind a side of another
  behind_good : (f : Found) (y : Typed) → HasFound q s f → Good y → (known : List Typed) → AreStored q s known → EndsBy (risks_behind f known (λ more. risks stored more y)) (eval y q s)
  behind_good None y h g known k = absurd h
  behind_good (Some ds) y h g known k = g (merged ds known) (merged_stored q s ds known h k)

  ite_good : (x y z : Typed) (m : Mark (Option Ty)) → Good x → (Comes true (eval x q s) → Good y) → Good z → Good (ite x y z m)
  ite_good x y z m g h k known j =
      let a = risks stored known x in
      let b = risks_behind (sides x).if_true known (λ more. risks stored more y) in
      let c = risks_behind (sides x).if_false known (λ more. risks stored more z) in
      choose_ends (IsOneOf q s (a ++ (b ++ c))) (eval x q s) (eval y q s) (eval z q s) (left a (b ++ c) (eval x q s) (g known j))
      (λ e. right a (b ++ c) (eval y q s) (left b c (eval y q s) (behind_good (sides x).if_true y ((sides_hold q s x).yes e) (h e) known j)))
      (λ e. right a (b ++ c) (eval z q s) (right b c (eval z q s) (behind_good (sides x).if_false z ((sides_hold q s x).no e) k known j)))

  conj_good : (x y : Typed) (m : Mark (Option Ty)) → Good x → (Comes true (eval x q s) → Good y) → Good (conj x y m)
  conj_good x y m g h known j =
      let a = risks stored known x in
      let b = risks_behind (sides x).if_true known (λ more. risks stored more y) in
      choose_ends (IsOneOf q s (a ++ b)) (eval x q s) (truth_outcome (truth_of (eval y q s))) _ (left a b (eval x q s) (g known j))
      (λ e. truth_ends (IsOneOf q s (a ++ b)) (eval y q s) (right a b (eval y q s) (behind_good (sides x).if_true y ((sides_hold q s x).yes e) (h e) known j)))
      (λ e. tt)

  disj_good : (x y : Typed) (m : Mark (Option Ty)) → Good x → Good y → Good (disj x y m)
  disj_good x y m g h known j =
      let a = risks stored known x in
      let b = risks_behind (sides x).if_false known (λ more. risks stored more y) in
      choose_ends (IsOneOf q s (a ++ b)) (eval x q s) _ (truth_outcome (truth_of (eval y q s))) (left a b (eval x q s) (g known j))
      (λ e. tt)
      (λ e. truth_ends (IsOneOf q s (a ++ b)) (eval y q s) (right a b (eval y q s) (behind_good (sides x).if_false y ((sides_hold q s x).no e) h known j)))

  -- an overflow of an expression
  number_one : (t : Typed) (e : EvalError) → OfNumber e → eval t q s ≡ Error e → IsOneOf q s (integer_overflow t ∷ []) e
  number_one t IntegerOverflow h p = inl p
  number_one t e h p = absurd h

  extension_one : (t : Typed) (e : EvalError) → OfExtension e → eval t q s ≡ Error e → IsOneOf q s (extension_overflow t ∷ []) e
  extension_one t ExtensionOverflow h p = inl p
  extension_one t e h p = absurd h

  unary_one : (o : UnaryOp) (t : Typed) (e : EvalError) → OfUnary o e → eval t q s ≡ Error e → IsOneOf q s (unary_risks o t) e
  unary_one Neg t IntegerOverflow h p = inl p
  unary_one o t e h p = absurd h

  unary_good : (o : UnaryOp) (x : Typed) (m : Mark (Option Ty)) → Good x → Good (unary o x m)
  unary_good o x m g known j =
      let t : Typed = unary o x m in
      let a = risks stored known x in
      let P : EvalError → Type 0 = λ e. eval t q s ≡ Error e → IsOneOf q s (a ++ unary_risks o t) e in
      settled (IsOneOf q s (a ++ unary_risks o t)) (eval t q s)
      (with_ends P (eval x q s) (unary_value o) (weaker (IsOneOf q s a) P (λ e h p. in_first a (unary_risks o t) e h) (eval x q s) (g known j))
      (λ v f. weaker (OfUnary o) P (λ e h p. in_second a (unary_risks o t) e (unary_one o t e h p)) (unary_value o v) (unary_ends o v)))

  -- an entity that is missing
  known_there : (x : Typed) (known : List Typed) → AreStored q s known → is_known stored known x ≡ true → IsStoredOutcome s (eval x q s)
  known_there x known j e =
      elim (or_cases (is_found stored x) (is_found known x) e) [ inl i ↦ found_stored q s stored x there i | inr i ↦ found_stored q s known x j i ]

  missing_one : (x : Typed) (v : Val) (b : Bool) → eval x q s ≡ Value v → (b ≡ true → (u : EntityUID) → IsMissing s v u → ⊥) → (e : EvalError) → OfEntity s v e → IsOneOf q s (cond b [] (missing x ∷ [])) e
  missing_one x v true f k (MissingEntity u) h = absurd (k refl u h)
  missing_one x v false f k (MissingEntity u) h = inl (f ∙ (λ i. Value (h.0 i)), h.1)
  missing_one x v b f k e h = absurd h

  not_missing : (x : Typed) (v : Val) → eval x q s ≡ Value v → IsStoredOutcome s (eval x q s) → (u : EntityUID) → IsMissing s v u → ⊥
  not_missing x v f h u k = absent (entity_at s u) k.1 (subst (IsStoredOutcome s) (f ∙ (λ i. Value (k.0 i))) h)

  attr_one : (x : Typed) (known : List Typed) → AreStored q s known → (is_of_record x ≡ true → IsNoEntity (eval x q s)) → (v : Val) → eval x q s ≡ Value v →
      (e : EvalError) → OfEntity s v e → IsOneOf q s (attr_risks stored known x) e
  attr_one x known j r v f =
      missing_one x v (is_of_record x || is_known stored known x) f (λ b u k.
      elim (or_cases (is_of_record x) (is_known stored known x) b) [
        | inl i ↦ r i u (f ∙ (λ i. Value (k.0 i)))
        | inr i ↦ not_missing x v f (known_there x known j i) u k
      ])

  attr_good : (x : Typed) (n : List ℕ) (m : Mark (Option Ty)) → Good x → (is_of_record x ≡ true → IsNoEntity (eval x q s)) → Good (attr x n m)
  attr_good x n m g r known j =
      let a = risks stored known x in
      let b = attr_risks stored known x in
      with_ends (IsOneOf q s (a ++ b)) (eval x q s) (λ v. attr_value v n s) (left a b (eval x q s) (g known j))
      (λ v f. right a b (attr_value v n s) (weaker (OfEntity s v) (IsOneOf q s b) (attr_one x known j r v f) (attr_value v n s) (attr_ends s v n)))

  binary_one : (x : Typed) (known : List Typed) → AreStored q s known → (o : BinaryOp) (t : Typed) (v : Val) → eval x q s ≡ Value v →
      (e : EvalError) → OfBinary s o v e → eval t q s ≡ Error e → IsOneOf q s (binary_risks stored known o x t) e
  binary_one x known j Add t v f e h p = number_one t e h p
  binary_one x known j Sub t v f e h p = number_one t e h p
  binary_one x known j Mul t v f e h p = number_one t e h p
  binary_one x known j GetTag t v f e h p = missing_one x v (is_known stored known x) f (λ b. not_missing x v f (known_there x known j b)) e h
  binary_one x known j o t v f e h p = absurd h

  binary_good : (o : BinaryOp) (x y : Typed) (m : Mark (Option Ty)) → Good x → Good y → Good (binary o x y m)
  binary_good o x y m g h known j =
      let t : Typed = binary o x y m in
      let a = risks stored known x in
      let b = risks stored known y in
      let c = binary_risks stored known o x t in
      let P : EvalError → Type 0 = λ e. eval t q s ≡ Error e → IsOneOf q s ((a ++ b) ++ c) e in
      settled (IsOneOf q s ((a ++ b) ++ c)) (eval t q s)
      (with_ends P (eval x q s) (λ v. with_value (eval y q s) (λ w. binary_value o v w s)) (weaker (IsOneOf q s a) P (λ e i p. in_first (a ++ b) c e (in_first a b e i)) (eval x q s) (g known j))
      (λ v f. with_ends P (eval y q s) (λ w. binary_value o v w s) (weaker (IsOneOf q s b) P (λ e i p. in_first (a ++ b) c e (in_second a b e i)) (eval y q s) (h known j))
      (λ w i. weaker (OfBinary s o v) P (λ e k p. in_second (a ++ b) c e (binary_one x known j o t v f e k p)) (binary_value o v w s) (binary_ends s o v w))))

  has_good : (x : Typed) (n : List ℕ) (m : Mark (Option Ty)) → Good x → Good (has x n m)
  has_good x n m g known j = with_ends (IsOneOf q s (risks stored known x)) (eval x q s) (λ v. has_value v n s) (g known j) (λ v f. has_ends s (IsOneOf q s (risks stored known x)) v n)

  like_good : (x : Typed) (p : List PatternElem) (m : Mark (Option Ty)) → Good x → Good (like x p m)
  like_good x p m g known j = with_ends (IsOneOf q s (risks stored known x)) (eval x q s) (λ v. like_value v p) (g known j) (λ v f. like_ends (IsOneOf q s (risks stored known x)) v p)

  is_good : (x : Typed) (n : List ℕ) (m : Mark (Option Ty)) → Good x → Good (is_type x n m)
  is_good x n m g known j = with_ends (IsOneOf q s (risks stored known x)) (eval x q s) (λ v. is_value v n) (g known j) (λ v f. is_ends (IsOneOf q s (risks stored known x)) v n)

  call_one : (f : Option ExtensionFunction) (t : Typed) (e : EvalError) → OfFunction f e → eval t q s ≡ Error e → IsOneOf q s (call_risks f t) e
  call_one (Some (Unary ToDate)) t e h p = extension_one t e h p
  call_one (Some (Binary Offset)) t e h p = extension_one t e h p
  call_one (Some (Binary DurationSince)) t e h p = extension_one t e h p
  call_one f t e h p = absurd h

  call_good : (f : List ℕ) (xs : Trees (Mark (Option Ty))) (m : Mark (Option Ty)) → GoodAll xs → Good (call f xs m)
  call_good f xs m g known j =
      let t : Typed = call f xs m in
      let a = risks_all stored known xs in
      let b = call_risks (function_of f) t in
      let P : EvalError → Type 0 = λ e. eval t q s ≡ Error e → IsOneOf q s (a ++ b) e in
      settled (IsOneOf q s (a ++ b)) (eval t q s)
      (call_ends P f (eval_all xs q s) (all_weaker (IsOneOf q s a) P (λ e h p. in_first a b e h) (eval_all xs q s) (g known j))
      (λ vs. weaker (OfFunction (function_of f)) P (λ e h p. in_second a b e (call_one (function_of f) t e h p)) (called (function_of f) vs) (called_ends (function_of f) vs)))

  set_good : (xs : Trees (Mark (Option Ty))) (m : Mark (Option Ty)) → GoodAll xs → Good (set xs m)
  set_good xs m g known j = set_ends (IsOneOf q s (risks_all stored known xs)) (eval_all xs q s) (g known j)

  rec_good : (xs : Named (Mark (Option Ty))) (m : Mark (Option Ty)) → GoodNamed xs → Good (rec xs m)
  rec_good xs m g known j = record_ends (IsOneOf q s (risks_named stored known xs)) (eval_named xs q s) (g known j)

  tree_good : (x : Typed) (xs : Trees (Mark (Option Ty))) → Good x → GoodAll xs → GoodAll (tree x xs)
  tree_good x xs g h known j =
      let a = risks stored known x in
      let b = risks_all stored known xs in
      first_ends (IsOneOf q s (a ++ b)) (λ v. v) (eval x q s) (eval_all xs q s) (left a b (eval x q s) (g known j)) (all_right a b (eval_all xs q s) (h known j))

  named_good : (k : List ℕ) (x : Typed) (xs : Named (Mark (Option Ty))) → Good x → GoodNamed xs → GoodNamed (named k x xs)
  named_good k x xs g h known j =
      let a = risks stored known x in
      let b = risks_named stored known xs in
      first_ends (IsOneOf q s (a ++ b)) (λ v. (k, v)) (eval x q s) (eval_named xs q s) (left a b (eval x q s) (g known j)) (all_right a b (eval_named xs q s) (h known j))

  unreached_good : Good unreached
  unreached_good known j = tt

  -- the typing that a rule gives
  abbrev T : Typing → Type 0
  T y = Good y.tree

  last : {A : Type 0} (f : A → Typing) (o : Option A) (y : Typing) → option_map f o ≡ Some y → ((x : A) → T (f x)) → T y
  last f None y p g = absurd (cc)
  last f (Some x) y p g = subst T (some_injective p) (g x)

  if_good : (t : Ty) (cs : List Capability) (x : Typed) (m : Mark (Unit {0})) (a b : Option Typing) (w : Typing) → if_typing t cs x m a b ≡ Some w → Good x → ((y : Typing) → a ≡ Some y → Comes true (eval x q s) → T y) → ((z : Typing) → b ≡ Some z → T z) → T w
  if_good true_type cs x m (Some y) b w p g h k = subst T (some_injective p) (ite_good x y.tree unreached (at y.type m) g (h y refl) unreached_good)
  if_good true_type cs x m None b w p g h k = absurd (cc)
  if_good false_type cs x m a (Some z) w p g h k = subst T (some_injective p) (ite_good x unreached z.tree (at z.type m) g (λ e. unreached_good) (k z refl))
  if_good false_type cs x m a None w p g h k = absurd (cc)
  if_good (primitive BoolType) cs x m (Some y) (Some z) w p g h k = last _ (rule.strict_join y.type z.type) w p (λ t. ite_good x y.tree z.tree (at t m) g (h y refl) (k z refl))
  if_good (primitive BoolType) cs x m (Some y) None w p g h k = absurd (cc)
  if_good (primitive BoolType) cs x m None b w p g h k = absurd (cc)
  if_good (primitive Long) cs x m a b w p g h k = absurd (cc)
  if_good (primitive String) cs x m a b w p g h k = absurd (cc)
  if_good t cs x m a b w p g h k = absurd (cc)

  and_rest : (t : Ty) (cs : List Capability) (x : Typed) (m : Mark (Unit {0})) (b : Option Typing) (w : Typing) →
      option_and_then (λ y. option_map (λ u. typing u (and_caps y.type cs y.caps) (conj x y.tree (at u m))) (rule.and_type t y.type)) b ≡ Some w →
      Good x → ((y : Typing) → b ≡ Some y → Comes true (eval x q s) → T y) → T w
  and_rest t cs x m b w p g h = option_and_then_some _ b w p (λ y i j. last _ (rule.and_type t y.type) w j (λ u. conj_good x y.tree (at u m) g (h y i)))

  and_good : (t : Ty) (cs : List Capability) (x : Typed) (m : Mark (Unit {0})) (b : Option Typing) (w : Typing) → and_typing t cs x m b ≡ Some w → Good x → ((y : Typing) → b ≡ Some y → Comes true (eval x q s) → T y) → T w
  and_good false_type cs x m b w p g h = subst T (some_injective p) (conj_good x unreached (at false_type m) g (λ e. unreached_good))
  and_good t cs x m b w p g h = and_rest t cs x m b w p g h

  or_rest : (t : Ty) (cs : List Capability) (x : Typed) (m : Mark (Unit {0})) (b : Option Typing) (w : Typing) →
      option_and_then (λ y. option_map (λ u. typing u (or_caps t y.type cs y.caps) (disj x y.tree (at u m))) (rule.or_type t y.type)) b ≡ Some w →
      Good x → ((y : Typing) → b ≡ Some y → T y) → T w
  or_rest t cs x m b w p g h = option_and_then_some _ b w p (λ y i j. last _ (rule.or_type t y.type) w j (λ u. disj_good x y.tree (at u m) g (h y i)))

  or_good : (t : Ty) (cs : List Capability) (x : Typed) (m : Mark (Unit {0})) (b : Option Typing) (w : Typing) → or_typing t cs x m b ≡ Some w → Good x → ((y : Typing) → b ≡ Some y → T y) → T w
  or_good true_type cs x m b w p g h = subst T (some_injective p) (disj_good x unreached (at true_type m) g unreached_good)
  or_good t cs x m b w p g h = or_rest t cs x m b w p g h

  hold_together : (cs ds : List Capability) → AllHold q s cs → AllHold q s ds → AllHold q s (cs ++ ds)
  hold_together [] ds h k = k
  hold_together (c ∷ cs) ds h k = (h.0, hold_together cs ds h.1 k)

  module _ (sound : TypingIsSound) (marked : TypedHasItsType) (schema : SchemaData) (ok : IsSchema schema) (env : LinkedEnvironment) (whole : RequestConforms schema q) (of : IsOf schema q env) (conform : StoreConforms schema s) where
    pub kept : (cs : List Capability) → AllHold q s cs → (x : Plain) → has_slot x ≡ false → HasKeysOnce x → (a : Typing) → types schema (declared_action env) cs x ≡ Some a → Fulfils q s (eval x q s) a
    kept cs h x n k a p = subst (λ o. IfSome o (Fulfils q s (eval x q s))) p (sound schema ok env q whole of s conform cs h x n k)

    -- what is known where an operand is true
    more_known : (cs : List Capability) → AllHold q s cs → (x : Plain) → has_slot x ≡ false → HasKeysOnce x → (a : Typing) → types schema (declared_action env) cs x ≡ Some a → Comes true (eval a.tree q s) → AllHold q s (cs ++ a.caps)
    more_known cs h x n k a p e = let f = kept cs h x n k a p in hold_together cs a.caps h (f.if_true (sym f.same ∙ e))

    record_no_entity : (cs : List Capability) → AllHold q s cs → (x : Plain) → has_slot x ≡ false → HasKeysOnce x → (a : Typing) → types schema (declared_action env) cs x ≡ Some a → is_of_record a.tree ≡ true → IsNoEntity (eval a.tree q s)
    record_no_entity cs h x n k a p r =
        let f = kept cs h x n k a p in
        let e = subst (λ o. IfSome o (λ b. mark_of b.tree ≡ at b.type (mark_of x))) p (marked schema (declared_action env) cs x) in
        no_entity a.type (eval a.tree q s) (subst (IsOfType a.type) (sym f.same) f.value) (subst (λ m. is_noted_record m.note ≡ true) e r)

    mutual
      pub good : (cs : List Capability) → AllHold q s cs → (e : Plain) → has_slot e ≡ false → HasKeysOnce e → (w : Typing) → types schema (declared_action env) cs e ≡ Some w → T w
      good cs h (lit l m) n k w p = last _ (type_of_literal schema l) w p (λ t known j. tt)
      good cs h (var v m) n k w p = last _ (type_of_variable schema (declared_action env) v) w p (λ t known j. tt)
      good cs h (slot i m) n k w p = absurd (cc)
      good cs h (ite x y z m) n k w p =
          let r = or_false_parts (has_slot x) (has_slot y || has_slot z) n in
          let t = or_false_parts (has_slot y) (has_slot z) r.1 in
          option_and_then_some _ (types schema (declared_action env) cs x) w p (λ a i j.
          if_good a.type a.caps a.tree m (types schema (declared_action env) (cs ++ a.caps) y) (types schema (declared_action env) cs z) w j (good cs h x r.0 k.0 a i)
          (λ b f e. good (cs ++ a.caps) (more_known cs h x r.0 k.0 a i e) y t.0 k.1 b f) (λ c f. good cs h z t.1 k.2 c f))
      good cs h (conj x y m) n k w p =
          let r = or_false_parts (has_slot x) (has_slot y) n in
          option_and_then_some _ (types schema (declared_action env) cs x) w p (λ a i j.
          and_good a.type a.caps a.tree m (types schema (declared_action env) (cs ++ a.caps) y) w j (good cs h x r.0 k.0 a i)
          (λ b f e. good (cs ++ a.caps) (more_known cs h x r.0 k.0 a i e) y r.1 k.1 b f))
      good cs h (disj x y m) n k w p =
          let r = or_false_parts (has_slot x) (has_slot y) n in
          option_and_then_some _ (types schema (declared_action env) cs x) w p (λ a i j.
          or_good a.type a.caps a.tree m (types schema (declared_action env) cs y) w j (good cs h x r.0 k.0 a i) (λ b f. good cs h y r.1 k.1 b f))
      good cs h (unary o x m) n k w p =
          option_and_then_some _ (types schema (declared_action env) cs x) w p (λ a i j. last _ (rule.unary_type o a.type) w j (λ t. unary_good o a.tree (at t m) (good cs h x n k a i)))
      good cs h (binary o x y m) n k w p =
          let r = or_false_parts (has_slot x) (has_slot y) n in
          option_and_then_some _ (types schema (declared_action env) cs x) w p (λ a i j. option_and_then_some _ (types schema (declared_action env) cs y) w j (λ b f g.
          last _ (rule.binary_type schema (declared_action env) o (has_cap cs (tag_known x y)) x y a.type b.type) w g
          (λ t. binary_good o a.tree b.tree (at t m) (good cs h x r.0 k.0 a i) (good cs h y r.1 k.1 b f))))
      good cs h (attr x n m) u k w p =
          option_and_then_some _ (types schema (declared_action env) cs x) w p (λ a i j. last _ (rule.attr_type schema (has_cap cs (attribute_known x n)) a.type n) w j
          (λ t. attr_good a.tree n (at t m) (good cs h x u k a i) (record_no_entity cs h x u k a i)))
      good cs h (has x n m) u k w p =
          option_and_then_some _ (types schema (declared_action env) cs x) w p (λ a i j. last _ (rule.has_type schema (has_cap cs (attribute_known x n)) a.type n) w j
          (λ t. has_good a.tree n (at t m) (good cs h x u k a i)))
      good cs h (like x l m) n k w p =
          option_and_then_some _ (types schema (declared_action env) cs x) w p (λ a i j. last _ (rule.like_type a.type) w j (λ t. like_good a.tree l (at t m) (good cs h x n k a i)))
      good cs h (is_type x n m) u k w p =
          option_and_then_some _ (types schema (declared_action env) cs x) w p (λ a i j. last _ (rule.is_type a.type n) w j (λ t. is_good a.tree n (at t m) (good cs h x u k a i)))
      good cs h (call f xs m) n k w p =
          option_and_then_some _ (types_all schema (declared_action env) cs xs) w p (λ ys i j. last _ (call_type (function_of f) xs (types_in ys)) w j
          (λ t. call_good f (trees_in ys) (at t m) (all_good cs h xs n k ys i)))
      good cs h (set xs m) n k w p =
          option_and_then_some _ (types_all schema (declared_action env) cs xs) w p (λ ys i j. last _ (rule.set_type (types_in ys)) w j
          (λ t. set_good (trees_in ys) (at t m) (all_good cs h xs n k ys i)))
      good cs h (rec xs m) n k w p = by (types_named schema (declared_action env) cs xs) (all_named_good cs h xs n k) p
        where
          by : (o : Option (List (List ℕ × Typing))) → ((ys : List (List ℕ × Typing)) → o ≡ Some ys → GoodNamed (named_in ys)) → option_map (λ ys. typing (record_type ys) [] (rec (named_in ys) (at (record_type ys) m))) o ≡ Some w → T w
          by None g p = absurd (cc)
          by (Some ys) g p = subst T (some_injective p) (rec_good (named_in ys) (at (record_type ys) m) (g ys refl))

      all_good : (cs : List Capability) → AllHold q s cs → (xs : Trees (Mark (Unit {0}))) → some_has_slot xs ≡ false → HaveKeysOnce xs → (ys : List Typing) → types_all schema (declared_action env) cs xs ≡ Some ys → GoodAll (trees_in ys)
      all_good cs h no_trees n k ys p = subst (λ zs. GoodAll (trees_in zs)) (some_injective p) (λ known j. tt)
      all_good cs h (tree x xs) n k ys p =
          let r = or_false_parts (has_slot x) (some_has_slot xs) n in
          option_and_then_some _ (types schema (declared_action env) cs x) ys p (λ a i j. by a (good cs h x r.0 k.0 a i) (types_all schema (declared_action env) cs xs) (all_good cs h xs r.1 k.1) j)
        where
          by : (a : Typing) → T a → (o : Option (List Typing)) → ((zs : List Typing) → o ≡ Some zs → GoodAll (trees_in zs)) → option_map (λ zs. a ∷ zs) o ≡ Some ys → GoodAll (trees_in ys)
          by a g None f p = absurd (cc)
          by a g (Some zs) f p = subst (λ vs. GoodAll (trees_in vs)) (some_injective p) (tree_good a.tree (trees_in zs) g (f zs refl))

      all_named_good : (cs : List Capability) → AllHold q s cs → (xs : Named (Mark (Unit {0}))) → some_named_has_slot xs ≡ false → AreKeysOnce xs → (ys : List (List ℕ × Typing)) → types_named schema (declared_action env) cs xs ≡ Some ys → GoodNamed (named_in ys)
      all_named_good cs h no_named n k ys p = subst (λ zs. GoodNamed (named_in zs)) (some_injective p) (λ known j. tt)
      all_named_good cs h (named l x xs) n k ys p =
          let r = or_false_parts (has_slot x) (some_named_has_slot xs) n in
          option_and_then_some _ (types schema (declared_action env) cs x) ys p (λ a i j. by a (good cs h x r.0 k.0 a i) (types_named schema (declared_action env) cs xs) (all_named_good cs h xs r.1 k.2) j)
        where
          by : (a : Typing) → T a → (o : Option (List (List ℕ × Typing))) → ((zs : List (List ℕ × Typing)) → o ≡ Some zs → GoodNamed (named_in zs)) → option_map (λ zs. (l, a) ∷ zs) o ≡ Some ys → GoodNamed (named_in ys)
          by a g None f p = absurd (cc)
          by a g (Some zs) f p = subst (λ vs. GoodNamed (named_in vs)) (some_injective p) (named_good l a.tree (named_in zs) g (f zs refl))
