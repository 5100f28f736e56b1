-- Typing is sound.
use Rattle.std.proofs.Common.{◌≡◌, ℕ, Bool, true, false, ◌&&◌, ◌+ℤ◌, ◌-ℤ◌, ◌*ℤ◌, int_lt, int_le, List, [], ◌∷◌, ◌++◌, Option, Some, None, is_some, refl, sym, ap, subst, ◌∙◌, IfSome, IsSomeAnd}
use Rattle.std.specs.Prelude.{if◌then◌else◌, option_map}
use Rattle.std.specs.Option.{option_and_then}
use Rattle.policy_values.specs.declared.entity_uid.EntityUID.{EntityUID}
use Rattle.policy_values.specs.Value.{truth, entity as id}
use Rattle.entity_store.specs.declared.request.Request.{Request}
use Rattle.entity_store.specs.Request.{principal_of, resource_of}
use Rattle.entity_store.specs.Store.{Store}
use Rattle.schema_types.specs.declared.kinds.Primitive.TheVariants.{Bool as BoolType, Long, String}
use Rattle.schema_types.specs.Ty.{Ty, true_type, false_type, primitive}
use Rattle.schema_core.specs.EnvData.{LinkedEnvironment, declared_action, literal_type, id_type}
use Rattle.schema_core.specs.Faults.{IsSchema}
use Rattle.schema_core.specs.Schema.{TypeData, ActionData, SchemaData, type_at, action_at}
use Rattle.type_relations.specs.Join.{is_entity}
use Rattle.type_relations.specs.Member.{Member}
use Rattle.policy_expressions.specs.declared.kinds.Literal.{Literal}
use Rattle.policy_expressions.specs.declared.kinds.Literal.TheVariants as literal
use Rattle.policy_expressions.specs.declared.kinds.Var.{Var}
use Rattle.policy_expressions.specs.declared.kinds.Var.TheVariants.{Principal, Action, Resource, Context}
use Rattle.policy_expressions.specs.declared.kinds.BinaryOp.{BinaryOp}
use Rattle.policy_expressions.specs.declared.kinds.BinaryOp.TheVariants.{Eq, Less, LessEq, Add, Sub, Mul, In, Contains, ContainsAll, ContainsAny, GetTag, HasTag}
use Rattle.policy_core.specs.declared.outcome.Outcome.{Outcome}
use Rattle.policy_core.specs.declared.outcome.Outcome.TheVariants.{Value}
use Rattle.policy_core.specs.Calls.{call_outcome}
use Rattle.policy_core.specs.Eval.{known_fields, eval, eval_all, eval_named, literal_value, variable_value, with_value, in_prefix, set_outcome, record_outcome}
use Rattle.policy_expressions.specs.Functions.{function_of}
use Rattle.policy_core.specs.Operators.{unary_value, binary_value, attr_value, has_value, has_tag_value, like_value, is_value}
use Rattle.policy_expressions.specs.Tree.{lit, var, slot, ite, conj, disj, unary, binary, attr, has, like, is_type, call, set, rec, Trees, no_trees, tree, Named, no_named, named, Mark}
use Rattle.policy_expressions.specs.Plain.{Plain}
use Rattle.typing_spec.specs.Capability.{Capability, has_cap, common}
use Rattle.typing_spec.specs.Holds.{HasAttribute, AllHold}
use Rattle.typing_spec.specs.Holds as holds
use Rattle.typing_spec.specs.Conforms.{RequestConforms, StoreConforms, IsOf, Applies, HasAttributes}
use Rattle.typing_spec.specs.Environment.{type_of_literal, type_of_variable, known_id}
use Rattle.typing_spec.specs.Rules as rule
use Rattle.typing_spec.specs.Signatures.{call_type}
use Rattle.policy_expressions.specs.Keys.{IsFresh}
use Rattle.typing_spec.specs.Sound.{IsOfType, Keeps, Fulfils, TypingIsSound}
use Rattle.typing_spec.proofs.Complete.{IsComplete, AreComplete, AreCompleteNamed, complete}
use Rattle.typing_spec.specs.Typing.{Typed, Typing, typing, at, unreached, attribute_known, tag_known, if_typing, and_caps, and_typing, or_caps, or_typing, binary_caps, has_caps, types_in, trees_in, record_type, named_in, types, types_all, types_named}
use Rattle.typing_spec.proofs.Access.{attr_of_type, has_of_type, has_tag_of_type, get_tag_of_type, has_then, has_always, has_tag_then}
use Rattle.typing_spec.proofs.Basics.{when_some, mapped, both_some, later, all_append, known_holds}
use Rattle.typing_spec.proofs.Booleans.{IsAbove, plain_keeps, and_out, and_keeps, and_false_keeps, or_out, or_keeps, or_true_keeps, if_out, if_true_keeps, if_false_keeps, if_keeps}
use Rattle.typing_spec.proofs.Calls.{call_of_type}
use Rattle.typing_spec.proofs.Ids.{one_name, truth_member, equal_of_type, is_of}
use Rattle.typing_spec.proofs.Kept.{IsKept, AreKept, AllKept, join_members}
use Rattle.typing_spec.proofs.KeptTypes.{types_kept, all_kept}
use Rattle.typing_spec.proofs.Lists.{AreOf, prefix_of, set_of_type, AreFieldsOf, prefix_field, IsNew, AreNew, record_of_type}
use Rattle.typing_spec.proofs.Operators.{two, unary_of, sum_of, order_of, contains_of, contains_all_of, contains_any_of, like_of}
use Rattle.typing_spec.proofs.Stored.{context_kept}
use Rattle.typing_spec.proofs.Within.{known_is, in_of_type}

-- `hasTag` is never typed True
tag_not_true : (schema : SchemaData) (t u : Ty) → IfSome (rule.has_tag_type schema t u) (λ w. w ≡ true_type → ⊥)
tag_not_true schema t u = by (is_entity t && rule.is_string u) (rule.may_have_tags schema t)
  where
    by : (b m : Bool) → IfSome (if b then Some (rule.possible m) else None) (λ w. w ≡ true_type → ⊥)
    by false m = tt
    by true true = λ e. cc
    by true false = λ e. cc

has_caps_hold : (q : Request) (s : Store) (d : Bool) (x : Plain) (n : List ℕ) → HasAttribute n s (eval x q s) → AllHold q s (has_caps d x n)
has_caps_hold q s true x n h = (h, tt)
has_caps_hold q s false x n h = tt

module _ (schema : SchemaData) (ok : IsSchema schema) (env : LinkedEnvironment) (q : Request) (whole : RequestConforms schema q) (of : IsOf schema q env) (s : Store) (stored : StoreConforms schema s) where
  abbrev Promise : Outcome → Typing → Type 0
  Promise = Fulfils q s

  abbrev g : List Capability → Plain → Option Typing
  g = types schema (declared_action env)

  context_of : (o : Option ActionData) → IsSomeAnd o (λ a. env.context ≡ a.context) → IfSome o (λ a. AreKept a.context) → AreKept env.context
  context_of None e h = absurd e
  context_of (Some a) e h = subst AreKept (sym e) h

  context : AreKept env.context
  context = context_of (action_at schema env.environment.action) of.context (context_kept schema ok env.environment.action)

  kept : (cs : List Capability) (e : Plain) → IfSome (g cs e) (λ x. IsKept x.type)
  kept cs e = types_kept schema ok env context cs e

  -- literals and variables
  id_of_type : (u : EntityUID) → IfSome (literal_type schema u) (λ w. Member w (id u))
  id_of_type u = by (action_at schema u) (type_at schema u.entity_type)
    where
      by : (a : Option ActionData) (t : Option TypeData) → IfSome (id_type u a t) (λ w. Member w (id u))
      by (Some a) t = refl
      by None (Some t) = one_name u.entity_type u.entity_type refl
      by None None = tt

  literal_of : (l : Literal) → IfSome (type_of_literal schema l) (λ w. Member w (literal_value l))
  literal_of (literal.Bool b) = truth_member b
  literal_of (literal.Long n) = tt
  literal_of (literal.String t) = tt
  literal_of (literal.EntityUID u) = id_of_type u

  fields_of_type : (o : Option ActionData) → IsSomeAnd o (λ a. env.context ≡ a.context) → IsSomeAnd o (Applies schema q) → HasAttributes env.context (known_fields q.context)
  fields_of_type None e h = absurd e
  fields_of_type (Some a) e h = subst (λ xs. HasAttributes xs (known_fields q.context)) (sym e) h.context

  variable_of : (v : Var) → IfSome (type_of_variable schema (declared_action env) v) (λ w. Member w (variable_value v q))
  variable_of Principal = one_name env.environment.principal (principal_of q).entity_type of.principal
  variable_of Action = subst (λ u. IfSome (literal_type schema env.environment.action) (λ w. Member w (id u))) (sym of.action) (id_of_type env.environment.action)
  variable_of Resource = one_name env.environment.resource (resource_of q).entity_type of.resource
  variable_of Context = fields_of_type (action_at schema env.environment.action) of.context (subst (λ u. IsSomeAnd (action_at schema u) (Applies schema q)) of.action whole.action)

  -- an operator that makes nothing known, by the type that its rule gives
  op_some : (o o' : Outcome) (w : Option Ty) (f : Ty → Typed) → IfSome w (λ t. IsOfType t o) → o' ≡ o → ((t : Ty) → eval (f t) q s ≡ o') → IfSome (option_map (λ t. typing t [] (f t)) w) (Promise o)
  op_some o o' w f h e k = mapped (λ t. IsOfType t o) (Promise o) (λ t. typing t [] (f t)) w h (λ t v. plain_keeps q s t o (eval (f t) q s) v (k t ∙ e))

  if_some : (t : Ty) (m : Mark (Unit {0})) (cs : List Capability) (test : Typed) (o p r : Outcome) (a b : Option Typing) → Keeps q s t cs o (eval test q s) → IfSome a (λ x. AllHold q s cs → Promise p x) → IfSome b (Promise r) →
      IfSome a (λ x. IsKept x.type) → IfSome b (λ x. IsKept x.type) → IfSome (if_typing t cs test m a b) (Promise (if_out o p r))
  if_some true_type m cs test o p r a b h k l i j =
      mapped (λ x. AllHold q s cs → Promise p x) (Promise (if_out o p r)) (λ x. typing x.type (x.caps ++ cs) (ite test x.tree unreached (at x.type m))) a k (λ x f.
      if_true_keeps q s x.type cs x.caps o (eval test q s) p (eval x.tree q s) r (Value (truth true)) h f)
  if_some false_type m cs test o p r a b h k l i j =
      mapped (Promise r) (Promise (if_out o p r)) (λ y. typing y.type y.caps (ite test unreached y.tree (at y.type m))) b l (λ y f.
      if_false_keeps q s y.type cs y.caps o (eval test q s) p (Value (truth true)) r (eval y.tree q s) h f)
  if_some (primitive BoolType) m cs test o p r a b h k l i j =
      when_some (λ x. (AllHold q s cs → Promise p x) × IsKept x.type) (Promise (if_out o p r))
      (λ x. option_and_then (λ y. option_map (λ w. typing w (common y.caps (x.caps ++ cs)) (ite test x.tree y.tree (at w m))) (rule.strict_join x.type y.type)) b) a
      (both_some (λ x. AllHold q s cs → Promise p x) (λ x. IsKept x.type) (λ x. (AllHold q s cs → Promise p x) × IsKept x.type) a k i (λ x f c. (f, c))) (λ x f.
      when_some (λ y. Promise r y × IsKept y.type) (Promise (if_out o p r)) (λ y. option_map (λ w. typing w (common y.caps (x.caps ++ cs)) (ite test x.tree y.tree (at w m))) (rule.strict_join x.type y.type)) b
      (both_some (Promise r) (λ y. IsKept y.type) (λ y. Promise r y × IsKept y.type) b l j (λ y f c. (f, c))) (λ y e.
      mapped (IsAbove x.type y.type) (Promise (if_out o p r)) (λ w. typing w (common y.caps (x.caps ++ cs)) (ite test x.tree y.tree (at w m))) (rule.strict_join x.type y.type) (join_members x.type y.type f.1 e.1) (λ w z.
      if_keeps q s x.type y.type w cs x.caps y.caps o (eval test q s) p (eval x.tree q s) r (eval y.tree q s) z h f.0 e.0)))
  if_some (primitive Long) m cs test o p r a b h k l i j = tt
  if_some (primitive String) m cs test o p r a b h k l i j = tt
  if_some t m cs test o p r a b h k l i j = tt

  and_rest : (t : Ty) (m : Mark (Unit {0})) (cs : List Capability) (left : Typed) (o p : Outcome) (b : Option Typing) → Keeps q s t cs o (eval left q s) → IfSome b (λ y. AllHold q s cs → Promise p y) →
      IfSome (option_and_then (λ y. option_map (λ w. typing w (and_caps y.type cs y.caps) (conj left y.tree (at w m))) (rule.and_type t y.type)) b) (Promise (and_out o p))
  and_rest t m cs left o p b h k =
      when_some (λ y. AllHold q s cs → Promise p y) (Promise (and_out o p)) (λ y. option_map (λ w. typing w (and_caps y.type cs y.caps) (conj left y.tree (at w m))) (rule.and_type t y.type)) b k (λ y f.
      mapped (λ w. Keeps q s w (and_caps y.type cs y.caps) (and_out o p) (and_out (eval left q s) (eval y.tree q s))) (Promise (and_out o p))
      (λ w. typing w (and_caps y.type cs y.caps) (conj left y.tree (at w m))) (rule.and_type t y.type)
      (and_keeps q s t y.type cs y.caps o (eval left q s) p (eval y.tree q s) h f) (λ w j. j))

  and_some : (t : Ty) (m : Mark (Unit {0})) (cs : List Capability) (left : Typed) (o p : Outcome) (b : Option Typing) → Keeps q s t cs o (eval left q s) → IfSome b (λ y. AllHold q s cs → Promise p y) → IfSome (and_typing t cs left m b) (Promise (and_out o p))
  and_some false_type m cs left o p b h k = and_false_keeps q s cs o (eval left q s) p (Value (truth true)) h
  and_some t m cs left o p b h k = and_rest t m cs left o p b h k

  or_rest : (t : Ty) (m : Mark (Unit {0})) (cs : List Capability) (left : Typed) (o p : Outcome) (b : Option Typing) → Keeps q s t cs o (eval left q s) → IfSome b (Promise p) →
      IfSome (option_and_then (λ y. option_map (λ w. typing w (or_caps t y.type cs y.caps) (disj left y.tree (at w m))) (rule.or_type t y.type)) b) (Promise (or_out o p))
  or_rest t m cs left o p b h k =
      when_some (Promise p) (Promise (or_out o p)) (λ y. option_map (λ w. typing w (or_caps t y.type cs y.caps) (disj left y.tree (at w m))) (rule.or_type t y.type)) b k (λ y f.
      mapped (λ w. Keeps q s w (or_caps t y.type cs y.caps) (or_out o p) (or_out (eval left q s) (eval y.tree q s))) (Promise (or_out o p))
      (λ w. typing w (or_caps t y.type cs y.caps) (disj left y.tree (at w m))) (rule.or_type t y.type)
      (or_keeps q s t y.type cs y.caps o (eval left q s) p (eval y.tree q s) h f) (λ w j. j))

  or_some : (t : Ty) (m : Mark (Unit {0})) (cs : List Capability) (left : Typed) (o p : Outcome) (b : Option Typing) → Keeps q s t cs o (eval left q s) → IfSome b (Promise p) → IfSome (or_typing t cs left m b) (Promise (or_out o p))
  or_some true_type m cs left o p b h k = or_true_keeps q s cs o (eval left q s) p (Value (truth true)) h
  or_some t m cs left o p b h k = or_rest t m cs left o p b h k

  -- operators of two operands
  two_some : (op : BinaryOp) (x y : Plain) (m : Mark (Unit {0})) (a b : Typing) → Promise (eval x q s) a → Promise (eval y q s) b → (w : Option Ty) → IfSome w (λ t. IsOfType t (two (eval x q s) (eval y q s) (λ v u. binary_value op v u s))) →
      IfSome (option_map (λ t. typing t [] (binary op a.tree b.tree (at t m))) w) (Promise (eval (binary op x y m) q s))
  two_some op x y m a b f i w r =
      op_some (two (eval x q s) (eval y q s) (λ v u. binary_value op v u s)) (two (eval a.tree q s) (eval b.tree q s) (λ v u. binary_value op v u s)) w (λ t. binary op a.tree b.tree (at t m)) r
      (λ j. two (f.same j) (i.same j) (λ v u. binary_value op v u s)) (λ t. refl)

  has_tag_some : (x y : Plain) (m : Mark (Unit {0})) (a b : Typing) → Promise (eval x q s) a → Promise (eval y q s) b → IsKept a.type →
      IfSome (option_map (λ t. typing t (tag_known x y ∷ []) (binary HasTag a.tree b.tree (at t m))) (rule.has_tag_type schema a.type b.type)) (Promise (eval (binary HasTag x y m) q s))
  has_tag_some x y m a b f i c =
      mapped (λ t. IsOfType t (two (eval x q s) (eval y q s) (λ v u. has_tag_value v u s)) × (t ≡ true_type → ⊥)) (Promise (eval (binary HasTag x y m) q s)) (λ t. typing t (tag_known x y ∷ []) (binary HasTag a.tree b.tree (at t m))) (rule.has_tag_type schema a.type b.type)
      (both_some (λ t. IsOfType t (two (eval x q s) (eval y q s) (λ v u. has_tag_value v u s))) (λ t. t ≡ true_type → ⊥) (λ t. IsOfType t (two (eval x q s) (eval y q s) (λ v u. has_tag_value v u s)) × (t ≡ true_type → ⊥)) (rule.has_tag_type schema a.type b.type)
      (has_tag_of_type schema ok s stored a.type b.type (eval x q s) (eval y q s) c f.value i.value) (tag_not_true schema a.type b.type) (λ t v n. (v, n)))
      (λ t r. record {
        value = r.0;
        same = λ j. two (f.same j) (i.same j) (λ v u. has_tag_value v u s);
        if_true = λ e. (has_tag_then s (eval x q s) (eval y q s) e, tt);
        always = λ e. absurd (r.1 e);
      })

  binary_some : (op : BinaryOp) (x y : Plain) (m : Mark (Unit {0})) (known : Bool) → (known ≡ true → holds.HasTag s (eval x q s) (eval y q s)) → (a b : Typing) → Promise (eval x q s) a → IsKept a.type → Promise (eval y q s) b →
      IfSome (option_map (λ t. typing t (binary_caps op x y) (binary op a.tree b.tree (at t m))) (rule.binary_type schema (declared_action env) op known x y a.type b.type)) (Promise (eval (binary op x y m) q s))
  binary_some Eq x y m known k a b f c i =
      two_some Eq x y m a b f i (rule.equal_type (known_id (declared_action env) x) (known_id (declared_action env) y) a.type b.type)
      (equal_of_type (known_id (declared_action env) x) (known_id (declared_action env) y) a.type b.type (eval x q s) (eval y q s) f.value i.value (known_is schema ok s stored env q whole of x) (known_is schema ok s stored env q whole of y))
  binary_some Less x y m known k a b f c i = two_some Less x y m a b f i (rule.order_type a.type b.type) (order_of int_lt a.type b.type (eval x q s) (eval y q s) f.value i.value)
  binary_some LessEq x y m known k a b f c i = two_some LessEq x y m a b f i (rule.order_type a.type b.type) (order_of int_le a.type b.type (eval x q s) (eval y q s) f.value i.value)
  binary_some Add x y m known k a b f c i = two_some Add x y m a b f i (rule.sum_type a.type b.type) (sum_of (λ m n. m +ℤ n) a.type b.type (eval x q s) (eval y q s) f.value i.value)
  binary_some Sub x y m known k a b f c i = two_some Sub x y m a b f i (rule.sum_type a.type b.type) (sum_of (λ m n. m -ℤ n) a.type b.type (eval x q s) (eval y q s) f.value i.value)
  binary_some Mul x y m known k a b f c i = two_some Mul x y m a b f i (rule.sum_type a.type b.type) (sum_of (λ m n. m *ℤ n) a.type b.type (eval x q s) (eval y q s) f.value i.value)
  binary_some In x y m known k a b f c i = two_some In x y m a b f i (rule.in_type schema (declared_action env) x y a.type b.type) (in_of_type schema ok s stored env q whole of x y a.type b.type f.value i.value)
  binary_some Contains x y m known k a b f c i = two_some Contains x y m a b f i (rule.contains_type a.type b.type) (contains_of a.type b.type (eval x q s) (eval y q s) f.value i.value)
  binary_some ContainsAll x y m known k a b f c i = two_some ContainsAll x y m a b f i (rule.contains_sets_type a.type b.type) (contains_all_of a.type b.type (eval x q s) (eval y q s) f.value i.value)
  binary_some ContainsAny x y m known k a b f c i = two_some ContainsAny x y m a b f i (rule.contains_sets_type a.type b.type) (contains_any_of a.type b.type (eval x q s) (eval y q s) f.value i.value)
  binary_some GetTag x y m known k a b f c i = two_some GetTag x y m a b f i (rule.get_tag_type schema known a.type b.type) (get_tag_of_type schema ok s stored a.type b.type (eval x q s) (eval y q s) known f.value i.value k)
  binary_some HasTag x y m known k a b f c i = has_tag_some x y m a b f i c

  -- `has`
  has_some : (x : Plain) (n : List ℕ) (m : Mark (Unit {0})) (known : Bool) → (known ≡ true → HasAttribute n s (eval x q s)) → (a : Typing) → Promise (eval x q s) a → IsKept a.type →
      IfSome (option_map (λ t. typing t (has_caps (is_some (rule.attribute_of schema a.type n)) x n) (has a.tree n (at t m))) (rule.has_type schema known a.type n)) (Promise (eval (has x n m) q s))
  has_some x n m known k a f c =
      mapped (λ t. IsOfType t (with_value (eval x q s) (λ v. has_value v n s))) (Promise (eval (has x n m) q s)) (λ t. typing t (has_caps (is_some (rule.attribute_of schema a.type n)) x n) (has a.tree n (at t m))) (rule.has_type schema known a.type n)
      (has_of_type schema ok s stored a.type (eval x q s) n known c f.value k) (λ t v. record {
        value = v;
        same = ap (λ o. with_value o (λ v. has_value v n s)) f.same;
        if_true = λ e. has_caps_hold q s (is_some (rule.attribute_of schema a.type n)) x n (has_then s n (eval x q s) e);
        always = λ e. has_caps_hold q s (is_some (rule.attribute_of schema a.type n)) x n (has_always s n (eval x q s) (subst (λ u. IsOfType u (with_value (eval x q s) (λ v. has_value v n s))) e v));
      })

  -- what is promised of an operand, with its type kept
  abbrev Operand : Plain → Typing → Type 0
  Operand x a = Promise (eval x q s) a × IsKept a.type

  operand : (cs : List Capability) (x : Plain) → IfSome (g cs x) (Promise (eval x q s)) → IfSome (g cs x) (Operand x)
  operand cs x h = both_some (Promise (eval x q s)) (λ a. IsKept a.type) (Operand x) (g cs x) h (kept cs x) (λ a f c. (f, c))

  -- several operands
  abbrev AllPromised : Trees (Mark (Unit {0})) → List Typing → Type 0
  AllPromised xs ys = AreOf (types_in ys) (eval_all xs q s) × (eval_all (trees_in ys) q s ≡ eval_all xs q s)

  abbrev NamedPromised : Named (Mark (Unit {0})) → List (List ℕ × Typing) → Type 0
  NamedPromised xs ys = AreFieldsOf ys (eval_named xs q s) × (eval_named (named_in ys) q s ≡ eval_named xs q s) × AreNew ys

  new_in : (cs : List Capability) (k : List ℕ) (xs : Named (Mark (Unit {0}))) → IsFresh k xs → IfSome (types_named schema (declared_action env) cs xs) (IsNew k)
  new_in cs k no_named h = tt
  new_in cs k (named l x xs) h = by (g cs x) (types_named schema (declared_action env) cs xs) (new_in cs k xs h.1)
    where
      by : (a : Option Typing) (o : Option (List (List ℕ × Typing))) → IfSome o (IsNew k) → IfSome (option_and_then (λ a. option_map (λ ys. (l, a) ∷ ys) o) a) (IsNew k)
      by None o i = tt
      by (Some a) None i = tt
      by (Some a) (Some ys) i = (h.0, i)

  mutual
    sound : (cs : List Capability) → AllHold q s cs → (e : Plain) → IsComplete e → IfSome (types schema (declared_action env) cs e) (Fulfils q s (eval e q s))
    sound cs h (lit l m) c = op_some (Value (literal_value l)) (Value (literal_value l)) (type_of_literal schema l) (λ t. lit l (at t m)) (literal_of l) refl (λ t. refl)
    sound cs h (var v m) c = op_some (Value (variable_value v q)) (Value (variable_value v q)) (type_of_variable schema (declared_action env) v) (λ t. var v (at t m)) (variable_of v) refl (λ t. refl)
    sound cs h (slot i m) c = absurd c
    sound cs h (ite x y z m) c =
        when_some (Promise (eval x q s)) (Promise (if_out (eval x q s) (eval y q s) (eval z q s))) (λ a. if_typing a.type a.caps a.tree m (g (cs ++ a.caps) y) (g cs z)) (g cs x) (sound cs h x c.0) (λ a f.
        if_some a.type m a.caps a.tree (eval x q s) (eval y q s) (eval z q s) (g (cs ++ a.caps) y) (g cs z) f
        (later (AllHold q s a.caps) (Promise (eval y q s)) (g (cs ++ a.caps) y) (λ i. sound (cs ++ a.caps) (all_append q s cs a.caps h i) y c.1))
        (sound cs h z c.2) (kept (cs ++ a.caps) y) (kept cs z))
    sound cs h (conj x y m) c =
        when_some (Promise (eval x q s)) (Promise (and_out (eval x q s) (eval y q s))) (λ a. and_typing a.type a.caps a.tree m (g (cs ++ a.caps) y)) (g cs x) (sound cs h x c.0) (λ a f.
        and_some a.type m a.caps a.tree (eval x q s) (eval y q s) (g (cs ++ a.caps) y) f
        (later (AllHold q s a.caps) (Promise (eval y q s)) (g (cs ++ a.caps) y) (λ i. sound (cs ++ a.caps) (all_append q s cs a.caps h i) y c.1)))
    sound cs h (disj x y m) c =
        when_some (Promise (eval x q s)) (Promise (or_out (eval x q s) (eval y q s))) (λ a. or_typing a.type a.caps a.tree m (g cs y)) (g cs x) (sound cs h x c.0) (λ a f.
        or_some a.type m a.caps a.tree (eval x q s) (eval y q s) (g cs y) f (sound cs h y c.1))
    sound cs h (unary o x m) c =
        when_some (Promise (eval x q s)) (Promise (eval (unary o x m) q s)) (λ a. option_map (λ t. typing t [] (unary o a.tree (at t m))) (rule.unary_type o a.type)) (g cs x) (sound cs h x c) (λ a f.
        op_some (with_value (eval x q s) (unary_value o)) (with_value (eval a.tree q s) (unary_value o)) (rule.unary_type o a.type) (λ t. unary o a.tree (at t m)) (unary_of o a.type (eval x q s) f.value) (ap (λ r. with_value r (unary_value o)) f.same) (λ t. refl))
    sound cs h (binary o x y m) c =
        when_some (Operand x) (Promise (eval (binary o x y m) q s))
        (λ a. option_and_then (λ b. option_map (λ t. typing t (binary_caps o x y) (binary o a.tree b.tree (at t m))) (rule.binary_type schema (declared_action env) o (has_cap cs (tag_known x y)) x y a.type b.type)) (g cs y)) (g cs x) (operand cs x (sound cs h x c.0)) (λ a f.
        when_some (Promise (eval y q s)) (Promise (eval (binary o x y m) q s))
        (λ b. option_map (λ t. typing t (binary_caps o x y) (binary o a.tree b.tree (at t m))) (rule.binary_type schema (declared_action env) o (has_cap cs (tag_known x y)) x y a.type b.type)) (g cs y) (sound cs h y c.1) (λ b i.
        binary_some o x y m (has_cap cs (tag_known x y)) (known_holds q s cs (tag_known x y) h) a b f.0 f.1 i))
    sound cs h (attr x n m) c =
        when_some (Operand x) (Promise (eval (attr x n m) q s)) (λ a. option_map (λ t. typing t [] (attr a.tree n (at t m))) (rule.attr_type schema (has_cap cs (attribute_known x n)) a.type n)) (g cs x) (operand cs x (sound cs h x c)) (λ a f.
        op_some (with_value (eval x q s) (λ v. attr_value v n s)) (with_value (eval a.tree q s) (λ v. attr_value v n s)) (rule.attr_type schema (has_cap cs (attribute_known x n)) a.type n) (λ t. attr a.tree n (at t m))
        (attr_of_type schema ok s stored a.type (eval x q s) n (has_cap cs (attribute_known x n)) f.1 f.0.value (known_holds q s cs (attribute_known x n) h)) (ap (λ r. with_value r (λ v. attr_value v n s)) f.0.same) (λ t. refl))
    sound cs h (has x n m) c =
        when_some (Operand x) (Promise (eval (has x n m) q s)) (λ a. option_map (λ t. typing t (has_caps (is_some (rule.attribute_of schema a.type n)) x n) (has a.tree n (at t m))) (rule.has_type schema (has_cap cs (attribute_known x n)) a.type n)) (g cs x) (operand cs x (sound cs h x c)) (λ a f.
        has_some x n m (has_cap cs (attribute_known x n)) (known_holds q s cs (attribute_known x n) h) a f.0 f.1)
    sound cs h (like x p m) c =
        when_some (Promise (eval x q s)) (Promise (eval (like x p m) q s)) (λ a. option_map (λ t. typing t [] (like a.tree p (at t m))) (rule.like_type a.type)) (g cs x) (sound cs h x c) (λ a f.
        op_some (with_value (eval x q s) (λ v. like_value v p)) (with_value (eval a.tree q s) (λ v. like_value v p)) (rule.like_type a.type) (λ t. like a.tree p (at t m)) (like_of a.type (eval x q s) p f.value) (ap (λ r. with_value r (λ v. like_value v p)) f.same) (λ t. refl))
    sound cs h (is_type x n m) c =
        when_some (Promise (eval x q s)) (Promise (eval (is_type x n m) q s)) (λ a. option_map (λ t. typing t [] (is_type a.tree n (at t m))) (rule.is_type a.type n)) (g cs x) (sound cs h x c) (λ a f.
        op_some (with_value (eval x q s) (λ v. is_value v n)) (with_value (eval a.tree q s) (λ v. is_value v n)) (rule.is_type a.type n) (λ t. is_type a.tree n (at t m)) (is_of a.type n (eval x q s) f.value) (ap (λ r. with_value r (λ v. is_value v n)) f.same) (λ t. refl))
    sound cs h (call f xs m) c =
        when_some (AllPromised xs) (Promise (eval (call f xs m) q s)) (λ ys. option_map (λ t. typing t [] (call f (trees_in ys) (at t m))) (call_type (function_of f) xs (types_in ys))) (types_all schema (declared_action env) cs xs) (sound_all cs h xs c) (λ ys k.
        op_some (call_outcome f (eval_all xs q s)) (call_outcome f (eval_all (trees_in ys) q s)) (call_type (function_of f) xs (types_in ys)) (λ t. call f (trees_in ys) (at t m)) (call_of_type q s f xs (types_in ys) k.0) (ap (call_outcome f) k.1) (λ t. refl))
    sound cs h (set xs m) c =
        when_some (λ ys. AllPromised xs ys × AllKept (types_in ys)) (Promise (eval (set xs m) q s)) (λ ys. option_map (λ t. typing t [] (set (trees_in ys) (at t m))) (rule.set_type (types_in ys))) (types_all schema (declared_action env) cs xs)
        (both_some (AllPromised xs) (λ ys. AllKept (types_in ys)) (λ ys. AllPromised xs ys × AllKept (types_in ys)) (types_all schema (declared_action env) cs xs) (sound_all cs h xs c) (all_kept schema ok env context cs xs) (λ ys k i. (k, i))) (λ ys k.
        op_some (set_outcome (eval_all xs q s)) (set_outcome (eval_all (trees_in ys) q s)) (rule.set_type (types_in ys)) (λ t. set (trees_in ys) (at t m)) (set_of_type (types_in ys) (eval_all xs q s) k.1 k.0.0) (ap set_outcome k.0.1) (λ t. refl))
    sound cs h (rec xs m) c =
        mapped (NamedPromised xs) (Promise (eval (rec xs m) q s)) (λ ys. typing (record_type ys) [] (rec (named_in ys) (at (record_type ys) m))) (types_named schema (declared_action env) cs xs) (sound_named cs h xs c) (λ ys k.
        plain_keeps q s (record_type ys) (record_outcome (eval_named xs q s)) (record_outcome (eval_named (named_in ys) q s)) (record_of_type ys (eval_named xs q s) k.2 k.0) (ap record_outcome k.1))

    sound_all : (cs : List Capability) → AllHold q s cs → (xs : Trees (Mark (Unit {0}))) → AreComplete xs → IfSome (types_all schema (declared_action env) cs xs) (AllPromised xs)
    sound_all cs h no_trees c = (tt, refl)
    sound_all cs h (tree x xs) c =
        when_some (Promise (eval x q s)) (AllPromised (tree x xs)) (λ a. option_map (λ ys. a ∷ ys) (types_all schema (declared_action env) cs xs)) (g cs x) (sound cs h x c.0) (λ a f.
        mapped (AllPromised xs) (AllPromised (tree x xs)) (λ ys. a ∷ ys) (types_all schema (declared_action env) cs xs) (sound_all cs h xs c.1) (λ ys k.
        (prefix_of a.type (types_in ys) (eval x q s) (eval_all xs q s) f.value k.0, λ j. in_prefix (λ v. v) (f.same j) (k.1 j))))

    sound_named : (cs : List Capability) → AllHold q s cs → (xs : Named (Mark (Unit {0}))) → AreCompleteNamed xs → IfSome (types_named schema (declared_action env) cs xs) (NamedPromised xs)
    sound_named cs h no_named c = (tt, refl, tt)
    sound_named cs h (named l x xs) c =
        when_some (Promise (eval x q s)) (NamedPromised (named l x xs)) (λ a. option_map (λ ys. (l, a) ∷ ys) (types_named schema (declared_action env) cs xs)) (g cs x) (sound cs h x c.0) (λ a f.
        mapped (λ ys. NamedPromised xs ys × IsNew l ys) (NamedPromised (named l x xs)) (λ ys. (l, a) ∷ ys) (types_named schema (declared_action env) cs xs)
        (both_some (NamedPromised xs) (IsNew l) (λ ys. NamedPromised xs ys × IsNew l ys) (types_named schema (declared_action env) cs xs) (sound_named cs h xs c.2) (new_in cs l xs c.1) (λ ys k n. (k, n))) (λ ys k.
        (prefix_field l a ys (eval x q s) (eval_named xs q s) f.value k.0.0, (λ j. in_prefix (λ v. (l, v)) (f.same j) (k.0.1 j)), (k.1, k.0.2))))

pub typing_is_sound : TypingIsSound
typing_is_sound schema ok env q whole of s stored cs h e n k = sound schema ok env q whole of s stored cs h e (complete e n k)
