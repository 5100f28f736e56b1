-- Each type that an expression has is kept.
use Rattle.std.proofs.Common.{◌≡◌, ℕ, Bool, true, false, not, ◌&&◌, ◌||◌, List, [], ◌∷◌, ◌++◌, Option, Some, None, is_some, IsTrue, refl, sym, subst, IfSome}
use Rattle.std.specs.Prelude.{if◌then◌else◌, option_map}
use Rattle.std.specs.List.{list_all, list_any}
use Rattle.std.specs.Option.{option_and_then, option_map_or}
use Rattle.policy_values.specs.Basename.{is_action_type}
use Rattle.policy_values.specs.declared.entity_uid.EntityUID.{EntityUID}
use Rattle.schema_types.specs.declared.kinds.Primitive.TheVariants.{Bool as BoolType, Long, String}
use Rattle.schema_types.specs.declared.ty.AttributeType.{AttributeType}
use Rattle.schema_types.specs.Attrs.{attr_at}
use Rattle.schema_types.specs.Names.{has_name}
use Rattle.schema_types.specs.Ty.{Ty, true_type, false_type, primitive, set_of, record_of, entity, action, Attrs, no_attrs, attr}
use Rattle.schema_core.specs.EnvData.{LinkedEnvironment, declared_action, literal_type, id_type}
use Rattle.schema_core.specs.Faults.{IsSchema}
use Rattle.schema_core.specs.Schema.{TypeData, ActionData, SchemaData, type_at, action_at}
use Rattle.type_relations.specs.Attributes.{or_none, names_of, may_have}
use Rattle.type_relations.specs.Join.{is_entity, is_record, text_eq}
use Rattle.policy_expressions.specs.declared.functions.UnaryFunction.TheVariants as unary_function
use Rattle.policy_expressions.specs.declared.functions.BinaryFunction.TheVariants as binary_function
use Rattle.policy_expressions.specs.declared.functions.ExtensionFunction.{ExtensionFunction}
use Rattle.policy_expressions.specs.declared.functions.ExtensionFunction.TheVariants.{Unary, Binary}
use Rattle.policy_expressions.specs.declared.kinds.Literal.{Literal}
use Rattle.policy_expressions.specs.declared.kinds.Literal.TheVariants as literal
use Rattle.policy_expressions.specs.declared.kinds.SlotId.{SlotId}
use Rattle.policy_expressions.specs.declared.kinds.SlotId.TheVariants as slot_id
use Rattle.policy_expressions.specs.declared.kinds.Var.{Var}
use Rattle.policy_expressions.specs.declared.kinds.Var.TheVariants.{Principal, Action, Resource, Context}
use Rattle.policy_expressions.specs.declared.kinds.UnaryOp.{UnaryOp}
use Rattle.policy_expressions.specs.declared.kinds.UnaryOp.TheVariants.{Not, Neg, IsEmpty}
use Rattle.policy_expressions.specs.declared.kinds.BinaryOp.{BinaryOp}
use Rattle.policy_expressions.specs.declared.kinds.BinaryOp.TheVariants.{Eq, Less, LessEq, Add, Sub, Mul, In, Contains, ContainsAll, ContainsAny, GetTag, HasTag}
use Rattle.policy_expressions.specs.Functions.{function_of}
use Rattle.policy_expressions.specs.Tree.{lit, var, slot, ite, conj, disj, unary, binary, attr as get, has, like, is_type, call, set, rec, Trees, no_trees, tree, Named, no_named, named, Mark}
use Rattle.policy_expressions.specs.Plain.{Plain}
use Rattle.typing_spec.specs.Capability.{Capability, has_cap, common}
use Rattle.schema_core.specs.Within.{is_type_within}
use Rattle.typing_spec.specs.Environment.{truth_type, type_of_literal, type_of_variable, slot_entity, type_of_slot, declared_attributes, known_id, listed_ids}
use Rattle.typing_spec.specs.Rules as rule
use Rattle.typing_spec.specs.Signatures.{bool_type, long_type, datetime_type, duration_type, same_type, signature_of, has_count, has_literals, has_readable, same_types, call_type}
use Rattle.typing_spec.specs.Typing.{Typed, Typing, typing, at, unreached, attribute_known, tag_known, if_typing, and_caps, and_typing, or_caps, or_typing, binary_caps, has_caps, types_in, trees_in, record_type, named_in, types, types_all, types_named}
use Rattle.typing_spec.proofs.Basics.{when_some, mapped}
use Rattle.typing_spec.proofs.Kept.{IsKept, AreKept, AllKept, IsSetOf, join_kept, set_above}
use Rattle.typing_spec.proofs.Stored.{declared_kept, declared_tags_kept, action_is_one}

abbrev Keeps : Typing → Type 0
Keeps x = IsKept x.type

kept_test : (b : Bool) → IfSome (rule.bool_if b) IsKept
kept_test true = tt
kept_test false = tt

kept_possible : (b : Bool) → IsKept (rule.possible b)
kept_possible true = tt
kept_possible false = tt

kept_truth : (b : Bool) → IsKept (truth_type b)
kept_truth true = tt
kept_truth false = tt

kept_and : (t u : Ty) → IfSome (rule.and_type t u) IsKept
kept_and true_type true_type = tt
kept_and true_type false_type = tt
kept_and true_type (primitive BoolType) = tt
kept_and (primitive BoolType) true_type = tt
kept_and (primitive BoolType) false_type = tt
kept_and (primitive BoolType) (primitive BoolType) = tt
kept_and t u = tt

kept_or : (t u : Ty) → IfSome (rule.or_type t u) IsKept
kept_or false_type true_type = tt
kept_or false_type false_type = tt
kept_or false_type (primitive BoolType) = tt
kept_or (primitive BoolType) true_type = tt
kept_or (primitive BoolType) false_type = tt
kept_or (primitive BoolType) (primitive BoolType) = tt
kept_or t u = tt

kept_unary : (o : UnaryOp) (t : Ty) → IfSome (rule.unary_type o t) IsKept
kept_unary Not true_type = tt
kept_unary Not false_type = tt
kept_unary Not (primitive BoolType) = tt
kept_unary Neg (primitive Long) = tt
kept_unary IsEmpty t = kept_test (rule.is_set t)
kept_unary o t = tt

kept_sum : (t u : Ty) → IfSome (rule.sum_type t u) IsKept
kept_sum (primitive Long) (primitive Long) = tt
kept_sum t u = tt

kept_contains : (t u : Ty) → IfSome (rule.contains_type t u) IsKept
kept_contains (set_of t) u = kept_test (is_some (rule.strict_join t u))
kept_contains t u = tt

kept_equal : (x y : Option EntityUID) (t u : Ty) → IfSome (rule.equal_type x y t u) IsKept
kept_equal x y t u = by (rule.are_disjoint t u) (rule.are_one x y)
  where
    by : (b : Bool) (k : Option Bool) → IfSome (if b then Some false_type else option_map_or (λ c. Some (truth_type c)) k (rule.bool_if (is_some (rule.strict_join t u)))) IsKept
    by true k = tt
    by false (Some c) = kept_truth c
    by false None = kept_test (is_some (rule.strict_join t u))

kept_is : (t : Ty) (n : List ℕ) → IfSome (rule.is_type t n) IsKept
kept_is t n = by (is_entity t) (names_of t)
  where
    one : (ns : List (List ℕ)) → IsKept (rule.is_one_of ns n)
    one ns = at (has_name ns n) (list_all (text_eq n) ns)
      where
        at : (b c : Bool) → IsKept (if not b then false_type else (if c then true_type else bool_type))
        at false c = tt
        at true true = tt
        at true false = tt

    by : (b : Bool) (o : Option (List (List ℕ))) → IfSome (if b then Some (option_map_or (λ ns. rule.is_one_of ns n) o bool_type) else None) IsKept
    by false o = tt
    by true None = tt
    by true (Some ns) = one ns

kept_set : (ts : List Ty) → AllKept ts → IfSome (rule.set_type ts) IsKept
kept_set ts h = by (rule.set_type ts) (set_above ts h)
  where
    by : (o : Option Ty) → IfSome o (IsSetOf ts) → IfSome o IsKept
    by None h = tt
    by (Some w) h = subst IsKept (sym h.is) h.kept

kept_signature : (f : ExtensionFunction) → IsKept (signature_of f).result
kept_signature (Unary unary_function.Decimal) = tt
kept_signature (Unary unary_function.Ip) = tt
kept_signature (Unary unary_function.Datetime) = tt
kept_signature (Unary unary_function.Duration) = tt
kept_signature (Unary unary_function.IsIpv4) = tt
kept_signature (Unary unary_function.IsIpv6) = tt
kept_signature (Unary unary_function.IsLoopback) = tt
kept_signature (Unary unary_function.IsMulticast) = tt
kept_signature (Unary unary_function.ToDate) = tt
kept_signature (Unary unary_function.ToTime) = tt
kept_signature (Unary unary_function.ToMilliseconds) = tt
kept_signature (Unary unary_function.ToSeconds) = tt
kept_signature (Unary unary_function.ToMinutes) = tt
kept_signature (Unary unary_function.ToHours) = tt
kept_signature (Unary unary_function.ToDays) = tt
kept_signature (Binary binary_function.LessThan) = tt
kept_signature (Binary binary_function.LessThanOrEqual) = tt
kept_signature (Binary binary_function.GreaterThan) = tt
kept_signature (Binary binary_function.GreaterThanOrEqual) = tt
kept_signature (Binary binary_function.IsInRange) = tt
kept_signature (Binary binary_function.Offset) = tt
kept_signature (Binary binary_function.DurationSince) = tt

kept_call : (f : Option ExtensionFunction) (xs : Trees (Mark (Unit {0}))) (ts : List Ty) → IfSome (call_type f xs ts) IsKept
kept_call None xs ts = tt
kept_call (Some f) xs ts = by ((has_count f xs && (has_literals f xs && has_readable f xs)) && same_types ts (signature_of f).arguments)
  where
    by : (b : Bool) → IfSome (if b then Some (signature_of f).result else None) IsKept
    by true = kept_signature f
    by false = tt

found_kept : (xs : Attrs) (k : List ℕ) → AreKept xs → IfSome (attr_at xs k) (λ a. IsKept a.attr_type)
found_kept no_attrs k h = tt
found_kept (attr l t q xs) k h = by (text_eq k l) (found_kept xs k h.1)
  where
    by : (b : Bool) → IfSome (attr_at xs k) (λ a. IsKept a.attr_type) → IfSome (if b then Some (record { attr_type = t; is_required = q }) else attr_at xs k) (λ a. IsKept a.attr_type)
    by true rest = h.0
    by false rest = rest

kept_safe : (known : Bool) (a : AttributeType) → IsKept a.attr_type → IfSome (rule.safe_type known a) IsKept
kept_safe known a h = by (a.is_required || known)
  where
    by : (b : Bool) → IfSome (if b then Some a.attr_type else None) IsKept
    by true = h
    by false = tt

kept_safe_in : (known : Bool) (xs : Attrs) (k : List ℕ) → AreKept xs → IfSome (option_and_then (rule.safe_type known) (attr_at xs k)) IsKept
kept_safe_in known xs k h = when_some (λ a. IsKept a.attr_type) IsKept (rule.safe_type known) (attr_at xs k) (found_kept xs k h) (λ a i. kept_safe known a i)

kept_declared : (known : Bool) (t : Ty) (a : AttributeType) → IsKept (rule.declared_has known t a)
kept_declared known t a = by (known || (a.is_required && is_record t))
  where
    by : (b : Bool) → IsKept (if b then true_type else bool_type)
    by true = tt
    by false = tt

kept_slot : (o : Option (List ℕ)) → IsKept (slot_entity o)
kept_slot None = tt
kept_slot (Some n) = refl

module _ (schema : SchemaData) (ok : IsSchema schema) where
  kept_id : (u : EntityUID) → IfSome (literal_type schema u) IsKept
  kept_id u = by (action_at schema u) (type_at schema u.entity_type) (action_is_one schema ok u)
    where
      by : (a : Option ActionData) (t : Option TypeData) → (is_some a ≡ true → IsTrue (is_action_type u.entity_type)) → IfSome (id_type u a t) IsKept
      by (Some a) t h = (h refl, refl)
      by None (Some t) h = refl
      by None None h = tt

  kept_literal : (l : Literal) → IfSome (type_of_literal schema l) IsKept
  kept_literal (literal.Bool b) = kept_truth b
  kept_literal (literal.Long n) = tt
  kept_literal (literal.String t) = tt
  kept_literal (literal.EntityUID u) = kept_id u

  kept_attr : (known : Bool) (t : Ty) (k : List ℕ) → IsKept t → IfSome (rule.attr_type schema known t k) IsKept
  kept_attr known (record_of xs o) k h = kept_safe_in known xs k h
  kept_attr known (entity (n ∷ [])) k h = by (declared_attributes schema n) (declared_kept schema ok n)
    where
      by : (o : Option Attrs) → IfSome o AreKept → IfSome (option_and_then (rule.safe_type known) (attr_at (or_none o) k)) IsKept
      by None i = tt
      by (Some xs) i = kept_safe_in known xs k i
  kept_attr known (entity []) k h = tt
  kept_attr known (entity (n ∷ l ∷ ns)) k h = absurd (cc)
  kept_attr known (action n xs) k h = subst (λ ys. IfSome (rule.attr_type schema known (action n ys) k) IsKept) (sym h.1) tt
  kept_attr known t k h = tt

  kept_has : (known : Bool) (t : Ty) (k : List ℕ) → IfSome (rule.has_type schema known t k) IsKept
  kept_has known t k = by (is_entity t || is_record t) (rule.attribute_of schema t k) (may_have (declared_attributes schema) t k)
    where
      by : (b : Bool) (o : Option AttributeType) (m : Bool) → IfSome (if b then Some (option_map_or (rule.declared_has known t) o (rule.possible m)) else None) IsKept
      by false o m = tt
      by true (Some a) m = kept_declared known t a
      by true None m = kept_possible m

  kept_tag : (t : Ty) → IfSome (rule.tag_type schema t) IsKept
  kept_tag (entity (n ∷ [])) = declared_tags_kept schema ok n
  kept_tag (entity []) = tt
  kept_tag (entity (n ∷ l ∷ ns)) = tt
  kept_tag t = tt

  kept_get_tag : (known : Bool) (t u : Ty) → IfSome (rule.get_tag_type schema known t u) IsKept
  kept_get_tag known t u = by ((is_entity t && rule.is_string u) && known)
    where
      by : (b : Bool) → IfSome (if b then rule.tag_type schema t else None) IsKept
      by true = kept_tag t
      by false = tt

  kept_has_tag : (t u : Ty) → IfSome (rule.has_tag_type schema t u) IsKept
  kept_has_tag t u = by (is_entity t && rule.is_string u)
    where
      by : (b : Bool) → IfSome (if b then Some (rule.possible (rule.may_have_tags schema t)) else None) IsKept
      by true = kept_possible (rule.may_have_tags schema t)
      by false = tt

  module _ (env : LinkedEnvironment) (context : AreKept env.context) where
    kept_in_listed : (x : Plain) (us : List EntityUID) → IsKept (rule.in_listed schema (declared_action env) x us)
    kept_in_listed (var Principal a) us = kept_possible (list_any (λ u. is_type_within schema env.environment.principal u.entity_type) us)
    kept_in_listed (var Resource a) us = kept_possible (list_any (λ u. is_type_within schema env.environment.resource u.entity_type) us)
    kept_in_listed (var Action a) us = kept_possible (if is_action_type env.environment.action.entity_type then rule.action_among schema env.environment.action us else rule.entity_among schema env.environment.action us)
    kept_in_listed (lit (literal.EntityUID u) a) us = kept_possible (if is_action_type u.entity_type then rule.action_among schema u us else rule.entity_among schema u us)
    kept_in_listed (lit (literal.Bool b) a) us = tt
    kept_in_listed (lit (literal.Long b) a) us = tt
    kept_in_listed (lit (literal.String b) a) us = tt
    kept_in_listed (var Context a) us = tt
    kept_in_listed x us = tt

    kept_in : (x y : Plain) (t u : Ty) → IfSome (rule.in_type schema (declared_action env) x y t u) IsKept
    kept_in x y t u = by (is_entity t && (is_entity u || rule.is_entity_set u)) (listed_ids (declared_action env) y)
      where
        by : (b : Bool) (o : Option (List EntityUID)) → IfSome (if b then Some (option_map_or (rule.in_listed schema (declared_action env) x) o bool_type) else None) IsKept
        by false o = tt
        by true None = tt
        by true (Some us) = kept_in_listed x us

    kept_binary : (o : BinaryOp) (known : Bool) (x y : Plain) (t u : Ty) → IfSome (rule.binary_type schema (declared_action env) o known x y t u) IsKept
    kept_binary Eq known x y t u = kept_equal (known_id (declared_action env) x) (known_id (declared_action env) y) t u
    kept_binary Less known x y t u = kept_test (same_type t u && (same_type t long_type || (same_type t datetime_type || same_type t duration_type)))
    kept_binary LessEq known x y t u = kept_test (same_type t u && (same_type t long_type || (same_type t datetime_type || same_type t duration_type)))
    kept_binary Add known x y t u = kept_sum t u
    kept_binary Sub known x y t u = kept_sum t u
    kept_binary Mul known x y t u = kept_sum t u
    kept_binary In known x y t u = kept_in x y t u
    kept_binary Contains known x y t u = kept_contains t u
    kept_binary ContainsAll known x y t u = kept_test ((rule.is_set t && rule.is_set u) && is_some (rule.strict_join t u))
    kept_binary ContainsAny known x y t u = kept_test ((rule.is_set t && rule.is_set u) && is_some (rule.strict_join t u))
    kept_binary GetTag known x y t u = kept_get_tag known t u
    kept_binary HasTag known x y t u = kept_has_tag t u

    kept_variable : (v : Var) → IfSome (type_of_variable schema (declared_action env) v) IsKept
    kept_variable Principal = refl
    kept_variable Action = kept_id env.environment.action
    kept_variable Resource = refl
    kept_variable Context = context

    kept_slot_type : (i : SlotId) → IsKept (type_of_slot (declared_action env) i)
    kept_slot_type slot_id.Principal = kept_slot env.principal_slot
    kept_slot_type slot_id.Resource = kept_slot env.resource_slot

    kept_if : (t : Ty) (cs : List Capability) (x : Typed) (m : Mark (Unit {0})) (a b : Option Typing) → IfSome a Keeps → IfSome b Keeps → IfSome (if_typing t cs x m a b) Keeps
    kept_if true_type cs x m a b h k = mapped Keeps Keeps (λ y. typing y.type (y.caps ++ cs) (ite x y.tree unreached (at y.type m))) a h (λ y i. i)
    kept_if false_type cs x m a b h k = mapped Keeps Keeps (λ z. typing z.type z.caps (ite x unreached z.tree (at z.type m))) b k (λ z i. i)
    kept_if (primitive BoolType) cs x m a b h k =
        when_some Keeps Keeps (λ y. option_and_then (λ z. option_map (λ t. typing t (common z.caps (y.caps ++ cs)) (ite x y.tree z.tree (at t m))) (rule.strict_join y.type z.type)) b) a h (λ y i.
        when_some Keeps Keeps (λ z. option_map (λ t. typing t (common z.caps (y.caps ++ cs)) (ite x y.tree z.tree (at t m))) (rule.strict_join y.type z.type)) b k (λ z j.
        mapped IsKept Keeps (λ t. typing t (common z.caps (y.caps ++ cs)) (ite x y.tree z.tree (at t m))) (rule.strict_join y.type z.type) (join_kept y.type z.type i j) (λ w l. l)))
    kept_if (primitive Long) cs x m a b h k = tt
    kept_if (primitive String) cs x m a b h k = tt
    kept_if t cs x m a b h k = tt

    kept_and_rest : (t : Ty) (cs : List Capability) (x : Typed) (m : Mark (Unit {0})) (b : Option Typing) → IfSome (option_and_then (λ y. option_map (λ w. typing w (and_caps y.type cs y.caps) (conj x y.tree (at w m))) (rule.and_type t y.type)) b) Keeps
    kept_and_rest t cs x m None = tt
    kept_and_rest t cs x m (Some y) = mapped IsKept Keeps (λ w. typing w (and_caps y.type cs y.caps) (conj x y.tree (at w m))) (rule.and_type t y.type) (kept_and t y.type) (λ w l. l)

    kept_conj : (t : Ty) (cs : List Capability) (x : Typed) (m : Mark (Unit {0})) (b : Option Typing) → IfSome (and_typing t cs x m b) Keeps
    kept_conj false_type cs x m b = tt
    kept_conj t cs x m b = kept_and_rest t cs x m b

    kept_or_rest : (t : Ty) (cs : List Capability) (x : Typed) (m : Mark (Unit {0})) (b : Option Typing) → IfSome (option_and_then (λ y. option_map (λ w. typing w (or_caps t y.type cs y.caps) (disj x y.tree (at w m))) (rule.or_type t y.type)) b) Keeps
    kept_or_rest t cs x m None = tt
    kept_or_rest t cs x m (Some y) = mapped IsKept Keeps (λ w. typing w (or_caps t y.type cs y.caps) (disj x y.tree (at w m))) (rule.or_type t y.type) (kept_or t y.type) (λ w l. l)

    kept_disj : (t : Ty) (cs : List Capability) (x : Typed) (m : Mark (Unit {0})) (b : Option Typing) → IfSome (or_typing t cs x m b) Keeps
    kept_disj true_type cs x m b = tt
    kept_disj t cs x m b = kept_or_rest t cs x m b

    -- where the operand has a type at all
    kept_step : (f : Typing → Option Typing) (o : Option Typing) → IfSome o Keeps → ((x : Typing) → Keeps x → IfSome (f x) Keeps) → IfSome (option_and_then f o) Keeps
    kept_step f o h k = when_some Keeps Keeps f o h k

    kept_last : (f : Ty → Typing) (w : Option Ty) → IfSome w IsKept → ((t : Ty) → (f t).type ≡ t) → IfSome (option_map f w) Keeps
    kept_last f w h k = mapped IsKept Keeps f w h (λ t i. subst IsKept (sym (k t)) i)

    abbrev g : List Capability → Plain → Option Typing
    g = types schema (declared_action env)

    mutual
      pub types_kept : (cs : List Capability) (e : Plain) → IfSome (types schema (declared_action env) cs e) Keeps
      types_kept cs (lit l m) = kept_last (λ t. typing t [] (lit l (at t m))) (type_of_literal schema l) (kept_literal l) (λ t. refl)
      types_kept cs (var v m) = kept_last (λ t. typing t [] (var v (at t m))) (type_of_variable schema (declared_action env) v) (kept_variable v) (λ t. refl)
      types_kept cs (slot i m) = kept_slot_type i
      types_kept cs (ite x y z m) = kept_step (λ a. if_typing a.type a.caps a.tree m (g (cs ++ a.caps) y) (g cs z)) (g cs x) (types_kept cs x) (λ a h. kept_if a.type a.caps a.tree m (g (cs ++ a.caps) y) (g cs z) (types_kept (cs ++ a.caps) y) (types_kept cs z))
      types_kept cs (conj x y m) = kept_step (λ a. and_typing a.type a.caps a.tree m (g (cs ++ a.caps) y)) (g cs x) (types_kept cs x) (λ a h. kept_conj a.type a.caps a.tree m (g (cs ++ a.caps) y))
      types_kept cs (disj x y m) = kept_step (λ a. or_typing a.type a.caps a.tree m (g cs y)) (g cs x) (types_kept cs x) (λ a h. kept_disj a.type a.caps a.tree m (g cs y))
      types_kept cs (unary o x m) =
          kept_step (λ a. option_map (λ t. typing t [] (unary o a.tree (at t m))) (rule.unary_type o a.type)) (g cs x) (types_kept cs x) (λ a h.
          kept_last (λ t. typing t [] (unary o a.tree (at t m))) (rule.unary_type o a.type) (kept_unary o a.type) (λ t. refl))
      types_kept cs (binary o x y m) =
          kept_step (λ a. option_and_then (λ b. option_map (λ t. typing t (binary_caps o x y) (binary o a.tree b.tree (at t m))) (rule.binary_type schema (declared_action env) o (has_cap cs (tag_known x y)) x y a.type b.type)) (g cs y)) (g cs x) (types_kept cs x) (λ a h.
          kept_step (λ b. option_map (λ t. typing t (binary_caps o x y) (binary o a.tree b.tree (at t m))) (rule.binary_type schema (declared_action env) o (has_cap cs (tag_known x y)) x y a.type b.type)) (g cs y) (types_kept cs y) (λ b i.
          kept_last (λ t. typing t (binary_caps o x y) (binary o a.tree b.tree (at t m))) (rule.binary_type schema (declared_action env) o (has_cap cs (tag_known x y)) x y a.type b.type) (kept_binary o (has_cap cs (tag_known x y)) x y a.type b.type) (λ t. refl)))
      types_kept cs (get x n m) =
          kept_step (λ a. option_map (λ t. typing t [] (get a.tree n (at t m))) (rule.attr_type schema (has_cap cs (attribute_known x n)) a.type n)) (g cs x) (types_kept cs x) (λ a h.
          kept_last (λ t. typing t [] (get a.tree n (at t m))) (rule.attr_type schema (has_cap cs (attribute_known x n)) a.type n) (kept_attr (has_cap cs (attribute_known x n)) a.type n h) (λ t. refl))
      types_kept cs (has x n m) =
          kept_step (λ a. option_map (λ t. typing t (has_caps (is_some (rule.attribute_of schema a.type n)) x n) (has a.tree n (at t m))) (rule.has_type schema (has_cap cs (attribute_known x n)) a.type n)) (g cs x) (types_kept cs x) (λ a h.
          kept_last (λ t. typing t (has_caps (is_some (rule.attribute_of schema a.type n)) x n) (has a.tree n (at t m))) (rule.has_type schema (has_cap cs (attribute_known x n)) a.type n) (kept_has (has_cap cs (attribute_known x n)) a.type n) (λ t. refl))
      types_kept cs (like x p m) =
          kept_step (λ a. option_map (λ t. typing t [] (like a.tree p (at t m))) (rule.like_type a.type)) (g cs x) (types_kept cs x) (λ a h.
          kept_last (λ t. typing t [] (like a.tree p (at t m))) (rule.like_type a.type) (kept_test (rule.is_string a.type)) (λ t. refl))
      types_kept cs (is_type x n m) =
          kept_step (λ a. option_map (λ t. typing t [] (is_type a.tree n (at t m))) (rule.is_type a.type n)) (g cs x) (types_kept cs x) (λ a h.
          kept_last (λ t. typing t [] (is_type a.tree n (at t m))) (rule.is_type a.type n) (kept_is a.type n) (λ t. refl))
      types_kept cs (call f xs m) =
          when_some (λ ys. AllKept (types_in ys)) Keeps (λ ys. option_map (λ t. typing t [] (call f (trees_in ys) (at t m))) (call_type (function_of f) xs (types_in ys))) (types_all schema (declared_action env) cs xs) (all_kept cs xs) (λ ys h.
          kept_last (λ t. typing t [] (call f (trees_in ys) (at t m))) (call_type (function_of f) xs (types_in ys)) (kept_call (function_of f) xs (types_in ys)) (λ t. refl))
      types_kept cs (set xs m) =
          when_some (λ ys. AllKept (types_in ys)) Keeps (λ ys. option_map (λ t. typing t [] (set (trees_in ys) (at t m))) (rule.set_type (types_in ys))) (types_all schema (declared_action env) cs xs) (all_kept cs xs) (λ ys h.
          kept_last (λ t. typing t [] (set (trees_in ys) (at t m))) (rule.set_type (types_in ys)) (kept_set (types_in ys) h) (λ t. refl))
      types_kept cs (rec xs m) =
          mapped (λ ys. IsKept (record_type ys)) Keeps (λ ys. typing (record_type ys) [] (rec (named_in ys) (at (record_type ys) m))) (types_named schema (declared_action env) cs xs) (named_kept cs xs) (λ ys h. h)

      pub all_kept : (cs : List Capability) (xs : Trees (Mark (Unit {0}))) → IfSome (types_all schema (declared_action env) cs xs) (λ ys. AllKept (types_in ys))
      all_kept cs no_trees = tt
      all_kept cs (tree x xs) =
          when_some Keeps (λ ys. AllKept (types_in ys)) (λ a. option_map (λ ys. a ∷ ys) (types_all schema (declared_action env) cs xs)) (g cs x) (types_kept cs x) (λ a h.
          mapped (λ ys. AllKept (types_in ys)) (λ ys. AllKept (types_in ys)) (λ ys. a ∷ ys) (types_all schema (declared_action env) cs xs) (all_kept cs xs) (λ ys i. (h, i)))

      named_kept : (cs : List Capability) (xs : Named (Mark (Unit {0}))) → IfSome (types_named schema (declared_action env) cs xs) (λ ys. IsKept (record_type ys))
      named_kept cs no_named = tt
      named_kept cs (named k x xs) =
          when_some Keeps (λ ys. IsKept (record_type ys)) (λ a. option_map (λ ys. (k, a) ∷ ys) (types_named schema (declared_action env) cs xs)) (g cs x) (types_kept cs x) (λ a h.
          mapped (λ ys. IsKept (record_type ys)) (λ ys. IsKept (record_type ys)) (λ ys. (k, a) ∷ ys) (types_named schema (declared_action env) cs xs) (named_kept cs xs) (λ ys i. (h, i)))
