-- Calls of extension functions.
use Rattle.std.proofs.Common.{◌≡◌, ℕ, ℤ, Bool, true, false, ◌&&◌, ◌*ℤ◌, ◌+ℤ◌, ◌-ℤ◌, pos, int_lt, int_le, int_div, ◌+◌, ◌==◌, arith, List, [], ◌∷◌, Option, Some, None, is_some, Result, Ok, Err, refl, sym, ap, subst, IfSome}
use Rattle.std.specs.Prelude.{if◌then◌else◌}
use Rattle.std.proofs.lemmas.Bool.{eqb-true}
use Rattle.policy_ext.specs.DateTime.{day_of}
use Rattle.policy_ext.specs.IpAddr.{Range}
use Rattle.policy_ext.specs.IpTests.{same_family, in_range, loopback, multicast}
use Rattle.policy_ext.specs.declared.ip_addr.Family.TheVariants.{V4, V6}
use Rattle.entity_store.specs.declared.request.Request.{Request}
use Rattle.entity_store.specs.Store.{Store}
use Rattle.policy_values.specs.Value.{Val, truth, string, decimal, ip, datetime, duration}
use Rattle.schema_types.specs.Ty.{Ty}
use Rattle.type_relations.specs.Member.{Member}
use Rattle.policy_expressions.specs.declared.functions.UnaryFunction.{UnaryFunction}
use Rattle.policy_expressions.specs.declared.functions.UnaryFunction.TheVariants as unary
use Rattle.policy_expressions.specs.declared.functions.BinaryFunction.{BinaryFunction}
use Rattle.policy_expressions.specs.declared.functions.BinaryFunction.TheVariants as binary
use Rattle.policy_expressions.specs.declared.functions.ExtensionFunction.{ExtensionFunction}
use Rattle.policy_expressions.specs.declared.functions.ExtensionFunction.TheVariants.{Unary, Binary}
use Rattle.policy_expressions.specs.declared.kinds.Literal.{Literal}
use Rattle.policy_expressions.specs.declared.kinds.Literal.TheVariants as literal
use Rattle.policy_core.specs.declared.outcome.EvalError.{EvalError}
use Rattle.policy_core.specs.declared.outcome.Outcome.{Outcome}
use Rattle.policy_core.specs.declared.outcome.Outcome.TheVariants.{Error}
use Rattle.policy_values.specs.Readings.{decimal_in, range_in, datetime_in, duration_in}
use Rattle.policy_core.specs.Calls.{read_as, fitting, constructed, of_range, of_ranges, of_decimals, of_datetime, of_duration, offset_value, since_value, start_of_day, since_start, unary_call, binary_call, called, call_outcome}
use Rattle.policy_core.specs.Eval.{literal_value, eval_all}
use Rattle.policy_expressions.specs.Functions.{function_of}
use Rattle.policy_core.specs.Operators.{fit}
use Rattle.policy_expressions.specs.Tree.{lit, Trees, no_trees, tree, Mark}
use Rattle.policy_expressions.specs.Plain.{Plain}
use Rattle.typing_spec.specs.Signatures.{bool_type, long_type, string_type, decimal_type, ip_type, datetime_type, duration_type, same_type, same_types, unary_signature, binary_signature, signature_of, is_readable, is_literal, are_literals, count_of, has_count, has_literals, has_readable, call_type}
use Rattle.typing_spec.specs.Sound.{IsOfType}
use Rattle.typing_spec.proofs.Lists.{AreMembers, AreOf}
use Rattle.typing_spec.proofs.Basics.{any_some}
use Rattle.typing_spec.proofs.Operators.{decimal_member, ip_member, datetime_member, duration_member, same_types_are_one}
use Rattle.plain_lemmas.proofs.Booleans.{and_parts_of}

fits : (t : Ty) (make : ℤ → Val) (x : Option ℤ) → ((n : ℤ) → Member t (make n)) → IsOfType t (fitting make x)
fits t make (Some n) h = h n
fits t make None h = tt

-- a text that can be read is a value
read_of : {X : Type 0} (t : Ty) (make : X → Val) (x : Option X) → is_some x ≡ true → ((n : X) → Member t (make n)) → IsOfType t (read_as make x)
read_of t make (Some n) e h = h n
read_of t make None e h = absurd (cc)

of_one_range : (test : Range → Bool) (v : Val) → Member ip_type v → IsOfType bool_type (of_range test v)
of_one_range test v m = let a = ip_member v m in subst (λ x. IsOfType bool_type (of_range test x)) (sym a.1) tt

of_a_datetime : (t : Ty) (f : ℤ → Outcome) (v : Val) → ((n : ℤ) → IsOfType t (f n)) → Member datetime_type v → IsOfType t (of_datetime f v)
of_a_datetime t f v h m = let a = datetime_member v m in subst (λ x. IsOfType t (of_datetime f x)) (sym a.1) (h a.0)

of_a_duration : (f : ℤ → ℤ) (v : Val) → Member duration_type v → IsOfType long_type (of_duration f v)
of_a_duration f v m = let a = duration_member v m in subst (λ x. IsOfType long_type (of_duration f x)) (sym a.1) tt

of_two_decimals : (test : ℤ → ℤ → Bool) (v w : Val) → Member decimal_type v → Member decimal_type w → IsOfType bool_type (of_decimals test v w)
of_two_decimals test v w m n =
    let a = decimal_member v m in
    let b = decimal_member w n in
    subst (λ x. IsOfType bool_type (of_decimals test x w)) (sym a.1) (subst (λ y. IsOfType bool_type (of_decimals test (decimal a.0) y)) (sym b.1) tt)

-- the text of the argument can be read
abbrev TextOf : ExtensionFunction → Val → Type 0
TextOf f (string t) = is_readable f t ≡ true
TextOf f v = Unit {0}

constructed_of : {X : Type 0} (f : ExtensionFunction) (t : Ty) (make : X → Val) (read : List ℕ → Option X) (v : Val) → ((text : List ℕ) → is_readable f text ≡ true → is_some (read text) ≡ true) → ((n : X) → Member t (make n)) → Member string_type v → TextOf f v → IsOfType t (constructed make read v)
constructed_of f t make read (string text) g h m e = read_of t make (read text) (g text e) h
constructed_of f t make read v g h m e = absurd m

unary_of : (f : UnaryFunction) (v : Val) → AreMembers (unary_signature f).arguments (v ∷ []) → TextOf (Unary f) v → IsOfType (unary_signature f).result (unary_call f v)
unary_of unary.Decimal v m e = constructed_of (Unary unary.Decimal) decimal_type decimal decimal_in v (λ t i. i) (λ n. refl) m.0 e
unary_of unary.Ip v m e = constructed_of (Unary unary.Ip) ip_type ip range_in v (λ t i. i) (λ n. refl) m.0 e
unary_of unary.Datetime v m e = constructed_of (Unary unary.Datetime) datetime_type datetime datetime_in v (λ t i. i) (λ n. refl) m.0 e
unary_of unary.Duration v m e = constructed_of (Unary unary.Duration) duration_type duration duration_in v (λ t i. i) (λ n. refl) m.0 e
unary_of unary.IsIpv4 v m e = of_one_range (λ r. same_family r.family V4) v m.0
unary_of unary.IsIpv6 v m e = of_one_range (λ r. same_family r.family V6) v m.0
unary_of unary.IsLoopback v m e = of_one_range loopback v m.0
unary_of unary.IsMulticast v m e = of_one_range multicast v m.0
unary_of unary.ToDate v m e = of_a_datetime datetime_type start_of_day v (λ n. fits datetime_type datetime (fit (day_of n *ℤ pos 86400000)) (λ k. refl)) m.0
unary_of unary.ToTime v m e = of_a_datetime duration_type since_start v (λ n. refl) m.0
unary_of unary.ToMilliseconds v m e = of_a_duration (λ n. n) v m.0
unary_of unary.ToSeconds v m e = of_a_duration (λ n. int_div n (pos 1000)) v m.0
unary_of unary.ToMinutes v m e = of_a_duration (λ n. int_div n (pos 60000)) v m.0
unary_of unary.ToHours v m e = of_a_duration (λ n. int_div n (pos 3600000)) v m.0
unary_of unary.ToDays v m e = of_a_duration (λ n. int_div n (pos 86400000)) v m.0

two_ranges : (v w : Val) → Member ip_type v → Member ip_type w → IsOfType bool_type (of_ranges in_range v w)
two_ranges v w m n =
    let a = ip_member v m in
    let b = ip_member w n in
    subst (λ x. IsOfType bool_type (of_ranges in_range x w)) (sym a.1) (subst (λ y. IsOfType bool_type (of_ranges in_range (ip a.0) y)) (sym b.1) tt)

offset_of : (v w : Val) → Member datetime_type v → Member duration_type w → IsOfType datetime_type (offset_value v w)
offset_of v w m n =
    let a = datetime_member v m in
    let b = duration_member w n in
    subst (λ x. IsOfType datetime_type (offset_value x w)) (sym a.1)
    (subst (λ y. IsOfType datetime_type (offset_value (datetime a.0) y)) (sym b.1) (fits datetime_type datetime (fit (a.0 +ℤ b.0)) (λ k. refl)))

since_of : (v w : Val) → Member datetime_type v → Member datetime_type w → IsOfType duration_type (since_value v w)
since_of v w m n =
    let a = datetime_member v m in
    let b = datetime_member w n in
    subst (λ x. IsOfType duration_type (since_value x w)) (sym a.1)
    (subst (λ y. IsOfType duration_type (since_value (datetime a.0) y)) (sym b.1) (fits duration_type duration (fit (a.0 -ℤ b.0)) (λ k. refl)))

binary_of : (f : BinaryFunction) (v w : Val) → AreMembers (binary_signature f).arguments (v ∷ w ∷ []) → IsOfType (binary_signature f).result (binary_call f v w)
binary_of binary.LessThan v w m = of_two_decimals int_lt v w m.0 m.1.0
binary_of binary.LessThanOrEqual v w m = of_two_decimals int_le v w m.0 m.1.0
binary_of binary.GreaterThan v w m = of_two_decimals (λ m n. int_lt n m) v w m.0 m.1.0
binary_of binary.GreaterThanOrEqual v w m = of_two_decimals (λ m n. int_le n m) v w m.0 m.1.0
binary_of binary.IsInRange v w m = two_ranges v w m.0 m.1.0
binary_of binary.Offset v w m = offset_of v w m.0 m.1.0
binary_of binary.DurationSince v w m = since_of v w m.0 m.1.0

same_all : (ts us : List Ty) → same_types ts us ≡ true → ts ≡ us
same_all [] [] e = refl
same_all (t ∷ ts) (u ∷ us) e =
    let r = and_parts_of (same_type t u) (same_types ts us) e in
    λ i. same_types_are_one t u r.0 i ∷ same_all ts us r.1 i
same_all [] (u ∷ us) e = absurd (cc)
same_all (t ∷ ts) [] e = absurd (cc)

-- the number of values is that of the arguments
no_values : (f : UnaryFunction) → AreMembers (unary_signature f).arguments [] → ⊥
no_values unary.Decimal m = m
no_values unary.Ip m = m
no_values unary.Datetime m = m
no_values unary.Duration m = m
no_values unary.IsIpv4 m = m
no_values unary.IsIpv6 m = m
no_values unary.IsLoopback m = m
no_values unary.IsMulticast m = m
no_values unary.ToDate m = m
no_values unary.ToTime m = m
no_values unary.ToMilliseconds m = m
no_values unary.ToSeconds m = m
no_values unary.ToMinutes m = m
no_values unary.ToHours m = m
no_values unary.ToDays m = m

two_values : (f : UnaryFunction) (v w : Val) (vs : List Val) → AreMembers (unary_signature f).arguments (v ∷ w ∷ vs) → ⊥
two_values unary.Decimal v w vs m = m.1
two_values unary.Ip v w vs m = m.1
two_values unary.Datetime v w vs m = m.1
two_values unary.Duration v w vs m = m.1
two_values unary.IsIpv4 v w vs m = m.1
two_values unary.IsIpv6 v w vs m = m.1
two_values unary.IsLoopback v w vs m = m.1
two_values unary.IsMulticast v w vs m = m.1
two_values unary.ToDate v w vs m = m.1
two_values unary.ToTime v w vs m = m.1
two_values unary.ToMilliseconds v w vs m = m.1
two_values unary.ToSeconds v w vs m = m.1
two_values unary.ToMinutes v w vs m = m.1
two_values unary.ToHours v w vs m = m.1
two_values unary.ToDays v w vs m = m.1

no_value : (f : BinaryFunction) → AreMembers (binary_signature f).arguments [] → ⊥
no_value binary.LessThan m = m
no_value binary.LessThanOrEqual m = m
no_value binary.GreaterThan m = m
no_value binary.GreaterThanOrEqual m = m
no_value binary.IsInRange m = m
no_value binary.Offset m = m
no_value binary.DurationSince m = m

one_value : (f : BinaryFunction) (v : Val) → AreMembers (binary_signature f).arguments (v ∷ []) → ⊥
one_value binary.LessThan v m = m.1
one_value binary.LessThanOrEqual v m = m.1
one_value binary.GreaterThan v m = m.1
one_value binary.GreaterThanOrEqual v m = m.1
one_value binary.IsInRange v m = m.1
one_value binary.Offset v m = m.1
one_value binary.DurationSince v m = m.1

three_values : (f : BinaryFunction) (v w x : Val) (vs : List Val) → AreMembers (binary_signature f).arguments (v ∷ w ∷ x ∷ vs) → ⊥
three_values binary.LessThan v w x vs m = m.1.1
three_values binary.LessThanOrEqual v w x vs m = m.1.1
three_values binary.GreaterThan v w x vs m = m.1.1
three_values binary.GreaterThanOrEqual v w x vs m = m.1.1
three_values binary.IsInRange v w x vs m = m.1.1
three_values binary.Offset v w x vs m = m.1.1
three_values binary.DurationSince v w x vs m = m.1.1

reads_none : (f : ExtensionFunction) (v : Val) → ((t : List ℕ) → is_readable f t ≡ true) → TextOf f v
reads_none f (string t) h = h t
reads_none f v h = tt

abbrev first_value : Result (List Val) EvalError → Val
first_value (Ok (v ∷ vs)) = v
first_value r = truth false

module _ (q : Request) (s : Store) where
  literal_text : (f : ExtensionFunction) (l : Literal) (a : Mark (Unit {0})) → has_readable f (tree (lit l a) no_trees) ≡ true → TextOf f (literal_value l)
  literal_text f (literal.String t) a h = h
  literal_text f (literal.Bool b) a h = tt
  literal_text f (literal.Long n) a h = tt
  literal_text f (literal.EntityUID u) a h = tt

  one_literal : (f : ExtensionFunction) (x : Plain) (v : Val) → is_literal x ≡ true → has_readable f (tree x no_trees) ≡ true → eval_all (tree x no_trees) q s ≡ Ok (v ∷ []) → TextOf f v
  one_literal f (lit l a) v h i e = subst (TextOf f) (ap first_value e) (literal_text f l a i)
  one_literal f x v h i e = absurd (cc)

  texts_of : (f : ExtensionFunction) (xs : Trees (Mark (Unit {0}))) (v : Val) → (count_of xs == 1) ≡ true → are_literals xs ≡ true → has_readable f xs ≡ true → eval_all xs q s ≡ Ok (v ∷ []) → TextOf f v
  texts_of f no_trees v c h i e = absurd (cc)
  texts_of f (tree x no_trees) v c h i e = one_literal f x v (and_parts_of (is_literal x) true h).0 i e
  texts_of f (tree x (tree y ys)) v c h i e = absurd (omega (arith, eqb-true (count_of ys + 1 + 1) 1 c))

  -- a constructor's text can be read; the other functions read none
  text_for : (f : UnaryFunction) (xs : Trees (Mark (Unit {0}))) (v : Val) → has_count (Unary f) xs ≡ true → has_literals (Unary f) xs ≡ true → has_readable (Unary f) xs ≡ true → eval_all xs q s ≡ Ok (v ∷ []) → TextOf (Unary f) v
  text_for unary.Decimal xs v c h i e = texts_of (Unary unary.Decimal) xs v c h i e
  text_for unary.Ip xs v c h i e = texts_of (Unary unary.Ip) xs v c h i e
  text_for unary.Datetime xs v c h i e = texts_of (Unary unary.Datetime) xs v c h i e
  text_for unary.Duration xs v c h i e = texts_of (Unary unary.Duration) xs v c h i e
  text_for unary.IsIpv4 xs v c h i e = reads_none (Unary unary.IsIpv4) v (λ t. refl)
  text_for unary.IsIpv6 xs v c h i e = reads_none (Unary unary.IsIpv6) v (λ t. refl)
  text_for unary.IsLoopback xs v c h i e = reads_none (Unary unary.IsLoopback) v (λ t. refl)
  text_for unary.IsMulticast xs v c h i e = reads_none (Unary unary.IsMulticast) v (λ t. refl)
  text_for unary.ToDate xs v c h i e = reads_none (Unary unary.ToDate) v (λ t. refl)
  text_for unary.ToTime xs v c h i e = reads_none (Unary unary.ToTime) v (λ t. refl)
  text_for unary.ToMilliseconds xs v c h i e = reads_none (Unary unary.ToMilliseconds) v (λ t. refl)
  text_for unary.ToSeconds xs v c h i e = reads_none (Unary unary.ToSeconds) v (λ t. refl)
  text_for unary.ToMinutes xs v c h i e = reads_none (Unary unary.ToMinutes) v (λ t. refl)
  text_for unary.ToHours xs v c h i e = reads_none (Unary unary.ToHours) v (λ t. refl)
  text_for unary.ToDays xs v c h i e = reads_none (Unary unary.ToDays) v (λ t. refl)

  -- how many arguments the types are of
  called_of : (f : ExtensionFunction) (xs : Trees (Mark (Unit {0}))) (vs : List Val) → has_count f xs ≡ true → has_literals f xs ≡ true → has_readable f xs ≡ true → eval_all xs q s ≡ Ok vs → AreMembers (signature_of f).arguments vs → IsOfType (signature_of f).result (called (Some f) vs)
  called_of (Unary f) xs vs c h i e m = one f vs c h i e m
    where
      one : (f : UnaryFunction) (vs : List Val) → has_count (Unary f) xs ≡ true → has_literals (Unary f) xs ≡ true → has_readable (Unary f) xs ≡ true → eval_all xs q s ≡ Ok vs → AreMembers (unary_signature f).arguments vs → IsOfType (unary_signature f).result (called (Some (Unary f)) vs)
      one f [] c h i e m = absurd (no_values f m)
      one f (v ∷ []) c h i e m = unary_of f v m (text_for f xs v c h i e)
      one f (v ∷ w ∷ vs) c h i e m = absurd (two_values f v w vs m)
  called_of (Binary f) xs vs c h i e m = both f vs m
    where
      both : (f : BinaryFunction) (vs : List Val) → AreMembers (binary_signature f).arguments vs → IsOfType (binary_signature f).result (called (Some (Binary f)) vs)
      both f [] m = absurd (no_value f m)
      both f (v ∷ []) m = absurd (one_value f v m)
      both f (v ∷ w ∷ []) m = binary_of f v w m
      both f (v ∷ w ∷ x ∷ vs) m = absurd (three_values f v w x vs m)

  call_for : (o : Option ExtensionFunction) (xs : Trees (Mark (Unit {0}))) (ts : List Ty) (vs : List Val) → eval_all xs q s ≡ Ok vs → AreMembers ts vs → IfSome (call_type o xs ts) (λ w. IsOfType w (called o vs))
  call_for None xs ts vs e m = tt
  call_for (Some f) xs ts vs e m = by ((has_count f xs && (has_literals f xs && has_readable f xs)) && same_types ts (signature_of f).arguments) refl
    where
      by : (b : Bool) → ((has_count f xs && (has_literals f xs && has_readable f xs)) && same_types ts (signature_of f).arguments) ≡ b → IfSome (if b then Some (signature_of f).result else None) (λ w. IsOfType w (called (Some f) vs))
      by false h = tt
      by true h =
          let r = and_parts_of (has_count f xs && (has_literals f xs && has_readable f xs)) (same_types ts (signature_of f).arguments) h in
          let c = and_parts_of (has_count f xs) (has_literals f xs && has_readable f xs) r.0 in
          let d = and_parts_of (has_literals f xs) (has_readable f xs) c.1 in
          called_of f xs vs c.0 d.0 d.1 e (subst (λ us. AreMembers us vs) (same_all ts (signature_of f).arguments r.1) m)

  pub call_of_type : (name : List ℕ) (xs : Trees (Mark (Unit {0}))) (ts : List Ty) → AreOf ts (eval_all xs q s) → IfSome (call_type (function_of name) xs ts) (λ w. IsOfType w (call_outcome name (eval_all xs q s)))
  call_of_type name xs ts h = by (eval_all xs q s) refl h
    where
      by : (r : Result (List Val) EvalError) → eval_all xs q s ≡ r → AreOf ts r → IfSome (call_type (function_of name) xs ts) (λ w. IsOfType w (call_outcome name r))
      by (Ok vs) e h = call_for (function_of name) xs ts vs e h
      by (Err x) e h = any_some (λ w. IsOfType w (Error x)) (call_type (function_of name) xs ts) (λ w. h)
