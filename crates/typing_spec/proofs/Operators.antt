-- Operators that neither look at the store nor make anything known.
use Rattle.std.proofs.Common.{◌≡◌, ℕ, ℤ, Bool, true, false, not, ◌&&◌, ◌||◌, ◌⊎◌, inl, inr, List, Option, Some, None, is_some, refl, sym, ap, subst, ◌∙◌, codes, IfSome, neg_ℤ}
use Rattle.policy_values.specs.declared.entity_uid.EntityUID.{EntityUID}
use Rattle.policy_values.specs.Value.{Val, long, string, entity as id, set, datetime, duration, decimal, ip, Vals}
use Rattle.policy_ext.specs.IpAddr.{Range}
use Rattle.policy_values.specs.Ties.{equal_of}
use Rattle.schema_types.specs.declared.kinds.Primitive.TheVariants.{Bool as BoolType, Long, String}
use Rattle.schema_types.specs.Ty.{Ty, true_type, false_type, primitive, any_set, set_of, any_entity, entity, action}
use Rattle.schema_types.specs.TyLaws.{exact_ty}
use Rattle.schema_types.specs.TyOrder.{ty_cmp}
use Rattle.type_relations.specs.Join.{text_eq, is_entity}
use Rattle.type_relations.specs.Member.{Member}
use Rattle.policy_expressions.specs.declared.kinds.PatternElem.{PatternElem}
use Rattle.policy_expressions.specs.declared.kinds.UnaryOp.{UnaryOp}
use Rattle.policy_expressions.specs.declared.kinds.UnaryOp.TheVariants.{Not, Neg, IsEmpty}
use Rattle.policy_core.specs.declared.outcome.Outcome.{Outcome}
use Rattle.policy_core.specs.declared.outcome.Outcome.TheVariants.{Value, Error}
use Rattle.policy_core.specs.Eval.{with_value}
use Rattle.policy_core.specs.Operators.{fit, long_of, unary_value, compared, calculated, contains_value, contains_all_value, contains_any_value, like_value}
use Rattle.typing_spec.specs.Signatures.{bool_type, long_type, string_type, decimal_type, ip_type, datetime_type, duration_type, same_type}
use Rattle.typing_spec.specs.Rules.{bool_if, is_set, strict_join, unary_type, order_type, sum_type, contains_type, contains_sets_type, like_type}
use Rattle.typing_spec.specs.Sound.{IsOfType}
use Rattle.typing_spec.proofs.Booleans.{by_truth}
use Rattle.plain_lemmas.proofs.Booleans.{and_parts_of, or_cases}

-- a first step that gives a value of its type, and then what follows
pub then_of : (t w : Ty) (o : Outcome) (k : Val → Outcome) → IsOfType t o → ((v : Val) → Member t v → IsOfType w (k v)) → IsOfType w (with_value o k)
then_of t w (Value v) k h f = f v h
then_of t w (Error e) k h f = h

-- two operands that are both evaluated
abbrev pub two : Outcome → Outcome → (Val → Val → Outcome) → Outcome
two o p k = with_value o (λ v. with_value p (λ w. k v w))

pub two_of : (t u x : Ty) (o p : Outcome) (k : Val → Val → Outcome) → IsOfType t o → IsOfType u p → ((v w : Val) → Member t v → Member u w → IsOfType x (k v w)) → IsOfType x (two o p k)
two_of t u x o p k h i f = then_of t x o (λ v. with_value p (λ w. k v w)) h (λ v m. then_of u x p (λ w. k v w) i (λ w n. f v w m n))

-- the values of primitive and of extension types
pub long_member : (v : Val) → Member long_type v → (n : ℤ) × (v ≡ long n)
long_member (long n) h = (n, refl)
long_member v h = absurd h

pub string_member : (v : Val) → Member string_type v → (t : List ℕ) × (v ≡ string t)
string_member (string t) h = (t, refl)
string_member v h = absurd h

differ : (k l : List ℕ) → text_eq k l ≡ false → text_eq l l ≡ true → k ≡ l → ⊥
differ k l h i e = let j : text_eq k l ≡ true = ap (λ m. text_eq m l) e ∙ i in let f : true ≡ false = sym j ∙ h in cc

pub decimal_member : (v : Val) → Member decimal_type v → (n : ℤ) × (v ≡ decimal n)
decimal_member (decimal n) h = (n, refl)
decimal_member (ip r) h = absurd (differ (codes "decimal") (codes "ipaddr") refl refl h)
decimal_member (datetime n) h = absurd (differ (codes "decimal") (codes "datetime") refl refl h)
decimal_member (duration n) h = absurd (differ (codes "decimal") (codes "duration") refl refl h)
decimal_member v h = absurd h

pub ip_member : (v : Val) → Member ip_type v → (r : Range) × (v ≡ ip r)
ip_member (ip r) h = (r, refl)
ip_member (decimal n) h = absurd (differ (codes "ipaddr") (codes "decimal") refl refl h)
ip_member (datetime n) h = absurd (differ (codes "ipaddr") (codes "datetime") refl refl h)
ip_member (duration n) h = absurd (differ (codes "ipaddr") (codes "duration") refl refl h)
ip_member v h = absurd h

pub datetime_member : (v : Val) → Member datetime_type v → (n : ℤ) × (v ≡ datetime n)
datetime_member (datetime n) h = (n, refl)
datetime_member (decimal n) h = absurd (differ (codes "datetime") (codes "decimal") refl refl h)
datetime_member (ip r) h = absurd (differ (codes "datetime") (codes "ipaddr") refl refl h)
datetime_member (duration n) h = absurd (differ (codes "datetime") (codes "duration") refl refl h)
datetime_member v h = absurd h

pub duration_member : (v : Val) → Member duration_type v → (n : ℤ) × (v ≡ duration n)
duration_member (duration n) h = (n, refl)
duration_member (decimal n) h = absurd (differ (codes "duration") (codes "decimal") refl refl h)
duration_member (ip r) h = absurd (differ (codes "duration") (codes "ipaddr") refl refl h)
duration_member (datetime n) h = absurd (differ (codes "duration") (codes "datetime") refl refl h)
duration_member v h = absurd h

pub set_member : (t : Ty) (v : Val) → is_set t ≡ true → Member t v → (vs : Vals) × (v ≡ set vs)
set_member any_set (set vs) e h = (vs, refl)
set_member (set_of t) (set vs) e h = (vs, refl)
set_member any_set v e h = absurd h
set_member (set_of t) v e h = absurd h
set_member t v e h = absurd (cc)

pub id_member : (t : Ty) (v : Val) → is_entity t ≡ true → Member t v → (u : EntityUID) × (v ≡ id u)
id_member any_entity (id u) e h = (u, refl)
id_member (entity ns) (id u) e h = (u, refl)
id_member (action n xs) (id u) e h = (u, refl)
id_member any_entity v e h = absurd h
id_member (entity ns) v e h = absurd h
id_member (action n xs) v e h = absurd h
id_member t v e h = absurd (cc)

-- a test that gives Bool
pub bool_when : (b : Bool) (P : Ty → Type 0) → (b ≡ true → P bool_type) → IfSome (bool_if b) P
bool_when true P h = h refl
bool_when false P h = tt

pub is_long_of : (x : Option ℤ) → IsOfType long_type (long_of x)
is_long_of (Some n) = tt
is_long_of None = tt

-- `!`, `-` and `isEmpty`
pub unary_of : (op : UnaryOp) (t : Ty) (o : Outcome) → IsOfType t o → IfSome (unary_type op t) (λ w. IsOfType w (with_value o (unary_value op)))
unary_of Not true_type o h = by_truth true_type (λ o. IsOfType false_type (with_value o (unary_value Not))) o tt h (λ b m. ap not m) (λ e m. m)
unary_of Not false_type o h = by_truth false_type (λ o. IsOfType true_type (with_value o (unary_value Not))) o tt h (λ b m. ap not m) (λ e m. m)
unary_of Not (primitive BoolType) o h = by_truth (primitive BoolType) (λ o. IsOfType bool_type (with_value o (unary_value Not))) o tt h (λ b m. tt) (λ e m. m)
unary_of Neg (primitive Long) o h =
    then_of long_type long_type o (unary_value Neg) h (λ v m. let n = long_member v m in subst (λ x. IsOfType long_type (unary_value Neg x)) (sym n.1) (is_long_of (fit (neg_ℤ n.0))))
unary_of IsEmpty t o h =
    bool_when (is_set t) (λ w. IsOfType w (with_value o (unary_value IsEmpty))) (λ e.
    then_of t bool_type o (unary_value IsEmpty) h (λ v m. let n = set_member t v e m in subst (λ x. IsOfType bool_type (unary_value IsEmpty x)) (sym n.1) tt))
unary_of op t o h = tt

-- arithmetic
pub sum_of : (f : ℤ → ℤ → ℤ) (t u : Ty) (o p : Outcome) → IsOfType t o → IsOfType u p → IfSome (sum_type t u) (λ w. IsOfType w (two o p (calculated f)))
sum_of f (primitive Long) (primitive Long) o p h i =
    two_of long_type long_type long_type o p (calculated f) h i (λ v w m n.
    let a = long_member v m in
    let b = long_member w n in
    subst (λ x. IsOfType long_type (calculated f x w)) (sym a.1) (subst (λ y. IsOfType long_type (calculated f (long a.0) y)) (sym b.1) (is_long_of (fit (f a.0 b.0)))))
sum_of f t u o p h i = tt

-- `<` and `<=`
pub same_types_are_one : (t u : Ty) → same_type t u ≡ true → t ≡ u
same_types_are_one t u e = exact_ty t u (equal_of (ty_cmp t u) e)

compared_of : (test : ℤ → ℤ → Bool) (t : Ty) (o p : Outcome) (make : ℤ → Val) → ((v : Val) → Member t v → (n : ℤ) × (v ≡ make n)) → ((m n : ℤ) → IsOfType bool_type (compared test (make m) (make n))) → IsOfType t o → IsOfType t p → IsOfType bool_type (two o p (compared test))
compared_of test t o p make f g h i =
    two_of t t bool_type o p (compared test) h i (λ v w m n.
    let a = f v m in
    let b = f w n in
    subst (λ x. IsOfType bool_type (compared test x w)) (sym a.1) (subst (λ y. IsOfType bool_type (compared test (make a.0) y)) (sym b.1) (g a.0 b.0)))

order_as : (test : ℤ → ℤ → Bool) (t : Ty) (o p : Outcome) → (t ≡ long_type) ⊎ ((t ≡ datetime_type) ⊎ (t ≡ duration_type)) → IsOfType t o → IsOfType t p → IsOfType bool_type (two o p (compared test))
order_as test t o p (inl e) h i = compared_of test long_type o p long long_member (λ m n. tt) (subst (λ u. IsOfType u o) e h) (subst (λ u. IsOfType u p) e i)
order_as test t o p (inr (inl e)) h i = compared_of test datetime_type o p datetime datetime_member (λ m n. tt) (subst (λ u. IsOfType u o) e h) (subst (λ u. IsOfType u p) e i)
order_as test t o p (inr (inr e)) h i = compared_of test duration_type o p duration duration_member (λ m n. tt) (subst (λ u. IsOfType u o) e h) (subst (λ u. IsOfType u p) e i)

comparable : (t : Ty) → (same_type t long_type || (same_type t datetime_type || same_type t duration_type)) ≡ true → (t ≡ long_type) ⊎ ((t ≡ datetime_type) ⊎ (t ≡ duration_type))
comparable t e = elim (or_cases (same_type t long_type) (same_type t datetime_type || same_type t duration_type) e) [
  | inl a ↦ inl (same_types_are_one t long_type a)
  | inr a ↦ elim (or_cases (same_type t datetime_type) (same_type t duration_type) a) [
    | inl b ↦ inr (inl (same_types_are_one t datetime_type b))
    | inr b ↦ inr (inr (same_types_are_one t duration_type b))
  ]
]

pub order_of : (test : ℤ → ℤ → Bool) (t u : Ty) (o p : Outcome) → IsOfType t o → IsOfType u p → IfSome (order_type t u) (λ w. IsOfType w (two o p (compared test)))
order_of test t u o p h i =
    bool_when (same_type t u && (same_type t long_type || (same_type t datetime_type || same_type t duration_type))) (λ w. IsOfType w (two o p (compared test))) (λ e.
    let r = and_parts_of (same_type t u) (same_type t long_type || (same_type t datetime_type || same_type t duration_type)) e in
    order_as test t o p (comparable t r.1) h (subst (λ v. IsOfType v p) (sym (same_types_are_one t u r.0)) i))

-- `contains`, `containsAll` and `containsAny`
pub contains_of : (t u : Ty) (o p : Outcome) → IsOfType t o → IsOfType u p → IfSome (contains_type t u) (λ w. IsOfType w (two o p contains_value))
contains_of (set_of t) u o p h i =
    bool_when (is_some (strict_join t u)) (λ w. IsOfType w (two o p contains_value)) (λ _.
    two_of (set_of t) u bool_type o p contains_value h i (λ v w m n. let a = set_member (set_of t) v refl m in subst (λ x. IsOfType bool_type (contains_value x w)) (sym a.1) tt))
contains_of t u o p h i = tt

sets_of : (t u : Ty) (o p : Outcome) (k : Val → Val → Outcome) → ((vs ws : Vals) → IsOfType bool_type (k (set vs) (set ws))) → IsOfType t o → IsOfType u p → IfSome (contains_sets_type t u) (λ w. IsOfType w (two o p k))
sets_of t u o p k f h i =
    bool_when ((is_set t && is_set u) && is_some (strict_join t u)) (λ w. IsOfType w (two o p k)) (λ e.
    let r = and_parts_of (is_set t && is_set u) (is_some (strict_join t u)) e in
    let s = and_parts_of (is_set t) (is_set u) r.0 in
    two_of t u bool_type o p k h i (λ v w m n.
    let a = set_member t v s.0 m in
    let b = set_member u w s.1 n in
    subst (λ x. IsOfType bool_type (k x w)) (sym a.1) (subst (λ y. IsOfType bool_type (k (set a.0) y)) (sym b.1) (f a.0 b.0))))

pub contains_all_of : (t u : Ty) (o p : Outcome) → IsOfType t o → IsOfType u p → IfSome (contains_sets_type t u) (λ w. IsOfType w (two o p contains_all_value))
contains_all_of t u o p h i = sets_of t u o p contains_all_value (λ vs ws. tt) h i

pub contains_any_of : (t u : Ty) (o p : Outcome) → IsOfType t o → IsOfType u p → IfSome (contains_sets_type t u) (λ w. IsOfType w (two o p contains_any_value))
contains_any_of t u o p h i = sets_of t u o p contains_any_value (λ vs ws. tt) h i

-- `like`
pub like_of : (t : Ty) (o : Outcome) (e : List PatternElem) → IsOfType t o → IfSome (like_type t) (λ w. IsOfType w (with_value o (λ v. like_value v e)))
like_of (primitive String) o e h = then_of string_type bool_type o (λ v. like_value v e) h (λ v m. let n = string_member v m in subst (λ x. IsOfType bool_type (like_value x e)) (sym n.1) tt)
like_of (primitive Long) o e h = tt
like_of (primitive BoolType) o e h = tt
like_of t o e h = tt
