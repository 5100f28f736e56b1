-- Evaluation: the value of an expression, or its first error.
use Rattle.std.specs.Prelude.{⊤, ℕ, Bool, true, false, List, [], ◌∷◌, Option, Some, None, Result, Ok, Err}
use Rattle.policy_values.specs.Value.{Val, truth, long, string, entity, Fields, no_fields, fields_of}
use Rattle.policy_values.specs.Value as value
use Rattle.policy_values.specs.ValueOrder.{set_of}
use Rattle.entity_store.specs.Store.{Store}
use Rattle.entity_store.specs.Request.{principal_of, action_of, resource_of}
use Rattle.entity_store.specs.declared.request.Request.{Request}
use Rattle.policy_expressions.specs.declared.kinds.Literal.{Literal}
use Rattle.policy_expressions.specs.declared.kinds.Literal.TheVariants as literal
use Rattle.policy_expressions.specs.declared.kinds.Var.{Var}
use Rattle.policy_expressions.specs.declared.kinds.Var.TheVariants.{Principal, Action, Resource, Context}
use Rattle.policy_core.specs.declared.outcome.EvalError.{EvalError}
use Rattle.policy_core.specs.declared.outcome.EvalError.TheVariants.{TypeFault}
use Rattle.policy_core.specs.declared.outcome.Outcome.{Outcome}
use Rattle.policy_core.specs.declared.outcome.Outcome.TheVariants.{Value, Error}
use Rattle.policy_core.specs.Calls.{call_outcome}
use Rattle.policy_core.specs.Operators.{unary_value, binary_value, attr_value, has_value, like_value, is_value}
use Rattle.policy_expressions.specs.Tree.{Tree, lit, var, slot, ite, conj, disj, unary, binary, attr, has, like, is_type, call, set, rec, Trees, no_trees, tree, Named, no_named, named}

abbrev pub result_map : {X Y E : Type 0} → (X → Y) → Result X E → Result Y E
result_map f (Ok x) = Ok (f x)
result_map f (Err e) = Err e

-- a literal is the value that it names
abbrev pub literal_value : Literal → Val
literal_value (literal.Bool b) = truth b
literal_value (literal.Long n) = long n
literal_value (literal.String t) = string t
literal_value (literal.EntityUID u) = entity u

-- a boolean or a long, whose value takes no memory
abbrev pub IsPlain : Literal → Type 0
IsPlain (literal.Bool b) = ⊤
IsPlain (literal.Long n) = ⊤
IsPlain l = ⊥

-- the fields of a context; only of whole requests are they asked
abbrev pub known_fields : Option Fields → Fields
known_fields (Some fs) = fs
known_fields None = no_fields

-- a variable is the request's entry; the context is a record
abbrev pub variable_value : Var → Request → Val
variable_value Principal q = entity (principal_of q)
variable_value Action q = entity (action_of q)
variable_value Resource q = entity (resource_of q)
variable_value Context q = value.rec (known_fields q.context)

-- the boolean that an operand of `&&`, `||` or `if` has to be
abbrev pub truth_of : Outcome → Result Bool EvalError
truth_of (Value (truth b)) = Ok b
truth_of (Value v) = Err TypeFault
truth_of (Error e) = Err e

abbrev pub truth_outcome : Result Bool EvalError → Outcome
truth_outcome (Ok b) = Value (truth b)
truth_outcome (Err e) = Error e

-- the first outcome where the test is true, the second where it is false
abbrev pub choose : Result Bool EvalError → Outcome → Outcome → Outcome
choose (Ok true) x y = x
choose (Ok false) x y = y
choose (Err e) x y = Error e

-- goes on with a value; an error stays
abbrev pub with_value : Outcome → (Val → Outcome) → Outcome
with_value (Value v) f = f v
with_value (Error e) f = Error e

-- with one more value at the head; its error comes first
abbrev pub in_prefix : {X : Type 0} → (Val → X) → Outcome →
    Result (List X) EvalError → Result (List X) EvalError
in_prefix f (Error e) r = Err e
in_prefix f (Value v) r = result_map (λ xs. f v ∷ xs) r

abbrev pub set_outcome : Result (List Val) EvalError → Outcome
set_outcome (Ok vs) = Value (value.set (set_of vs))
set_outcome (Err e) = Error e

abbrev pub record_outcome : Result (List (List ℕ × Val)) EvalError → Outcome
record_outcome (Ok fs) = Value (value.rec (fields_of fs))
record_outcome (Err e) = Error e

module _ {A : Type 0} where
  -- `if`, `&&` and `||` evaluate the left operand and stop early; each operand that they use must be a
  -- boolean. Every other operator evaluates its operands from the left, and then asks what kinds they are. A
  -- set evaluates its elements in order, a record its fields in the order of their keys. A slot stands for an
  -- id that is not known, and has no value. The first error is the result.
  abbrev mutual
    pub eval : Tree A → Request → Store → Outcome
    eval (lit l a) q s = Value (literal_value l)
    eval (var v a) q s = Value (variable_value v q)
    eval (slot i a) q s = Error TypeFault
    eval (ite x y z a) q s = choose (truth_of (eval x q s)) (eval y q s) (eval z q s)
    eval (conj x y a) q s =
        choose (truth_of (eval x q s)) (truth_outcome (truth_of (eval y q s))) (Value (truth false))
    eval (disj x y a) q s =
        choose (truth_of (eval x q s)) (Value (truth true)) (truth_outcome (truth_of (eval y q s)))
    eval (unary o x a) q s = with_value (eval x q s) (λ v. unary_value o v)
    eval (binary o x y a) q s =
        with_value (eval x q s) (λ v. with_value (eval y q s) (λ w. binary_value o v w s))
    eval (attr x n a) q s = with_value (eval x q s) (λ v. attr_value v n s)
    eval (has x n a) q s = with_value (eval x q s) (λ v. has_value v n s)
    eval (like x p a) q s = with_value (eval x q s) (λ v. like_value v p)
    eval (is_type x t a) q s = with_value (eval x q s) (λ v. is_value v t)
    eval (call f xs a) q s = call_outcome f (eval_all xs q s)
    eval (set xs a) q s = set_outcome (eval_all xs q s)
    eval (rec xs a) q s = record_outcome (eval_named xs q s)

    pub eval_all : Trees A → Request → Store → Result (List Val) EvalError
    eval_all no_trees q s = Ok []
    eval_all (tree x xs) q s = in_prefix (λ v. v) (eval x q s) (eval_all xs q s)

    pub eval_named : Named A → Request → Store → Result (List (List ℕ × Val)) EvalError
    eval_named no_named q s = Ok []
    eval_named (named k x xs) q s = in_prefix (λ v. (k, v)) (eval x q s) (eval_named xs q s)

  -- a literal that is a boolean or a long
  abbrev pub IsPlainLiteral : Tree A → Type 0
  IsPlainLiteral (lit l a) = IsPlain l
  IsPlainLiteral e = ⊥
