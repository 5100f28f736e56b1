-- What may go wrong in a condition that has a type.
use Rattle.std.specs.Prelude.{Bool, false, ◌||◌, List, [], ◌∷◌, ◌++◌, Option, Some, None, cond}
use Rattle.schema_types.specs.Ty.{Ty}
use Rattle.type_relations.specs.Join.{is_record}
use Rattle.policy_expressions.specs.declared.kinds.UnaryOp.{UnaryOp}
use Rattle.policy_expressions.specs.declared.kinds.UnaryOp.TheVariants.{Neg}
use Rattle.policy_expressions.specs.declared.kinds.BinaryOp.{BinaryOp}
use Rattle.policy_expressions.specs.declared.kinds.BinaryOp.TheVariants.{Add, Sub, Mul, GetTag}
use Rattle.policy_expressions.specs.declared.functions.UnaryFunction.TheVariants.{ToDate}
use Rattle.policy_expressions.specs.declared.functions.BinaryFunction.TheVariants.{Offset, DurationSince}
use Rattle.policy_expressions.specs.declared.functions.ExtensionFunction.{ExtensionFunction}
use Rattle.policy_expressions.specs.declared.functions.ExtensionFunction.TheVariants.{Unary, Binary}
use Rattle.policy_expressions.specs.Functions.{function_of}
use Rattle.policy_expressions.specs.Tree.{lit, var, slot, ite, conj, disj, unary, binary, attr, has, like, is_type, call, set, rec, Trees, no_trees, tree, Named, no_named, named, Mark, mark_of}
use Rattle.typing_spec.specs.Typing.{Typed}
use Rattle.condition_risks.specs.Sides.{Found, is_found, merged, sides}

pub data Risk : Type 0 where
  -- the entity that the expression evaluates to may not be in the store
  missing : Typed → Risk
  -- the sum, difference, product or negation may not fit 64 bits
  integer_overflow : Typed → Risk
  -- the datetime or duration may not fit 64 bits
  extension_overflow : Typed → Risk

abbrev pub is_noted_record : Option Ty → Bool
is_noted_record (Some t) = is_record t
is_noted_record None = false

-- its type says that it is a record
abbrev pub is_of_record : Typed → Bool
is_of_record x = is_noted_record (mark_of x).note

abbrev pub unary_risks : UnaryOp → Typed → List Risk
unary_risks Neg e = integer_overflow e ∷ []
unary_risks o e = []

abbrev pub call_risks : Option ExtensionFunction → Typed → List Risk
call_risks (Some (Unary ToDate)) e = extension_overflow e ∷ []
call_risks (Some (Binary Offset)) e = extension_overflow e ∷ []
call_risks (Some (Binary DurationSince)) e = extension_overflow e ∷ []
call_risks f e = []

-- of an operand that is evaluated where it came to one side of another, if it can
abbrev pub risks_behind : Found → List Typed → (List Typed → List Risk) → List Risk
risks_behind None known f = []
risks_behind (Some found) known f = f (merged found known)

-- where the entities of some expressions are stored
module _ (stored : List Typed) where
  abbrev pub is_known : List Typed → Typed → Bool
  is_known known x = is_found stored x || is_found known x

  -- of `.`: an entity that may not be in the store
  abbrev pub attr_risks : List Typed → Typed → List Risk
  attr_risks known x = cond (is_of_record x || is_known known x) [] (missing x ∷ [])

  abbrev pub tag_risks : List Typed → Typed → List Risk
  tag_risks known x = cond (is_known known x) [] (missing x ∷ [])

  abbrev pub binary_risks : List Typed → BinaryOp → Typed → Typed → List Risk
  binary_risks known Add x e = integer_overflow e ∷ []
  binary_risks known Sub x e = integer_overflow e ∷ []
  binary_risks known Mul x e = integer_overflow e ∷ []
  binary_risks known GetTag x e = tag_risks known x
  binary_risks known o x e = []

  -- the risks of an expression, where the entities of these are known to be stored, too
  abbrev mutual
    pub risks : List Typed → Typed → List Risk
    risks known (lit l m) = []
    risks known (var v m) = []
    risks known (slot i m) = []
    risks known (ite x y z m) = risks known x ++
        (risks_behind (sides x).if_true known (λ more. risks more y)
        ++ risks_behind (sides x).if_false known (λ more. risks more z))
    risks known (conj x y m) = risks known x ++ risks_behind (sides x).if_true known (λ more. risks more y)
    risks known (disj x y m) = risks known x ++ risks_behind (sides x).if_false known (λ more. risks more y)
    risks known (unary o x m) = risks known x ++ unary_risks o (unary o x m)
    risks known (binary o x y m) =
        (risks known x ++ risks known y) ++ binary_risks known o x (binary o x y m)
    risks known (attr x n m) = risks known x ++ attr_risks known x
    risks known (has x n m) = risks known x
    risks known (like x p m) = risks known x
    risks known (is_type x n m) = risks known x
    risks known (call f xs m) = risks_all known xs ++ call_risks (function_of f) (call f xs m)
    risks known (set xs m) = risks_all known xs
    risks known (rec xs m) = risks_named known xs

    pub risks_all : List Typed → Trees (Mark (Option Ty)) → List Risk
    risks_all known no_trees = []
    risks_all known (tree x xs) = risks known x ++ risks_all known xs

    pub risks_named : List Typed → Named (Mark (Option Ty)) → List Risk
    risks_named known no_named = []
    risks_named known (named k x xs) = risks known x ++ risks_named known xs
