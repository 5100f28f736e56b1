-- The findings of the faults of an expression. Where an expression has no type, its faults are those of its
-- operands that are reached, or it is one itself where these have types; behind a first operand that can't be
-- a test all others are looked at too.
use Rattle.std.specs.Prelude.{ℕ, List, [], ◌++◌, Option, Some, None, map}
use Rattle.schema_types.specs.declared.kinds.Primitive.TheVariants.{Bool as BoolType}
use Rattle.schema_types.specs.Ty.{Ty, true_type, false_type, primitive}
use Rattle.schema_core.specs.Schema.{SchemaData}
use Rattle.schema_core.specs.EnvData.{EnvData}
use Rattle.policy_expressions.specs.declared.kinds.Loc.{Loc}
use Rattle.policy_expressions.specs.declared.functions.ExtensionFunction.{ExtensionFunction}
use Rattle.policy_expressions.specs.Functions.{function_of}
use Rattle.policy_expressions.specs.Tree.{lit, var, slot, ite, conj, disj, unary, binary, attr, has, like, is_type, call, set, rec, Trees, no_trees, tree, Named, no_named, named, Mark}
use Rattle.policy_expressions.specs.Plain.{Plain}
use Rattle.typing_spec.specs.Capability.{Capability, has_cap}
use Rattle.typing_spec.specs.Typing.{Typing, attribute_known, tag_known, types, types_all}
use Rattle.findings.specs.Finding.{Finding, UndefinedFunction}
use Rattle.typecheck_rules.specs.Expected.{a_boolean}
use Rattle.typecheck_rules.specs.Walked.{Success, findings_of, one, unexpected, expect}
use Rattle.typecheck_rules.specs.Own.{call_found}
use Rattle.typecheck_rules.specs.Operators.{place, unary_walked, like_walked, is_walked, has_walked, attr_walked, binary_walked, if_parts, set_walked, call_walked}

-- what is found where an operand, where both, where all have typings; else what is found of the operands
abbrev pub at_typed : {A : Type 0} → Option A → List Finding → (A → List Finding) → List Finding
at_typed None fs found = fs
at_typed (Some a) fs found = found a

abbrev pub at_both : Option Typing → Option Typing →
    List Finding → (Typing → Typing → List Finding) → List Finding
at_both a b fs found = at_typed a fs (λ x. at_typed b fs (found x))

-- the right side of `&&` or `||`, which has to be a test
abbrev pub side_found : Option Loc → Typing → List Finding
side_found r b = findings_of (expect a_boolean r (Success b))

-- `&&`, by the type of the left side: the faults of the right one with what is known before, and with what
-- the left one makes known
abbrev pub and_faults : Option Loc → Option Loc → Ty →
    List Finding → Option Typing → List Finding → List Finding
and_faults l r false_type before b after = []
and_faults l r true_type before b after = at_typed b after (side_found r)
and_faults l r (primitive BoolType) before b after = at_typed b after (side_found r)
and_faults l r t before b after = unexpected a_boolean l t ++ before

abbrev pub or_faults : Option Loc → Option Loc → Ty → Option Typing → List Finding → List Finding
or_faults l r true_type b fs = []
or_faults l r false_type b fs = at_typed b fs (side_found r)
or_faults l r (primitive BoolType) b fs = at_typed b fs (side_found r)
or_faults l r t b fs = unexpected a_boolean l t ++ fs

-- `if`, by the typing of the test: the faults of the branches with what is known before, and of the first
-- with what the test makes known
abbrev pub if_faults : Mark (Unit {0}) → Option Loc → Ty → Typing → List Finding →
    Option Typing → List Finding → Option Typing → List Finding → List Finding
if_faults m l true_type a before b after c fs = after
if_faults m l false_type a before b after c fs = fs
if_faults m l (primitive BoolType) a before b after c fs =
    at_both b c (after ++ fs) (λ y z. findings_of (if_parts m (Success a) (Success y) (Success z)))
if_faults m l t a before b after c fs = unexpected a_boolean l t ++ (before ++ fs)

-- a call, by its function: an undefined one is the only fault; what is found of a call itself is one besides
-- those of its arguments
abbrev pub call_faults : List ℕ → Option ExtensionFunction → Trees (Mark (Unit {0})) →
    Mark (Unit {0}) → Option (List Typing) → List Finding → List Finding
call_faults f None xs m ys fs = one (UndefinedFunction f) m.loc
call_faults f (Some g) xs m ys fs = at_typed ys (call_found g xs m.loc ++ fs)
    (λ ts. findings_of (call_walked f (Some g) xs m (map Success ts)))

module _ (schema : SchemaData) (env : EnvData) where
  -- with what is known before the expression
  abbrev mutual
    pub faults : List Capability → Plain → List Finding
    faults cs (lit l m) = []
    faults cs (var v m) = []
    faults cs (slot i m) = []
    faults cs (ite x y z m) =
        at_typed (types schema env cs x) (faults cs x ++ (faults cs y ++ faults cs z))
        (λ a. if_faults m (place x) a.type a (faults cs y) (types schema env (cs ++ a.caps) y)
        (faults (cs ++ a.caps) y) (types schema env cs z) (faults cs z))
    faults cs (conj x y m) =
        at_typed (types schema env cs x) (faults cs x ++ faults cs y)
        (λ a. and_faults (place x) (place y) a.type (faults cs y)
        (types schema env (cs ++ a.caps) y) (faults (cs ++ a.caps) y))
    faults cs (disj x y m) =
        at_typed (types schema env cs x) (faults cs x ++ faults cs y)
        (λ a. or_faults (place x) (place y) a.type (types schema env cs y) (faults cs y))
    faults cs (unary o x m) = at_typed (types schema env cs x) (faults cs x)
        (λ a. findings_of (unary_walked o m (place x) (Success a)))
    faults cs (binary o x y m) =
        at_both (types schema env cs x) (types schema env cs y) (faults cs x ++ faults cs y)
        (λ a b. findings_of
        (binary_walked schema env o (has_cap cs (tag_known x y)) x y m (Success a) (Success b)))
    faults cs (attr x n m) =
        at_typed (types schema env cs x) (faults cs x) (λ a. findings_of
        (attr_walked schema env (has_cap cs (attribute_known x n)) n m (place x) (Success a)))
    faults cs (has x n m) =
        at_typed (types schema env cs x) (faults cs x)
        (λ a. findings_of (has_walked schema (has_cap cs (attribute_known x n)) x n m (Success a)))
    faults cs (like x p m) = at_typed (types schema env cs x) (faults cs x)
        (λ a. findings_of (like_walked p m (place x) (Success a)))
    faults cs (is_type x n m) = at_typed (types schema env cs x) (faults cs x)
        (λ a. findings_of (is_walked n m (place x) (Success a)))
    faults cs (call f xs m) =
        call_faults f (function_of f) xs m (types_all schema env cs xs) (faults_all cs xs)
    faults cs (set xs m) = at_typed (types_all schema env cs xs)
        (faults_all cs xs) (λ ts. findings_of (set_walked m (map Success ts)))
    faults cs (rec xs m) = faults_named cs xs

    pub faults_all : List Capability → Trees (Mark (Unit {0})) → List Finding
    faults_all cs no_trees = []
    faults_all cs (tree x xs) = faults cs x ++ faults_all cs xs

    pub faults_named : List Capability → Named (Mark (Unit {0})) → List Finding
    faults_named cs no_named = []
    faults_named cs (named k x xs) = faults cs x ++ faults_named cs xs
