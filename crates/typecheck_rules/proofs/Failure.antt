-- Where all names are known, what has no type is reported.
use Rattle.std.proofs.Common.{sym, subst, true≢false, List, [], ◌∷◌, ◌++◌, Option, Some, None, IsSome}
use Rattle.schema_types.specs.Ty.{Ty}
use Rattle.schema_core.specs.Schema.{SchemaData}
use Rattle.schema_core.specs.EnvData.{EnvData, action_type_in}
use Rattle.policy_expressions.specs.declared.kinds.Var.{Var}
use Rattle.policy_expressions.specs.declared.kinds.Var.TheVariants.{Principal, Action, Resource, Context}
use Rattle.policy_expressions.specs.Functions.{function_of}
use Rattle.policy_expressions.specs.Tree.{lit, var, slot, ite, conj, disj, unary, binary, attr, has, like, is_type, call, set, rec, Trees, no_trees, tree, Named, no_named, named, Mark}
use Rattle.policy_expressions.specs.Plain.{Plain}
use Rattle.typing_spec.specs.Capability.{Capability, has_cap}
use Rattle.typing_spec.specs.Environment.{type_of_literal, type_of_variable}
use Rattle.typing_spec.specs.Typing.{Typed, attribute_known, tag_known}
use Rattle.typecheck_rules.specs.Walked.{Walked, Success, Fail, typing_of, findings_of}
use Rattle.typecheck_rules.specs.Operators.{place, leaf_walked, parts_of}
use Rattle.typecheck_rules.specs.Walk.{walked, walked_all, walked_named}
use Rattle.typecheck_rules.specs.Laws.{HasTypingOrFinding, FailureIsReported}
use Rattle.typecheck_rules.proofs.KnownNames.{HasKnownNames, HaveKnownNames, FieldsHaveKnownNames, names_known}
use Rattle.typecheck_rules.proofs.Found.{HasFinding}
use Rattle.typecheck_rules.proofs.Failing.{unary_reported, like_reported, is_reported, has_reported, attr_reported, binary_reported, and_is_reported, or_is_reported, if_is_reported, HaveFindings, set_reported, record_reported}
use Rattle.typecheck_rules.proofs.WalkedCalls.{AreWalked, call_reported}
use Rattle.typecheck_rules.proofs.Exact.{exact}

leaf_reported : (part : Mark (Option Ty) → Typed) (m : Mark (Unit {0})) (o : Option Ty) → IsSome o → HasFinding (leaf_walked part m o)
leaf_reported part m None e = absurd (true≢false (sym e))
leaf_reported part m (Some t) e = tt

are_walked : (schema : SchemaData) (env : EnvData) (cs : List Capability) (xs : Trees (Mark (Unit {0}))) → AreWalked xs (walked_all schema env cs xs)
are_walked schema env cs no_trees = tt
are_walked schema env cs (tree x xs) = are_walked schema env cs xs

module _ (schema : SchemaData) (env : EnvData) (known : IsSome (action_type_in schema env)) where
  variable_reported : (v : Var) (m : Mark (Unit {0})) → HasFinding (leaf_walked (var v) m (type_of_variable schema env v))
  variable_reported Principal m = tt
  variable_reported Action m = leaf_reported (var Action) m (action_type_in schema env) known
  variable_reported Resource m = tt
  variable_reported Context m = tt

  mutual
    found : (cs : List Capability) (e : Plain) → HasKnownNames schema e → HasFinding (walked schema env cs e)
    found cs (lit l m) h = leaf_reported (lit l) m (type_of_literal schema l) h
    found cs (var v m) h = variable_reported v m
    found cs (slot i m) h = tt
    found cs (ite x y z m) h =
        if_is_reported m (place x) (walked schema env cs x) (λ ds. walked schema env (cs ++ ds) y) (walked schema env cs y) (walked schema env cs z) (found cs x h.0) (λ ds. found (cs ++ ds) y h.1) (found cs z h.2)
    found cs (conj x y m) h =
        and_is_reported m (place x) (place y) (walked schema env cs x) (λ ds. walked schema env (cs ++ ds) y) (walked schema env cs y) (found cs x h.0) (λ ds. found (cs ++ ds) y h.1)
    found cs (disj x y m) h = or_is_reported m (place x) (place y) (walked schema env cs x) (walked schema env cs y) (found cs x h.0) (found cs y h.1)
    found cs (unary o x m) h = unary_reported o m (place x) (walked schema env cs x) (found cs x h)
    found cs (binary o x y m) h = binary_reported schema env o (has_cap cs (tag_known x y)) x y m (walked schema env cs x) (walked schema env cs y) (found cs x h.0) (found cs y h.1)
    found cs (attr x n m) h = attr_reported schema env (has_cap cs (attribute_known x n)) n m (place x) (walked schema env cs x) (found cs x h)
    found cs (has x n m) h = has_reported schema (has_cap cs (attribute_known x n)) x n m (walked schema env cs x) (found cs x h)
    found cs (like x p m) h = like_reported p m (place x) (walked schema env cs x) (found cs x h)
    found cs (is_type x n m) h = is_reported n m (place x) (walked schema env cs x) (found cs x h)
    found cs (call f xs m) h = call_reported f (function_of f) xs m (walked_all schema env cs xs) (are_walked schema env cs xs) (found_all cs xs h)
    found cs (set xs m) h = set_reported m (walked_all schema env cs xs) (found_all cs xs h)
    found cs (rec xs m) h = record_reported m (walked_named schema env cs xs) (found_named cs xs h)

    found_all : (cs : List Capability) (xs : Trees (Mark (Unit {0}))) → HaveKnownNames schema xs → HaveFindings (walked_all schema env cs xs)
    found_all cs no_trees h = tt
    found_all cs (tree x xs) h = (found cs x h.0, found_all cs xs h.1)

    found_named : (cs : List Capability) (xs : Named (Mark (Unit {0}))) → FieldsHaveKnownNames schema xs → HaveFindings (parts_of (walked_named schema env cs xs))
    found_named cs no_named h = tt
    found_named cs (named k x xs) h = (found cs x h.0, found_named cs xs h.1)

reported_of : (w : Walked) → HasFinding w → HasTypingOrFinding (typing_of w) (findings_of w)
reported_of (Success a) h = tt
reported_of (Fail t []) h = absurd h
reported_of (Fail t (f ∷ fs)) h = tt

pub failure_reported : FailureIsReported
failure_reported schema env known cs e h = subst (λ t. HasTypingOrFinding t (findings_of (walked schema env cs e))) (exact schema env cs e) (reported_of (walked schema env cs e) (found schema env known cs e (names_known schema e h)))
