-- `if`, by its test and its branches taken apart.
use Rattle.std.specs.Prelude.{Bool, true, false, ◌&&◌, List, ◌++◌, Option, None, option_map}
use Rattle.std.specs.Option.{option_and_then}
use Rattle.schema_core.specs.Schema.{SchemaData}
use Rattle.schema_core.specs.EnvData.{EnvData}
use Rattle.schema_types.specs.declared.kinds.Primitive.TheVariants.{Bool as BoolType}
use Rattle.schema_types.specs.Ty.{Ty, true_type, false_type, primitive}
use Rattle.typing_spec.specs.Capability.{Capability, common}
use Rattle.policy_expressions.specs.Plain.{Plain}
use Rattle.policy_expressions.specs.Tree.{ite, Mark}
use Rattle.typing_spec.specs.Rules.{strict_join}
use Rattle.typing_spec.specs.Typing.{Typed, Typing, typing, at, if_typing}
use Rattle.findings.specs.Finding.{Finding}
use Rattle.typecheck_rules.specs.Walked.{Walked, ended, lends}
use Rattle.typecheck_rules.specs.Operators.{branches_found, reached_after}
use Rattle.typecheck_rules.specs.Walk.{walked}
use Rattle.typecheck_rules.specs.Found.{findings_from}
use Rattle.typecheck_operators.specs.Reported.{Operand, given}
use Rattle.typecheck_walk.specs.Sides.{reached}
use Rattle.typecheck_walk.specs.declared.conditional.Test.{Test}
use Rattle.typecheck_walk.specs.declared.conditional.Chosen.{Chosen}

-- the walk through the first branch, with what the test makes known, unless that failed
abbrev pub first_branch_walked : SchemaData → EnvData → List Capability → Walked → Plain → Walked
first_branch_walked schema env cs u y =
    reached_after u (λ ds. walked schema env (cs ++ ds) y) (walked schema env cs y)

-- a test taken apart: one that gives no type is one of which nothing is known
pub record Tested : Type 0 where
  pub ok : Bool
  pub of : Ty
  pub caps : List Capability
  pub tree : Typed
  pub found : List Finding

abbrev pub tested_of : Test → Tested
tested_of u =
    record { ok = u.ok; of = u.of; caps = u.caps; tree = u.tree; found = findings_from u.found.items }

abbrev pub chosen : Ty → List Capability → Bool → Bool → Chosen
chosen t cs b c = record { of = t; caps = cs; has_first = b; has_second = c }

-- the first branch alone, and the second alone
abbrev pub first_own : List Capability → Operand → Option Chosen
first_own cs a = option_map (λ t. chosen t (a.caps ++ cs) true false) a.of

abbrev pub second_own : Operand → Option Chosen
second_own b = option_map (λ t. chosen t b.caps false true) b.of

-- both branches, whose types have a join
abbrev pub joined_own : List Capability → Operand → Operand → Option Chosen
joined_own cs a b =
    option_and_then
    (λ t. option_and_then
    (λ u. option_map (λ w. chosen w (common b.caps (a.caps ++ cs)) true true) (strict_join t u)) b.of)
    a.of

-- the type of the branches that are reached, what is known, and which are reached
abbrev pub own_behind : Ty → List Capability → Operand → Operand → Option Chosen
own_behind true_type cs a b = first_own cs a
own_behind false_type cs a b = second_own b
own_behind (primitive BoolType) cs a b = joined_own cs a b
own_behind t cs a b = None

abbrev pub if_own : Tested → Operand → Operand → Option Chosen
if_own u a b = own_behind u.of u.caps a b

abbrev pub if_typed : Mark (Unit {0}) → Typed → Typed → Typed → Chosen → Typing
if_typed m x y z o = typing o.of o.caps (ite x (reached o.has_first y) (reached o.has_second z) (at o.of m))

abbrev pub if_by : Mark (Unit {0}) → Option Chosen → Bool → Typed → Typed → Typed → List Finding → Walked
if_by m o ok x y z fs = ended ok (option_map (if_typed m x y z) o) (ite x y z (lends None m)) fs

abbrev pub all_ok : Tested → Operand → Operand → Bool
all_ok u a b = u.ok && (a.ok && b.ok)

abbrev pub all_found : Tested → Operand → Operand → List Finding → List Finding
all_found u a b fs = u.found ++ (a.found ++ (b.found ++ fs))

abbrev pub if_of : Mark (Unit {0}) → Tested → Operand → Operand → Walked
if_of m u a b =
    ended (all_ok u a b) (if_typing u.of u.caps u.tree m (given a) (given b))
    (ite u.tree a.tree b.tree (lends None m))
    (all_found u a b (branches_found m u.of a.of b.of))
