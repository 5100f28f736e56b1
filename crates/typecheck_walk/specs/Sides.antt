-- `&&` and `||`, by their sides taken apart: each has a type of its own or none, what it makes known, and
-- whether its right side is reached.
use Rattle.std.specs.Prelude.{Bool, true, false, ◌&&◌, List, [], ◌++◌, Option, Some, option_map}
use Rattle.std.specs.Option.{option_and_then}
use Rattle.schema_core.specs.Schema.{SchemaData}
use Rattle.schema_core.specs.EnvData.{EnvData}
use Rattle.schema_types.specs.Ty.{Ty, true_type, false_type}
use Rattle.typing_spec.specs.Capability.{Capability}
use Rattle.policy_expressions.specs.Plain.{Plain}
use Rattle.policy_expressions.specs.Tree.{conj, disj, Mark}
use Rattle.typing_spec.specs.Rules.{and_type, or_type}
use Rattle.typing_spec.specs.Signatures.{bool_type}
use Rattle.typing_spec.specs.Typing.{Typed, Typing, typing, at, unreached, and_caps, and_typing, or_caps, or_typing}
use Rattle.findings.specs.Finding.{Finding}
use Rattle.typecheck_rules.specs.Walked.{Walked, ended, lends}
use Rattle.typecheck_rules.specs.Operators.{reached_after}
use Rattle.typecheck_rules.specs.Truth.{tested}
use Rattle.typecheck_operators.specs.Reported.{Operand, given}
use Rattle.typecheck_walk.specs.declared.sides.Own.{Own}

-- the walk through the right side of `&&`, with what the left side makes known, unless that failed
abbrev pub right_side_walked : SchemaData → EnvData → List Capability → Walked → Plain → Walked
right_side_walked schema env cs v y =
    reached_after v (λ ds. tested schema env (cs ++ ds) y) (tested schema env cs y)

abbrev pub own : Ty → List Capability → Bool → Own
own t cs b = record { of = t; caps = cs; is_reached = b }

-- the expression of a part, or what stands in its place where it is not reached
abbrev pub reached : Bool → Typed → Typed
reached true t = t
reached false t = unreached

-- `&&`, whose left side is not false
abbrev pub and_reached : Ty → List Capability → Operand → Option Own
and_reached t cs b =
    option_and_then (λ u. option_map (λ w. own w (and_caps u cs b.caps) true) (and_type t u)) b.of

abbrev pub and_own_of : Ty → List Capability → Operand → Option Own
and_own_of false_type cs b = Some (own false_type [] false)
and_own_of t cs b = and_reached t cs b

abbrev pub and_own : Operand → Operand → Option Own
and_own a b = option_and_then (λ t. and_own_of t a.caps b) a.of

abbrev pub and_typed : Mark (Unit {0}) → Typed → Typed → Own → Typing
and_typed m x y o = typing o.of o.caps (conj x (reached o.is_reached y) (at o.of m))

abbrev pub and_by : Mark (Unit {0}) → Option Own → Bool → Typed → Typed → List Finding → Walked
and_by m o ok x y fs = ended ok (option_map (and_typed m x y) o) (conj x y (lends (Some bool_type) m)) fs

abbrev pub and_rule : Mark (Unit {0}) → Operand → Operand → Option Typing
and_rule m a b = option_and_then (λ x. and_typing x.type x.caps x.tree m (given b)) (given a)

abbrev pub and_of : Mark (Unit {0}) → Operand → Operand → Walked
and_of m a b =
    ended (a.ok && b.ok) (and_rule m a b) (conj a.tree b.tree (lends (Some bool_type) m)) (a.found ++ b.found)

-- `||`, whose left side is not true
abbrev pub or_reached : Ty → List Capability → Operand → Option Own
or_reached t cs b =
    option_and_then (λ u. option_map (λ w. own w (or_caps t u cs b.caps) true) (or_type t u)) b.of

abbrev pub or_own_of : Ty → List Capability → Operand → Option Own
or_own_of true_type cs b = Some (own true_type cs false)
or_own_of t cs b = or_reached t cs b

abbrev pub or_own : Operand → Operand → Option Own
or_own a b = option_and_then (λ t. or_own_of t a.caps b) a.of

abbrev pub or_typed : Mark (Unit {0}) → Typed → Typed → Own → Typing
or_typed m x y o = typing o.of o.caps (disj x (reached o.is_reached y) (at o.of m))

abbrev pub or_by : Mark (Unit {0}) → Option Own → Bool → Typed → Typed → List Finding → Walked
or_by m o ok x y fs = ended ok (option_map (or_typed m x y) o) (disj x y (lends (Some bool_type) m)) fs

abbrev pub or_rule : Mark (Unit {0}) → Operand → Operand → Option Typing
or_rule m a b = option_and_then (λ x. or_typing x.type x.caps x.tree m (given b)) (given a)

abbrev pub or_of : Mark (Unit {0}) → Operand → Operand → Walked
or_of m a b =
    ended (a.ok && b.ok) (or_rule m a b) (disj a.tree b.tree (lends (Some bool_type) m)) (a.found ++ b.found)
