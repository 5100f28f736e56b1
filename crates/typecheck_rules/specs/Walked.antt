-- What a walk through an expression comes to, and how what operands come to makes what their operator
-- comes to.
use Rattle.std.specs.Prelude.{Bool, true, false, ◌&&◌, List, [], ◌∷◌, ◌++◌, Option, Some, None, cond, map, option_map}
use Rattle.std.specs.List.{list_all, flat_map}
use Rattle.std.specs.Option.{option_and_then}
use Rattle.policy_expressions.specs.declared.kinds.Loc.{Loc}
use Rattle.policy_expressions.specs.Tree.{Trees, Mark, mark_of, with_mark, trees_of}
use Rattle.schema_types.specs.Ty.{Ty}
use Rattle.typing_spec.specs.Typing.{Typed, Typing, typing}
use Rattle.findings.specs.Finding.{Finding, Kind, UnexpectedType}
use Rattle.typecheck_rules.specs.Expected.{Expected}

pub data Walked : Type 0 where
  -- the typing
  Success : Typing → Walked
  -- the expression with the types that are known of its parts, of which its own is given to the operator
  -- above; and what is found
  Fail : Typed → List Finding → Walked

abbrev pub typing_of : Walked → Option Typing
typing_of (Success a) = Some a
typing_of (Fail t fs) = None

abbrev pub findings_of : Walked → List Finding
findings_of (Success a) = []
findings_of (Fail t fs) = fs

abbrev pub tree_of : Walked → Typed
tree_of (Success a) = a.tree
tree_of (Fail t fs) = t

abbrev pub has_typing : Walked → Bool
has_typing (Success a) = true
has_typing (Fail t fs) = false

-- what the operator above takes for the operand's typing: after a failure the type that is known, if any,
-- with which nothing is known
abbrev pub given_tree : Typed → Option Typing
given_tree t = option_map (λ u. typing u [] t) (mark_of t).note

abbrev pub given_by : Walked → Option Typing
given_by (Success a) = Some a
given_by (Fail t fs) = given_tree t

-- a mark for what is given, at the same place
abbrev pub lends : Option Ty → Mark (Unit {0}) → Mark (Option Ty)
lends t m = record { note = t; loc = m.loc }

-- the same expression, which gives nothing
abbrev pub untyped : Typed → Typed
untyped t = with_mark t (record { note = None; loc = (mark_of t).loc })

abbrev pub one : Kind → Option Loc → List Finding
one k l = record { kind = k; loc = l } ∷ []

-- what is found of an operand whose type does not fit
abbrev pub unexpected : Expected → Option Loc → Ty → List Finding
unexpected x l t = one (UnexpectedType x.types t (x.help t)) l

-- an operand that failed: where it gives a type that does not fit, that is found too, and it gives nothing
abbrev pub expect_given : Expected → Option Loc → Option Ty → Typed → List Finding → Walked
expect_given x l None t fs = Fail t fs
expect_given x l (Some u) t fs = cond (x.fits u) (Fail t fs) (Fail (untyped t) (fs ++ unexpected x l u))

-- an operand that has to fit
abbrev pub expect : Expected → Option Loc → Walked → Walked
expect x l (Success a) = cond (x.fits a.type) (Success a) (Fail (untyped a.tree) (unexpected x l a.type))
expect x l (Fail t fs) = expect_given x l (mark_of t).note t fs

abbrev pub expect_if : Option Expected → Option Loc → Walked → Walked
expect_if None l w = w
expect_if (Some x) l w = expect x l w

-- how an operator ends, by whether all its operands have a typing, its own typing over what they give, what
-- it gives where it has none, and all that is found
abbrev pub ended : Bool → Option Typing → Typed → List Finding → Walked
ended b (Some a) t fs = cond b (Success a) (Fail a.tree fs)
ended b None t fs = Fail t fs

-- an operator of one operand, and of two: what is found of the operands, and then of the operator itself
abbrev pub one_walked : (Typing → Option Typing) → Typed → List Finding → Walked → Walked
one_walked rule failed own v =
    ended (has_typing v) (option_and_then rule (given_by v)) failed (findings_of v ++ own)

abbrev pub both : (Typing → Typing → Option Typing) → Option Typing → Option Typing → Option Typing
both rule a b = option_and_then (λ x. option_and_then (rule x) b) a

abbrev pub two_walked : (Typing → Typing → Option Typing) → Typed → List Finding → Walked → Walked → Walked
two_walked rule failed own v w = ended (has_typing v && has_typing w)
    (both rule (given_by v) (given_by w)) failed (findings_of v ++ (findings_of w ++ own))

-- all of several, where each is there
abbrev pub all_some : {A : Type 0} → List (Option A) → Option (List A)
all_some [] = Some []
all_some (o ∷ os) = option_and_then (λ x. option_map (λ xs. x ∷ xs) (all_some os)) o

abbrev pub given_by_all : List Walked → Option (List Typing)
given_by_all ws = all_some (map given_by ws)

abbrev pub trees_walked : List Walked → Trees (Mark (Option Ty))
trees_walked ws = trees_of (map tree_of ws)

abbrev pub findings_of_all : List Walked → List Finding
findings_of_all ws = flat_map findings_of ws

-- an operator of several, with all that is found
abbrev pub all_walked : (List Typing → Option Typing) → Typed → List Finding → List Walked → Walked
all_walked rule failed found ws =
    ended (list_all has_typing ws) (option_and_then rule (given_by_all ws)) failed found
