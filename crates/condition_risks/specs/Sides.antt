-- Which entities are in the store, once it is known whether an expression is true.
use Rattle.std.specs.Prelude.{ℕ, Bool, true, false, not, List, [], ◌∷◌, ◌++◌, Option, Some, None, filter, take}
use Rattle.std.specs.List.{list_any}
use Rattle.policy_expressions.specs.declared.kinds.Literal.{Literal}
use Rattle.policy_expressions.specs.declared.kinds.Literal.TheVariants as literal
use Rattle.policy_expressions.specs.declared.kinds.UnaryOp.{UnaryOp}
use Rattle.policy_expressions.specs.declared.kinds.UnaryOp.TheVariants.{Not}
use Rattle.policy_expressions.specs.declared.kinds.BinaryOp.{BinaryOp}
use Rattle.policy_expressions.specs.declared.kinds.BinaryOp.TheVariants.{HasTag}
use Rattle.policy_expressions.specs.Tree.{lit, ite, conj, disj, unary, binary, has}
use Rattle.typing_spec.specs.Bare.{same_tree}
use Rattle.typing_spec.specs.Typing.{Typed}

-- expressions whose entities are in the store; none where it cannot come to this
abbrev pub Found : Type 0
Found = Option (List Typed)

-- what is found once an expression is true, and once it is false
pub record Sides : Type 0 where
  pub if_true : Found
  pub if_false : Found

abbrev pub sides_of : Found → Found → Sides
sides_of a b = record { if_true = a; if_false = b }

-- one of the expressions is the same, but for notes and places
abbrev pub is_found : List Typed → Typed → Bool
is_found xs x = list_any (same_tree x) xs

-- how many expressions are remembered at once, since all of them are compared with each operand
abbrev pub remembered : ℕ
remembered = 16

-- the first of the one list, and of the other what is not among these
abbrev pub merged : List Typed → List Typed → List Typed
merged xs ys = take remembered (xs ++ filter (λ y. not (is_found xs y)) ys)

-- what is found where both come about, and where one of them does
abbrev pub both : Found → Found → Found
both (Some xs) (Some ys) = Some (merged xs ys)
both a b = None

abbrev pub either : Found → Found → Found
either (Some xs) (Some ys) = Some (filter (is_found ys) xs)
either (Some xs) None = Some xs
either None b = b

abbrev pub either_sides : Sides → Sides → Sides
either_sides a b = sides_of (either a.if_true b.if_true) (either a.if_false b.if_false)

-- of an operand that is evaluated where it came to one side of another
abbrev pub behind : Found → Sides → Sides
behind f b = sides_of (both f b.if_true) (both f b.if_false)

-- `if` goes on behind either side of its test, `&&` behind true, `||` behind false
abbrev pub if_sides : Sides → Sides → Sides → Sides
if_sides a b c = either_sides (behind a.if_true b) (behind a.if_false c)

abbrev pub and_sides : Sides → Sides → Sides
and_sides a b = either_sides (behind a.if_true b) (sides_of None a.if_false)

abbrev pub or_sides : Sides → Sides → Sides
or_sides a b = either_sides (sides_of a.if_true None) (behind a.if_false b)

abbrev pub nothing_found : Sides
nothing_found = sides_of (Some []) (Some [])

abbrev pub literal_sides : Literal → Sides
literal_sides (literal.Bool true) = sides_of (Some []) None
literal_sides (literal.Bool false) = sides_of None (Some [])
literal_sides l = nothing_found

abbrev pub unary_sides : UnaryOp → Sides → Sides
unary_sides Not a = sides_of a.if_false a.if_true
unary_sides o a = nothing_found

-- what has an attribute or a tag is in the store, if it is an entity
abbrev pub found_if_true : Typed → Sides
found_if_true x = sides_of (Some (x ∷ [])) (Some [])

abbrev pub binary_sides : BinaryOp → Typed → Sides
binary_sides HasTag x = found_if_true x
binary_sides o x = nothing_found

abbrev pub sides : Typed → Sides
sides (lit l m) = literal_sides l
sides (ite x y z m) = if_sides (sides x) (sides y) (sides z)
sides (conj x y m) = and_sides (sides x) (sides y)
sides (disj x y m) = or_sides (sides x) (sides y)
sides (unary o x m) = unary_sides o (sides x)
sides (binary o x y m) = binary_sides o x
sides (has x n m) = found_if_true x
sides e = nothing_found
