-- Levels are below depths.
use Rattle.std.proofs.Common.{ℕ, ◌+◌, ◌<◌, ◌≤◌, max, Bool, true, false, List, [], ◌∷◌, Option, Some, None, cond, arith}
use Rattle.std.specs.Prelude.{IfSome}
use Rattle.std.specs.Ordering.{is_eq}
use Rattle.policy_values.specs.declared.entity_uid.EntityUID.{EntityUID}
use Rattle.policy_values.specs.Uid.{text_cmp, uid_eq}
use Rattle.schema_types.specs.Ty.{Ty}
use Rattle.policy_expressions.specs.declared.kinds.Literal.{Literal}
use Rattle.policy_expressions.specs.declared.kinds.Literal.TheVariants as literal
use Rattle.policy_expressions.specs.declared.kinds.BinaryOp.{BinaryOp}
use Rattle.policy_expressions.specs.declared.kinds.BinaryOp.TheVariants.{GetTag}
use Rattle.policy_expressions.specs.Tree.{lit, var, ite, binary, attr, rec, Named, no_named, named, Mark, depth_of, deepest_named}
use Rattle.typing_spec.specs.Typing.{Typed}
use Rattle.level_spec.specs.Levels.{is_reached, gives_entity, greater, if_level, one_more, binary_level, literal_level, level, level_under}

-- a level below a depth
abbrev pub IsBelow : Option ℕ → ℕ → Type 0
IsBelow o d = IfSome o (λ k. k < d)

literal_below : (action : Option EntityUID) (l : Literal) → IsBelow (literal_level action l) 1
literal_below (Some a) (literal.EntityUID u) = here (uid_eq u a)
  where
    here : (b : Bool) → IsBelow (cond b (Some 0) None) 1
    here true = omega arith
    here false = tt
literal_below None (literal.EntityUID u) = tt
literal_below (Some a) l = tt
literal_below None l = tt

further : (o : Option ℕ) (d : ℕ) → IsBelow o d → IsBelow (one_more o) (d + 1)
further None d h = tt
further (Some k) d h = omega (arith, h)

wider : (o : Option ℕ) (d e : ℕ) → d ≤ e → IsBelow o d → IsBelow o e
wider None d e le h = tt
wider (Some k) d e le h = omega (arith, h)

both_below : (o p : Option ℕ) (d e : ℕ) → IsBelow o d → IsBelow p e → IsBelow (greater o p) (max d e)
both_below None p d e h i = tt
both_below (Some j) None d e h i = tt
both_below (Some j) (Some k) d e h i = omega (arith, h, i)

if_below : (b c : Bool) (o p : Option ℕ) (d e f : ℕ) → IsBelow o e → IsBelow p f → IsBelow (if_level b c o p) (max d (max e f) + 1)
if_below true true o p d e f h i = wider (greater o p) (max e f) (max d (max e f) + 1) (omega arith) (both_below o p e f h i)
if_below true false o p d e f h i = wider o e (max d (max e f) + 1) (omega arith) h
if_below false true o p d e f h i = wider p f (max d (max e f) + 1) (omega arith) i
if_below false false o p d e f h i = omega arith

attr_below : (b : Bool) (o p : Option ℕ) (d : ℕ) → IsBelow o d → IsBelow p d → IsBelow (cond b (one_more o) p) (d + 1)
attr_below true o p d h i = further o d h
attr_below false o p d h i = wider p d (d + 1) (omega arith) i

field_below : (b : Bool) (o p : Option ℕ) (d e : ℕ) → IsBelow o d → IsBelow p e → IsBelow (cond b o p) (max d e)
field_below true o p d e h i = wider o d (max d e) (omega arith) h
field_below false o p d e h i = wider p e (max d e) (omega arith) i

binary_below : (op : BinaryOp) (o : Option ℕ) (d e : ℕ) → IsBelow o d → IsBelow (binary_level op o) (max d e + 1)
binary_below GetTag o d e h = wider (one_more o) (d + 1) (max d e + 1) (omega arith) (further o d h)
binary_below op o d e h = tt

module _ (action : Option EntityUID) where
  mutual
    pub level_below : (e : Typed) (fs : List (List ℕ)) → IsBelow (level action e fs) (depth_of e)
    level_below (lit l a) fs = literal_below action l
    level_below (var v a) fs = omega arith
    level_below (ite x y z a) fs = if_below (is_reached y) (is_reached z) (level action y fs) (level action z fs) (depth_of x) (depth_of y) (depth_of z) (level_below y fs) (level_below z fs)
    level_below (binary o x y a) fs = binary_below o (level action x []) (depth_of x) (depth_of y) (level_below x [])
    level_below (attr x n a) fs = attr_below (gives_entity x) (level action x []) (level action x (n ∷ fs)) (depth_of x) (level_below x []) (level_below x (n ∷ fs))
    level_below (rec xs a) fs = wider (level_under action xs fs) (deepest_named xs) (deepest_named xs + 1) (omega arith) (under_below xs fs)
    level_below e fs = tt

    under_below : (xs : Named (Mark (Option Ty))) (fs : List (List ℕ)) → IsBelow (level_under action xs fs) (deepest_named xs)
    under_below no_named fs = tt
    under_below (named k x xs) [] = tt
    under_below (named k x xs) (n ∷ fs) = field_below (is_eq (text_cmp n k)) (level action x fs) (level_under action xs (n ∷ fs)) (depth_of x) (deepest_named xs) (level_below x fs) (under_below xs (n ∷ fs))
