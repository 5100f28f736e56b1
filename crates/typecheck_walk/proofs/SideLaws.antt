-- The rules of `&&` and `||` over operands taken apart.
use Rattle.std.proofs.Common.{◌≡◌, ◌&&◌, ◌++◌, List, Option, Some, None, true, option_map, refl, ap}
use Rattle.std.specs.Option.{option_and_then}
use Rattle.schema_types.specs.Ty.{Ty, never, true_type, false_type, primitive, any_set, set_of, record_of, any_entity, entity, action, extension}
use Rattle.typing_spec.specs.Capability.{Capability}
use Rattle.policy_expressions.specs.Tree.{conj, disj, Mark}
use Rattle.typing_spec.specs.Rules.{and_type, or_type}
use Rattle.typing_spec.specs.Signatures.{bool_type}
use Rattle.typing_spec.specs.Typing.{Typed, typing, at, and_caps, and_typing, or_caps, or_typing}
use Rattle.typecheck_rules.specs.Walked.{ended, lends}
use Rattle.typecheck_operators.specs.Reported.{Operand, given, given_as}
use Rattle.typecheck_walk.specs.Sides.{own, and_own, and_own_of, and_typed, and_by, and_of, or_own, or_own_of, or_typed, or_by, or_of}

module _ {A B C : Type 0} where
  map_twice : (f : B → C) (g : A → B) (o : Option A) → option_map f (option_map g o) ≡ option_map (λ x. f (g x)) o
  map_twice f g None = refl
  map_twice f g (Some x) = refl

module _ (m : Mark (Unit {0})) (x : Typed) (cs : List Capability) where
  and_right : (t : Ty) (o : Option Ty) (ds : List Capability) (y : Typed)
      → option_map (and_typed m x y) (option_and_then (λ u. option_map (λ w. own w (and_caps u cs ds) true) (and_type t u)) o)
      ≡ option_and_then (λ y. option_map (λ w. typing w (and_caps y.type cs y.caps) (conj x y.tree (at w m))) (and_type t y.type)) (given_as o ds y)
  and_right t None ds y = refl
  and_right t (Some u) ds y = map_twice (and_typed m x y) (λ w. own w (and_caps u cs ds) true) (and_type t u)

  and_left : (t : Ty) (b : Operand) → option_map (and_typed m x b.tree) (and_own_of t cs b) ≡ and_typing t cs x m (given b)
  and_left never b = and_right never b.of b.caps b.tree
  and_left true_type b = and_right true_type b.of b.caps b.tree
  and_left false_type b = refl
  and_left (primitive p) b = and_right (primitive p) b.of b.caps b.tree
  and_left any_set b = and_right any_set b.of b.caps b.tree
  and_left (set_of s) b = and_right (set_of s) b.of b.caps b.tree
  and_left (record_of xs o) b = and_right (record_of xs o) b.of b.caps b.tree
  and_left any_entity b = and_right any_entity b.of b.caps b.tree
  and_left (entity ns) b = and_right (entity ns) b.of b.caps b.tree
  and_left (action n xs) b = and_right (action n xs) b.of b.caps b.tree
  and_left (extension n) b = and_right (extension n) b.of b.caps b.tree

and_any : (m : Mark (Unit {0})) (o : Option Ty) (cs : List Capability) (x : Typed) (b : Operand)
    → option_map (and_typed m x b.tree) (option_and_then (λ t. and_own_of t cs b) o) ≡ option_and_then (λ y. and_typing y.type y.caps y.tree m (given b)) (given_as o cs x)
and_any m None cs x b = refl
and_any m (Some t) cs x b = and_left m x cs t b

pub and_by_own : (m : Mark (Unit {0})) (a b : Operand) → and_by m (and_own a b) (a.ok && b.ok) a.tree b.tree (a.found ++ b.found) ≡ and_of m a b
and_by_own m a b =
    ap (λ r. ended (a.ok && b.ok) r (conj a.tree b.tree (lends (Some bool_type) m)) (a.found ++ b.found)) (and_any m a.of a.caps a.tree b)

module _ (m : Mark (Unit {0})) (x : Typed) (cs : List Capability) where
  or_right : (t : Ty) (o : Option Ty) (ds : List Capability) (y : Typed)
      → option_map (or_typed m x y) (option_and_then (λ u. option_map (λ w. own w (or_caps t u cs ds) true) (or_type t u)) o)
      ≡ option_and_then (λ y. option_map (λ w. typing w (or_caps t y.type cs y.caps) (disj x y.tree (at w m))) (or_type t y.type)) (given_as o ds y)
  or_right t None ds y = refl
  or_right t (Some u) ds y = map_twice (or_typed m x y) (λ w. own w (or_caps t u cs ds) true) (or_type t u)

  or_left : (t : Ty) (b : Operand) → option_map (or_typed m x b.tree) (or_own_of t cs b) ≡ or_typing t cs x m (given b)
  or_left never b = or_right never b.of b.caps b.tree
  or_left true_type b = refl
  or_left false_type b = or_right false_type b.of b.caps b.tree
  or_left (primitive p) b = or_right (primitive p) b.of b.caps b.tree
  or_left any_set b = or_right any_set b.of b.caps b.tree
  or_left (set_of s) b = or_right (set_of s) b.of b.caps b.tree
  or_left (record_of xs o) b = or_right (record_of xs o) b.of b.caps b.tree
  or_left any_entity b = or_right any_entity b.of b.caps b.tree
  or_left (entity ns) b = or_right (entity ns) b.of b.caps b.tree
  or_left (action n xs) b = or_right (action n xs) b.of b.caps b.tree
  or_left (extension n) b = or_right (extension n) b.of b.caps b.tree

or_any : (m : Mark (Unit {0})) (o : Option Ty) (cs : List Capability) (x : Typed) (b : Operand)
    → option_map (or_typed m x b.tree) (option_and_then (λ t. or_own_of t cs b) o) ≡ option_and_then (λ y. or_typing y.type y.caps y.tree m (given b)) (given_as o cs x)
or_any m None cs x b = refl
or_any m (Some t) cs x b = or_left m x cs t b

pub or_by_own : (m : Mark (Unit {0})) (a b : Operand) → or_by m (or_own a b) (a.ok && b.ok) a.tree b.tree (a.found ++ b.found) ≡ or_of m a b
or_by_own m a b =
    ap (λ r. ended (a.ok && b.ok) r (disj a.tree b.tree (lends (Some bool_type) m)) (a.found ++ b.found)) (or_any m a.of a.caps a.tree b)
