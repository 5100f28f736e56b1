-- The rule of `if` over a test and branches taken apart.
use Rattle.std.proofs.Common.{◌≡◌, ◌++◌, List, Option, Some, None, true, option_map, refl, ap}
use Rattle.std.specs.Option.{option_and_then}
use Rattle.schema_types.specs.declared.kinds.Primitive.TheVariants.{Bool as BoolType, Long, String}
use Rattle.schema_types.specs.Ty.{Ty, never, true_type, false_type, primitive, any_set, set_of, record_of, any_entity, entity, action, extension}
use Rattle.typing_spec.specs.Capability.{Capability, common}
use Rattle.policy_expressions.specs.Tree.{ite, Mark}
use Rattle.typing_spec.specs.Rules.{strict_join}
use Rattle.typing_spec.specs.Typing.{Typed, Typing, typing, at, if_typing}
use Rattle.typecheck_rules.specs.Walked.{ended, lends}
use Rattle.typecheck_rules.specs.Operators.{branches_found}
use Rattle.typecheck_operators.specs.Reported.{Operand, given, given_as}
use Rattle.typecheck_walk.specs.declared.conditional.Chosen.{Chosen}
use Rattle.typecheck_walk.specs.Branches.{Tested, chosen, own_behind, if_own, if_typed, if_by, all_ok, all_found, if_of}

module _ {A B C : Type 0} where
  map_twice : (f : B → C) (g : A → B) (o : Option A) → option_map f (option_map g o) ≡ option_map (λ x. f (g x)) o
  map_twice f g None = refl
  map_twice f g (Some x) = refl

module _ (m : Mark (Unit {0})) (x : Typed) (cs : List Capability) where
  -- one branch alone
  one_branch : (f : Ty → Chosen) (g : Typing → Typing) (y z : Typed) (o : Option Ty) (ds : List Capability) (v : Typed)
      → ((t : Ty) → if_typed m x y z (f t) ≡ g (typing t ds v)) → option_map (if_typed m x y z) (option_map f o) ≡ option_map g (given_as o ds v)
  one_branch f g y z None ds v h = refl
  one_branch f g y z (Some t) ds v h = ap Some (h t)

  both_branches : (o p : Option Ty) (ds es : List Capability) (y z : Typed)
      → option_map (if_typed m x y z) (option_and_then (λ t. option_and_then (λ u. option_map (λ w. chosen w (common es (ds ++ cs)) true true) (strict_join t u)) p) o)
      ≡ option_and_then (λ a. option_and_then (λ b. option_map (λ t. typing t (common b.caps (a.caps ++ cs)) (ite x a.tree b.tree (at t m))) (strict_join a.type b.type)) (given_as p es z)) (given_as o ds y)
  both_branches None p ds es y z = refl
  both_branches (Some t) None ds es y z = refl
  both_branches (Some t) (Some u) ds es y z = map_twice (if_typed m x y z) (λ w. chosen w (common es (ds ++ cs)) true true) (strict_join t u)

  if_behind : (t : Ty) (a b : Operand) → option_map (if_typed m x a.tree b.tree) (own_behind t cs a b) ≡ if_typing t cs x m (given a) (given b)
  if_behind never a b = refl
  if_behind true_type a b = one_branch _ _ a.tree b.tree a.of a.caps a.tree (λ t. refl)
  if_behind false_type a b = one_branch _ _ a.tree b.tree b.of b.caps b.tree (λ t. refl)
  if_behind (primitive BoolType) a b = both_branches a.of b.of a.caps b.caps a.tree b.tree
  if_behind (primitive Long) a b = refl
  if_behind (primitive String) a b = refl
  if_behind any_set a b = refl
  if_behind (set_of s) a b = refl
  if_behind (record_of xs o) a b = refl
  if_behind any_entity a b = refl
  if_behind (entity ns) a b = refl
  if_behind (action n xs) a b = refl
  if_behind (extension n) a b = refl

pub if_by_own : (m : Mark (Unit {0})) (u : Tested) (a b : Operand)
    → if_by m (if_own u a b) (all_ok u a b) u.tree a.tree b.tree (all_found u a b (branches_found m u.of a.of b.of)) ≡ if_of m u a b
if_by_own m u a b =
    ap (λ r. ended (all_ok u a b) r (ite u.tree a.tree b.tree (lends None m)) (all_found u a b (branches_found m u.of a.of b.of)))
    (if_behind m u.tree u.caps u.of a b)
