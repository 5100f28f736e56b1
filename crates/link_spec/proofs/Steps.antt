-- Steps through checks.
use Rattle.std.proofs.Common.{◌≡◌, Bool, true, false, [], refl}
use Rattle.schema_types.specs.declared.kinds.Primitive.TheVariants.{Bool as BoolType}
use Rattle.schema_types.specs.Ty.{Ty, true_type, false_type, primitive}
use Rattle.typing_spec.specs.Typing.{Typed}
use Rattle.typecheck_rules.specs.Check.{Check, Success, Irrelevant, check_of, check_walked}
use Rattle.typecheck_rules.specs.Walked as walk
use Rattle.typecheck_rules.specs.Walked.{Walked}
use Rattle.link_spec.specs.Parts.{Part}
use Rattle.link_spec.specs.Behind.{behind_type, behind}

-- a step that takes a check twice as once, passes over checks that find the condition false, and does not look at trees
pub record IsStep {S : Type 0} (h : Check → S → S) : Type 0 where
  pub once : (c : Check) (s : S) → h c (h c s) ≡ h c s
  pub skips : (x : Typed) (s : S) → h (Irrelevant x) s ≡ s
  pub same : (p : Part) (w : Walked) (s : S) → h (behind p w) s ≡ h (check_walked w) s

-- a question about checks that does not look at trees
abbrev pub IsBlind : {B : Type 0} → (Check → B) → Type 0
IsBlind f = ((x y : Typed) → f (Success x) ≡ f (Success y)) × ((x y : Typed) → f (Irrelevant x) ≡ f (Irrelevant y))

pub same_asked : {B : Type 0} (f : Check → B) → IsBlind f → (p : Part) (w : Walked) → f (behind p w) ≡ f (check_walked w)
same_asked f h p (walk.Fail t fs) = refl
same_asked f h p (walk.Success b) = by p.sure b.type _ b.tree
  where
    by : (s : Bool) (t : Ty) (x y : Typed) → f (check_of (behind_type s t) x []) ≡ f (check_of t y [])
    by true true_type x y = h.0 x y
    by false true_type x y = h.0 x y
    by true false_type x y = h.1 x y
    by false false_type x y = h.1 x y
    by true (primitive BoolType) x y = h.0 x y
    by false (primitive BoolType) x y = h.0 x y
    by true t x y = refl
    by false t x y = refl
