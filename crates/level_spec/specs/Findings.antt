-- What is found where a condition does not pass at a level.
use Rattle.std.specs.Prelude.{◌≡◌, ◌⊎◌, ◌↔◌, ℕ, ◌+◌, nat_lt, true, false, List, [], ◌∷◌, ◌++◌, Option, Some, None, is_some, if◌then◌else◌}
use Rattle.std.specs.List.{AllByRecursion}
use Rattle.std.specs.Ordering.{is_eq}
use Rattle.policy_values.specs.declared.entity_uid.EntityUID.{EntityUID}
use Rattle.policy_values.specs.Uid.{text_cmp}
use Rattle.schema_types.specs.Ty.{Ty}
use Rattle.policy_expressions.specs.declared.kinds.Loc.{Loc}
use Rattle.policy_expressions.specs.declared.kinds.BinaryOp.{BinaryOp}
use Rattle.policy_expressions.specs.declared.kinds.BinaryOp.TheVariants.{GetTag}
use Rattle.policy_expressions.specs.Tree.{lit, var, slot, ite, conj, disj, unary, binary, attr, has, like, is_type, call, set, rec, Trees, no_trees, tree, Named, no_named, named, Mark, mark_of}
use Rattle.typing_spec.specs.Typing.{Typed}
use Rattle.level_spec.specs.Levels.{is_reached, gives_entity, asks_store, literal_level, level, dereferences, passes}

-- a dereference would need this level; or what is dereferenced is a literal or a slot. Each with its place.
pub data LevelFault : Type 0 where
  needs_level : ℕ → Option Loc → LevelFault
  literal_target : Option Loc → LevelFault

-- a left operand with a level, where it is not below the maximum
abbrev pub own_fault : ℕ → Option ℕ → Option Loc → List LevelFault
own_fault n (Some k) l = if nat_lt k n then [] else needs_level (k + 1) l ∷ []
own_fault n None l = []

-- a target without a level
abbrev pub target_fault : Option ℕ → Option Loc → List LevelFault
target_fault o l = if is_some o then [] else literal_target l ∷ []

-- what is found in a target is that of `getTag`'s operands; no other operator of two operands gives a target
abbrev pub binary_target : BinaryOp → Option Loc → List LevelFault → List LevelFault
binary_target GetTag l fs = fs
binary_target o l fs = literal_target l ∷ []

module _ (action : Option EntityUID) (n : ℕ) where
  -- in the order of the walk: what is found in the left operand of a dereference, in its right operand, and
  -- of the dereference
  abbrev mutual
    pub level_faults : Typed → List LevelFault
    level_faults (lit l a) = []
    level_faults (var v a) = []
    level_faults (slot i a) = []
    level_faults (ite x y z a) = level_faults x ++ (level_faults y ++ level_faults z)
    level_faults (conj x y a) = level_faults x ++ level_faults y
    level_faults (disj x y a) = level_faults x ++ level_faults y
    level_faults (unary o x a) = level_faults x
    level_faults (binary o x y a) =
        if asks_store o then target_faults x [] ++ (level_faults y ++ own_fault n (level action x []) a.loc)
        else level_faults x ++ level_faults y
    level_faults (attr x k a) =
        if gives_entity x then target_faults x [] ++ own_fault n (level action x []) a.loc else level_faults x
    level_faults (has x k a) =
        if gives_entity x then target_faults x [] ++ own_fault n (level action x []) a.loc else level_faults x
    level_faults (like x p a) = level_faults x
    level_faults (is_type x t a) = level_faults x
    level_faults (call f xs a) = faults_all xs
    level_faults (set xs a) = faults_all xs
    level_faults (rec xs a) = faults_named xs

    pub faults_all : Trees (Mark (Option Ty)) → List LevelFault
    faults_all no_trees = []
    faults_all (tree x xs) = level_faults x ++ faults_all xs

    pub faults_named : Named (Mark (Option Ty)) → List LevelFault
    faults_named no_named = []
    faults_named (named k x xs) = level_faults x ++ faults_named xs

    -- in a target, with pending fields: the dereferences whose levels make up the level of the target are not
    -- tested themselves
    pub target_faults : Typed → List (List ℕ) → List LevelFault
    target_faults (lit l a) fs = target_fault (literal_level action l) a.loc
    target_faults (var v a) fs = []
    target_faults (ite x y z a) fs =
        level_faults x ++ ((if is_reached y then target_faults y fs else level_faults y) ++
        (if is_reached z then target_faults z fs else level_faults z))
    target_faults (binary o x y a) fs = binary_target o a.loc (target_faults x [] ++ level_faults y)
    target_faults (attr x k a) fs = if gives_entity x then target_faults x [] else target_faults x (k ∷ fs)
    target_faults (rec xs a) fs = named_targets a.loc xs fs
    target_faults e fs = literal_target (mark_of e).loc ∷ []

    -- the fields that are not pending are walked as all else
    pub named_targets : Option Loc → Named (Mark (Option Ty)) → List (List ℕ) → List LevelFault
    named_targets l no_named fs = literal_target l ∷ []
    named_targets l (named k x xs) [] = literal_target l ∷ []
    named_targets l (named k x xs) (f ∷ fs) =
        if is_eq (text_cmp f k) then target_faults x fs ++ faults_named xs
        else level_faults x ++ named_targets l xs (f ∷ fs)

-- one of the list
abbrev pub IsIn : {A : Type 0} → A → List A → Type 0
IsIn x [] = ⊥
IsIn x (y ∷ ys) = (y ≡ x) ⊎ IsIn x ys

-- the level that is needed is one more than that of the left operand of some dereference, which is not below
-- the maximum; a literal is reported only where some left operand has no level
abbrev pub IsFaultReported : ℕ → List (Option ℕ) → LevelFault → Type 0
IsFaultReported n os (needs_level j l) = (k : ℕ) × (j ≡ k + 1) × (nat_lt k n ≡ false) × IsIn (Some k) os
IsFaultReported n os (literal_target l) = IsIn None os

-- nothing is found exactly where an expression passes, and what is found is so
abbrev pub LevelFaultsAreExact : Type 0
LevelFaultsAreExact =
    (action : Option EntityUID) (n : ℕ) (e : Typed) →
    ((level_faults action n e ≡ []) ↔ (passes action n e ≡ true)) ×
    AllByRecursion (IsFaultReported n (dereferences action e)) (level_faults action n e)
