-- What callers may rely on.
use Rattle.std.specs.Prelude.{◌≡◌, ℕ, List, Ok, IfOk}
use Rattle.std.specs.declared.cmp.Ordering.TheVariants.{Less}
use Rattle.std.specs.List.Sorted.{IsStrictlySortedBy}
use Rattle.policy_values.specs.Uid.{text_cmp}
use Rattle.schema_types.specs.Ty.{Ty, set_of, record_of, entity, action, Attrs, no_attrs, attr}
use Rattle.type_relations.specs.declared.mode.SubtypeMode.{SubtypeMode}
use Rattle.type_relations.specs.declared.mode.SubtypeMode.TheVariants.{Strict, Permissive}
use Rattle.type_relations.specs.Subtype.{Subtype}
use Rattle.type_relations.specs.Member.{Member}
use Rattle.policy_values.specs.Value.{Val}
use Rattle.type_relations.specs.Join.{join}

abbrev pub SubtypeIsReflexive : Type 0
SubtypeIsReflexive = (m : SubtypeMode) (t : Ty) → Subtype m t t

abbrev pub SubtypeIsTransitive : Type 0
SubtypeIsTransitive = (m : SubtypeMode) (t u v : Ty) → Subtype m t u → Subtype m u v → Subtype m t v

-- no type of actions at any depth
abbrev mutual
  pub NoActions : Ty → Type 0
  NoActions (set_of t) = NoActions t
  NoActions (record_of xs o) = NoActionsIn xs
  NoActions (action n xs) = ⊥
  NoActions t = Unit {0}

  pub NoActionsIn : Attrs → Type 0
  NoActionsIn no_attrs = Unit {0}
  NoActionsIn (attr k t q xs) = NoActions t × NoActionsIn xs

-- where there is a join, both types are below it
abbrev pub JoinIsAbove : Type 0
JoinIsAbove = (m : SubtypeMode) (t u : Ty) → NoActions t → NoActions u →
    IfOk (join m t u) (λ v. Subtype m t v × Subtype m u v)

-- where one type is strictly below the other, the strict join is the greater
abbrev pub JoinIsGreater : Type 0
JoinIsGreater = (t u : Ty) → Subtype Strict t u → (join Strict t u ≡ Ok u) × (join Strict u t ≡ Ok u)

-- the key comes before each of the attributes
abbrev pub IsBefore : List ℕ → Attrs → Type 0
IsBefore k no_attrs = Unit {0}
IsBefore k (attr l t q xs) = (text_cmp k l ≡ Less) × IsBefore k xs

-- names of entity types and attributes ascend, at any depth
abbrev mutual
  pub Ascends : Ty → Type 0
  Ascends (set_of t) = Ascends t
  Ascends (record_of xs o) = AscendIn xs
  Ascends (entity ns) = IsStrictlySortedBy text_cmp ns
  Ascends t = Unit {0}

  pub AscendIn : Attrs → Type 0
  AscendIn no_attrs = Unit {0}
  AscendIn (attr k t q xs) = Ascends t × IsBefore k xs × AscendIn xs

-- where names and attributes ascend and one type is below the other, the permissive join is the greater
abbrev pub PermissiveJoinIsGreater : Type 0
PermissiveJoinIsGreater = (t u : Ty) → Ascends t → Ascends u → Subtype Permissive t u →
    (join Permissive t u ≡ Ok u) × (join Permissive u t ≡ Ok u)

-- a member of a type is a member of each type strictly above it
abbrev pub MemberOfSubtype : Type 0
MemberOfSubtype = (t u : Ty) (v : Val) → Subtype Strict t u → Member t v → Member u v
