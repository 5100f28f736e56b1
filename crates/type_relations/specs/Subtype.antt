-- When a value of one type may stand where another is expected, in two modes.
use Rattle.std.specs.Prelude.{◌≡◌, ◌⊎◌, ℕ, Bool, true, false, List}
use Rattle.schema_types.specs.Names.{AreAmong}
use Rattle.schema_types.specs.declared.kinds.Primitive.TheVariants.{Bool as BoolType}
use Rattle.schema_types.specs.declared.kinds.OpenTag.{OpenTag}
use Rattle.schema_types.specs.declared.kinds.OpenTag.TheVariants.{OpenAttributes, ClosedAttributes}
use Rattle.type_relations.specs.declared.mode.SubtypeMode.{SubtypeMode}
use Rattle.type_relations.specs.declared.mode.SubtypeMode.TheVariants.{Strict, Permissive}
use Rattle.schema_types.specs.Ty.{Ty, never, true_type, false_type, primitive, any_set, set_of, record_of, any_entity, entity, action, extension, Attrs, no_attrs, attr}

abbrev pub IsPermissive : SubtypeMode → Type 0
IsPermissive Strict = ⊥
IsPermissive Permissive = Unit {0}

-- an open record is below open ones alone
abbrev pub SubOpen : OpenTag → OpenTag → Type 0
SubOpen OpenAttributes ClosedAttributes = ⊥
SubOpen o p = Unit {0}

abbrev pub IsOpen : OpenTag → Type 0
IsOpen OpenAttributes = Unit {0}
IsOpen ClosedAttributes = ⊥

-- strict: both are required or both optional; permissive: the left is required or the right is not
abbrev pub SubRequired : SubtypeMode → Bool → Bool → Type 0
SubRequired Strict q r = q ≡ r
SubRequired Permissive false true = ⊥
SubRequired Permissive q r = Unit {0}

-- strict: the same types; permissive: each is among the others
abbrev pub SubEntity : SubtypeMode → List (List ℕ) → List (List ℕ) → Type 0
SubEntity Strict ms ns = ms ≡ ns
SubEntity Permissive ms ns = AreAmong ms ns

abbrev mutual
  -- a record below another: with the same keys and each type below, or, permissive and where the right is
  -- open, with more keys
  pub Subtype : SubtypeMode → Ty → Ty → Type 0
  Subtype m never u = Unit {0}
  Subtype m true_type true_type = Unit {0}
  Subtype m true_type (primitive p) = p ≡ BoolType
  Subtype m false_type false_type = Unit {0}
  Subtype m false_type (primitive p) = p ≡ BoolType
  Subtype m (primitive p) (primitive q) = p ≡ q
  Subtype m any_set any_set = Unit {0}
  Subtype m (set_of t) any_set = Unit {0}
  Subtype m (set_of t) (set_of u) = Subtype m t u
  Subtype m (record_of xs o) (record_of ys p) =
      SubOpen o p × ((IsPermissive m × IsOpen p × Covers m xs ys) ⊎ SubAttrs m xs ys)
  Subtype m any_entity any_entity = Unit {0}
  Subtype m (entity ns) any_entity = IsPermissive m
  Subtype m (entity ms) (entity ns) = SubEntity m ms ns
  Subtype m (action n xs) any_entity = IsPermissive m
  Subtype m (action k xs) (action n ys) = (k ≡ n) × (xs ≡ ys)
  Subtype m (extension k) (extension n) = k ≡ n
  Subtype m t u = ⊥

  -- the same keys, and each type below
  pub SubAttrs : SubtypeMode → Attrs → Attrs → Type 0
  SubAttrs m no_attrs no_attrs = Unit {0}
  SubAttrs m (attr k t q xs) (attr l u r ys) = (k ≡ l) × Subtype m t u × SubRequired m q r × SubAttrs m xs ys
  SubAttrs m xs ys = ⊥

  -- each attribute on the right is among those on the left, in this order, and above it
  pub Covers : SubtypeMode → Attrs → Attrs → Type 0
  Covers m xs no_attrs = Unit {0}
  Covers m no_attrs (attr l u r ys) = ⊥
  Covers m (attr k t q xs) (attr l u r ys) =
      ((k ≡ l) × Subtype m t u × SubRequired m q r × Covers m xs ys) ⊎ Covers m xs (attr l u r ys)
