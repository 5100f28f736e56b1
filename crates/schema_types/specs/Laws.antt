-- Equality, order and hashes of types agree.
use Rattle.std.specs.Prelude.{◌≡◌, ◌↔◌, ◌++◌, true}
use Rattle.std.specs.declared.cmp.Ordering.{Ordering}
use Rattle.std.specs.declared.cmp.Ordering.TheVariants.{Equal}
use Rattle.std.specs.Ordering.{bool_cmp, is_eq, ordering_then}
use Rattle.std.specs.Hash as fed
use Rattle.std.specs.Hash.{HashWrites}
use Rattle.schema_types.specs.Ty.{Ty}
use Rattle.schema_types.specs.TyOrder.{ty_cmp}
use Rattle.schema_types.specs.TyHash.{ty_fed}
use Rattle.schema_types.specs.declared.ty.AttributeType.{AttributeType}

-- attributes by their types, and then by whether they are required
abbrev pub attribute_cmp : AttributeType → AttributeType → Ordering
attribute_cmp x y = ordering_then (ty_cmp x.attr_type y.attr_type) (bool_cmp x.is_required y.is_required)

-- what the hash of an attribute is of
abbrev pub attribute_fed : AttributeType → HashWrites
attribute_fed x = ty_fed x.attr_type ++ fed.bool x.is_required

abbrev pub OrderIsExact : Type 0
OrderIsExact = (t u : Ty) → (ty_cmp t u ≡ Equal) ↔ (t ≡ u)

abbrev pub AttributeOrderIsExact : Type 0
AttributeOrderIsExact = (x y : AttributeType) → (attribute_cmp x y ≡ Equal) ↔ (x ≡ y)

-- equality of types is that they compare equal
abbrev pub HashAgrees : Type 0
HashAgrees = (t u : Ty) → is_eq (ty_cmp t u) ≡ true → ty_fed t ≡ ty_fed u

abbrev pub AttributeHashAgrees : Type 0
AttributeHashAgrees =
    (x y : AttributeType) → is_eq (attribute_cmp x y) ≡ true → attribute_fed x ≡ attribute_fed y
