-- Equal types have equal hashes.
use Rattle.std.proofs.Common.{◌≡◌, true, ap}
use Rattle.std.specs.Ordering.{is_eq}
use Rattle.schema_types.specs.Ty.{Ty, Attrs}
use Rattle.schema_types.specs.TyOrder.{ty_cmp, attrs_cmp}
use Rattle.schema_types.specs.TyLaws.{exact_ty, exact_attrs}
use Rattle.policy_values.specs.Ties.{equal_of}
use Rattle.schema_types.specs.TyHash.{ty_fed, attrs_fed}

pub alike_ty : (x y : Ty) → is_eq (ty_cmp x y) ≡ true → ty_fed x ≡ ty_fed y
alike_ty x y h = ap ty_fed (exact_ty x y (equal_of (ty_cmp x y) h))

pub alike_attrs : (x y : Attrs) → is_eq (attrs_cmp x y) ≡ true → attrs_fed x ≡ attrs_fed y
alike_attrs x y h = ap attrs_fed (exact_attrs x y (equal_of (attrs_cmp x y) h))
