-- Kinds are ordered and hashed as the types that are of them.
use Rattle.std.proofs.Common.{◌≡◌, Ordering, true}
use Rattle.std.specs.Ordering.{is_eq}
use Rattle.std.specs.Cmp.{IsTotalOrder}
use Rattle.std.specs.Hash.{HashWrites}
use Rattle.schema_types.specs.TyView.{ty_of, kind_of}
use Rattle.schema_types.specs.TyOrder.{ty_cmp}
use Rattle.schema_types.specs.TyLaws.{ty_cmp_total}
use Rattle.schema_types.specs.TyHash.{ty_fed}
use Rattle.schema_types.specs.HashLaws.{alike_ty}
use Rattle.schema_types.specs.declared.ty.TypeKind.{TypeKind}
use Rattle.schema_types.specs.declared.ty.EntityRecordKind.{EntityRecordKind}

abbrev pub type_kind_cmp : TypeKind → TypeKind → Ordering
type_kind_cmp j k = ty_cmp (ty_of j) (ty_of k)

abbrev pub kind_cmp : EntityRecordKind → EntityRecordKind → Ordering
kind_cmp j k = ty_cmp (kind_of j) (kind_of k)

abbrev pub type_kind_fed : TypeKind → HashWrites
type_kind_fed k = ty_fed (ty_of k)

abbrev pub kind_fed : EntityRecordKind → HashWrites
kind_fed k = ty_fed (kind_of k)

pub type_kind_cmp_total : IsTotalOrder type_kind_cmp
type_kind_cmp_total = record {
  antisymm = λ j k. ty_cmp_total.antisymm (ty_of j) (ty_of k);
  trans = λ j k l. ty_cmp_total.trans (ty_of j) (ty_of k) (ty_of l);
  congr = λ j k l. ty_cmp_total.congr (ty_of j) (ty_of k) (ty_of l);
}

pub kind_cmp_total : IsTotalOrder kind_cmp
kind_cmp_total = record {
  antisymm = λ j k. ty_cmp_total.antisymm (kind_of j) (kind_of k);
  trans = λ j k l. ty_cmp_total.trans (kind_of j) (kind_of k) (kind_of l);
  congr = λ j k l. ty_cmp_total.congr (kind_of j) (kind_of k) (kind_of l);
}

pub alike_type_kind : (j k : TypeKind) → is_eq (type_kind_cmp j k) ≡ true → type_kind_fed j ≡ type_kind_fed k
alike_type_kind j k = alike_ty (ty_of j) (ty_of k)

pub alike_kind : (j k : EntityRecordKind) → is_eq (kind_cmp j k) ≡ true → kind_fed j ≡ kind_fed k
alike_kind j k = alike_ty (kind_of j) (kind_of k)
