-- Contexts are equal where their attributes are.
use Rattle.std.proofs.Common.{◌≡◌, refl}
use Rattle.std.specs.Ordering.{is_eq, ordering_then}
use Rattle.std.specs.declared.cmp.Ordering.TheVariants.{Less, Equal, Greater}
use Rattle.schema_types.specs.Ty.{Attrs, record_of}
use Rattle.schema_types.specs.TyOrder.{ty_cmp, attrs_cmp}
use Rattle.schema_types.specs.declared.kinds.OpenTag.TheVariants.{ClosedAttributes}

pub same_contexts : (xs ys : Attrs) → is_eq (attrs_cmp xs ys) ≡ is_eq (ty_cmp (record_of xs ClosedAttributes) (record_of ys ClosedAttributes))
same_contexts xs ys = elim (attrs_cmp xs ys) as (λ o. is_eq o ≡ is_eq (ordering_then o Equal)) [
  | Less ↦ refl
  | Equal ↦ refl
  | Greater ↦ refl
]
