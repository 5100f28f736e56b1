-- Types are equal where they compare equal.
use Rattle.std.proofs.Common.{◌≡◌, ap, sym, ◌∙◌}
use Rattle.std.specs.Prelude.{◌↔◌, IsTrue}
use Rattle.std.specs.Ordering.{is_eq}
use Rattle.std.proofs.lemmas.Cmp.{eq_by_cmp_equiv}
use Rattle.policy_values.specs.Ties.{equal_of}
use Rattle.schema_types.specs.Ty.{Ty}
use Rattle.schema_types.specs.TyOrder.{ty_cmp}
use Rattle.schema_types.specs.TyLaws.{exact_ty, ty_cmp_total}

pub type_decides : (t u : Ty) → IsTrue (is_eq (ty_cmp t u)) ↔ (t ≡ u)
type_decides t u = (
  λ h. exact_ty t u (equal_of (ty_cmp t u) h),
  λ e. ap (λ w. is_eq (ty_cmp t w)) (sym e) ∙ (eq_by_cmp_equiv ty_cmp_total).refl t,
)
