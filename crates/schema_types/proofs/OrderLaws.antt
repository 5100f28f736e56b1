-- Ties are the same, of types and of attributes.
use Rattle.std.proofs.Common.{◌≡◌, Ordering, Bool, true, false, ap, ◌∙◌, sym, refl}
use Rattle.std.specs.declared.cmp.Ordering.TheVariants.{Less, Equal, Greater}
use Rattle.std.specs.Ordering.{bool_cmp, ordering_reverse, ordering_then}
use Rattle.schema_types.specs.Ty.{Ty}
use Rattle.schema_types.specs.TyOrder.{ty_cmp}
use Rattle.policy_values.specs.Ties.{then_equal, equal_of}
use Rattle.schema_types.specs.TyLaws.{exact_ty, ty_cmp_total}
use Rattle.policy_values.specs.ValueLaws.{exact_bool}
use Rattle.schema_types.specs.Laws.{OrderIsExact, AttributeOrderIsExact, AttributeHashAgrees, attribute_cmp, attribute_fed}
use Rattle.schema_types.specs.declared.ty.AttributeType.{AttributeType}
use Rattle.plain_lemmas.proofs.Orderings.{equal_of_own_reverse}

own : (t : Ty) → ty_cmp t t ≡ Equal
own t = equal_of_own_reverse (ty_cmp t t) (ty_cmp_total.antisymm t t)

own_bool : (b : Bool) → bool_cmp b b ≡ Equal
own_bool true = refl
own_bool false = refl

pub exact : OrderIsExact
exact t u = (exact_ty t u, λ e. (λ i. ty_cmp t (sym e i)) ∙ own t)

exact_attribute : (x y : AttributeType) → attribute_cmp x y ≡ Equal → x ≡ y
exact_attribute x y h =
    let e = then_equal (ty_cmp x.attr_type y.attr_type) (bool_cmp x.is_required y.is_required) h in
    λ i. record { attr_type = exact_ty x.attr_type y.attr_type e.0 i; is_required = exact_bool x.is_required y.is_required e.1 i }

pub exact_attributes : AttributeOrderIsExact
exact_attributes x y = (exact_attribute x y, λ e. (λ i. attribute_cmp x (sym e i)) ∙ (λ i. ordering_then (own x.attr_type i) (own_bool x.is_required i)))

pub alike_attribute : AttributeHashAgrees
alike_attribute x y h = ap attribute_fed (exact_attribute x y (equal_of (attribute_cmp x y) h))
