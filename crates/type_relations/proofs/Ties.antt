-- Lists that differ in order differ.
use Rattle.std.proofs.Common.{◌≡◌, ◌≢◌, ℕ, List, Ordering, ap, sym, refl}
use Rattle.std.specs.declared.cmp.Ordering.TheVariants.{Less, Equal, Greater}
use Rattle.std.specs.Ordering.{ordering_reverse}
use Rattle.std.specs.Cmp.{IsTotalOrder}
use Rattle.schema_types.specs.Names.{texts_cmp}
use Rattle.schema_types.specs.Ty.{Attrs}
use Rattle.schema_types.specs.TyOrder.{attrs_cmp}
use Rattle.schema_types.specs.TyLaws as laws
use Rattle.schema_types.specs.NameLaws as names
use Rattle.plain_lemmas.proofs.Orderings.{equal_of_own_reverse}

module _ {X : Type 0} {R : X → X → Ordering} (total : IsTotalOrder R) where
  tie : (x : X) → R x x ≡ Equal
  tie x = equal_of_own_reverse (R x x) (total.antisymm x x)

  differs_less : (x y : X) → R x y ≡ Less → x ≢ y
  differs_less x y h e = let t = ap (λ w. R x w) (sym e) in let u = tie x in cc (h, t, u)

  differs_greater : (x y : X) → R x y ≡ Greater → x ≢ y
  differs_greater x y h e = let t = ap (λ w. R x w) (sym e) in let u = tie x in cc (h, t, u)

pub exact_attrs : (x y : Attrs) → attrs_cmp x y ≡ Equal → x ≡ y
exact_attrs = laws.exact_attrs

pub less_attrs : (x y : Attrs) → attrs_cmp x y ≡ Less → x ≢ y
less_attrs = differs_less laws.attrs_cmp_total

pub greater_attrs : (x y : Attrs) → attrs_cmp x y ≡ Greater → x ≢ y
greater_attrs = differs_greater laws.attrs_cmp_total

pub exact_texts : (x y : List (List ℕ)) → texts_cmp x y ≡ Equal → x ≡ y
exact_texts = names.exact_texts

pub less_texts : (x y : List (List ℕ)) → texts_cmp x y ≡ Less → x ≢ y
less_texts = differs_less names.texts_cmp_total

pub greater_texts : (x y : List (List ℕ)) → texts_cmp x y ≡ Greater → x ≢ y
greater_texts = differs_greater names.texts_cmp_total
