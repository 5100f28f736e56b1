-- The order of sets of names is total, and ties are equal.
use Rattle.std.proofs.Common.{◌≡◌, ℕ, List, [], ◌∷◌, Ordering, true, ap, refl}
use Rattle.std.specs.declared.cmp.Ordering.TheVariants.{Less, Equal, Greater}
use Rattle.std.specs.Ordering.{is_eq, ordering_then}
use Rattle.std.specs.Cmp.{IsTotalOrder}
use Rattle.std.specs.Cmp.Lexicographic.{lists_total}
use Rattle.std.proofs.lemmas.Cmp.{nat_list_cmp_total}
use Rattle.std.proofs.lemmas.Map.Lookups.{CmpEqualImpliesEq, exact_bytes}
use Rattle.policy_values.specs.Uid.{text_cmp}
use Rattle.policy_values.specs.Ties.{then_equal, equal_of}
use Rattle.schema_types.specs.Names.{texts_cmp, texts_fed}

pub exact_texts : CmpEqualImpliesEq texts_cmp
exact_texts [] [] h = refl
exact_texts [] (n ∷ ns) h = cc
exact_texts (m ∷ ms) [] h = cc
exact_texts (m ∷ ms) (n ∷ ns) h =
    let e = then_equal (text_cmp m n) (texts_cmp ms ns) h in
    λ i. exact_bytes m n e.0 i ∷ exact_texts ms ns e.1 i

pub texts_cmp_total : IsTotalOrder texts_cmp
texts_cmp_total = lists_total nat_list_cmp_total

pub alike_texts : (ms ns : List (List ℕ)) → is_eq (texts_cmp ms ns) ≡ true → texts_fed ms ≡ texts_fed ns
alike_texts ms ns h = ap texts_fed (exact_texts ms ns (equal_of (texts_cmp ms ns) h))
