-- What follows of orderings by their cases alone.
use Rattle.std.proofs.Common.{◌≡◌, refl}
use Rattle.std.specs.Ordering.{ordering_reverse}
use Rattle.std.specs.declared.cmp.Ordering.{Ordering}
use Rattle.std.specs.declared.cmp.Ordering.TheVariants.{Less, Equal, Greater}

pub equal_of_own_reverse : (o : Ordering) → o ≡ ordering_reverse o → o ≡ Equal
equal_of_own_reverse Less h = cc
equal_of_own_reverse Equal h = refl
equal_of_own_reverse Greater h = cc
