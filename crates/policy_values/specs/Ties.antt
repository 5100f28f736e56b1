-- Orders by one thing and then another: when they tie, and one step of transitivity.
use Rattle.std.proofs.Common.{◌≡◌, Ordering, true, refl}
use Rattle.std.specs.declared.cmp.Ordering.TheVariants.{Less, Equal, Greater}
use Rattle.std.specs.Ordering.{is_eq, ordering_then}

pub then_equal : (a b : Ordering) → ordering_then a b ≡ Equal → (a ≡ Equal) × (b ≡ Equal)
then_equal Equal b h = (refl, h)
then_equal Less b h = cc
then_equal Greater b h = cc

pub equal_of : (o : Ordering) → is_eq o ≡ true → o ≡ Equal
equal_of Equal h = refl
equal_of Less h = cc
equal_of Greater h = cc

-- one step of "first, then the rest", for three values
pub then_chain : (a b c p q s : Ordering) → (a ≡ Less → b ≡ Less → c ≡ Less) →
    (a ≡ Equal → c ≡ b) → (b ≡ Equal → c ≡ a) → (p ≡ Less → q ≡ Less → s ≡ Less) →
    ordering_then a p ≡ Less → ordering_then b q ≡ Less → ordering_then c s ≡ Less
then_chain Less Less c p q s f g h k m n = rw (f refl refl) refl
then_chain Less Equal c p q s f g h k m n = rw (h refl) refl
then_chain Less Greater c p q s f g h k m n = cc
then_chain Equal Less c p q s f g h k m n = rw (g refl) refl
then_chain Equal Equal c p q s f g h k m n = rw (g refl) (k m n)
then_chain Equal Greater c p q s f g h k m n = cc
then_chain Greater b c p q s f g h k m n = cc
