use Rattle.std.proofs.Common.{◌≡◌, [], ◌∷◌, ◌++◌, List, refl, ap}
use Rattle.typing_spec.proofs.datetime.add_units.Goals as goal

five_behind : {A : Type 0} (xs : List A) (a b c d e : A) → ((((xs ++ a ∷ []) ++ b ∷ []) ++ c ∷ []) ++ d ∷ []) ++ e ∷ [] ≡ xs ++ a ∷ b ∷ c ∷ d ∷ e ∷ []
five_behind [] a b c d e = refl
five_behind (x ∷ xs) a b c d e = ap (λ l. x ∷ l) (five_behind xs a b c d e)

pub returns : goal.returns
returns c =
    rw (c.in_ok-add_unit-5.ensures, c.in_ok-add_unit-4.ensures, c.in_ok-add_unit-3.ensures, c.in_ok-add_unit-2.ensures, c.in_ok-add_unit.ensures) (five_behind _ _ _ _ _ _)
