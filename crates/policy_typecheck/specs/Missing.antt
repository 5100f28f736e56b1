-- What is found and not held already.
use Rattle.std.specs.Prelude.{◌≡◌, Bool, true, false, List, [], ◌∷◌}
use Rattle.std.specs.List.{list_any}
use Rattle.std.specs.Borrow.{Bor}
use Rattle.findings.specs.declared.error.ValidationError.{ValidationError}
use Rattle.findings.specs.contracts.error.ValidationErrorPartialEq.TheImpl as error
use Rattle.policy_typecheck.specs.Added.{holds}

-- whether the code takes two for equal, which is so exactly where they are one
abbrev pub equal_errors : ValidationError → ValidationError → Bool
equal_errors = error.ghosts.eq

-- whether a list of given items holds an equal one
abbrev pub lends : {T : Type 0} → (T → T → Bool) → List (Bor T) → T → Bool
lends eq rs x = list_any (λ r. eq x r.now) rs

-- the given items are those of the list
abbrev pub GivesSame : {T : Type 0} → (T → T → Bool) → List (Bor T) → List T → Type 0
GivesSame {T} eq rs xs = (x : T) → lends eq rs x ≡ holds eq xs x

-- the items whose mark is not set
abbrev pub unmarked : {T : Type 0} → List T → List Bool → List T
unmarked [] ms = []
unmarked (x ∷ xs) (true ∷ ms) = unmarked xs ms
unmarked (x ∷ xs) (false ∷ ms) = x ∷ unmarked xs ms
unmarked (x ∷ xs) [] = x ∷ unmarked xs []
