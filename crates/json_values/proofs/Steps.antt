-- Steps over lists.
use Rattle.std.proofs.Common.{◌≡◌, List, [], ◌∷◌, ◌++◌, Option, Some, None, option_map, append_assoc, refl, sym, ap}

-- one more at the end of what is made
pub one_more : {X : Type 0} (made : List X) (x : X) (o : Option (List X)) → option_map (λ ys. made ++ ys) (option_map (λ ys. x ∷ ys) o) ≡ option_map (λ ys. (made ++ x ∷ []) ++ ys) o
one_more made x None = refl
one_more made x (Some ys) = ap Some (sym (append_assoc made (x ∷ []) ys))
