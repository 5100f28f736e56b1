-- Steps of the loops that take operands and fields apart.
use Rattle.std.proofs.Common.{◌≡◌, ℕ, List, [], ◌∷◌, ◌++◌, Option, Some, None, option_map, map, refl, sym, ap, ◌∙◌, append_assoc}
use Rattle.std.specs.Map.{keys_of}
use Rattle.policy_values.proofs.MapSteps.{keys_of-append}

-- one more item behind those so far
pub item_step : {X Y : Type 0} → (f : Y → X) (all done new : List X) (x : X) (y : Y) (it rest : List Y)
    → it ≡ y ∷ rest → new ≡ done ++ x ∷ [] → x ≡ f y → done ++ map f it ≡ all → new ++ map f rest ≡ all
item_step f all done new x y it rest is pushed same h =
    ap (λ xs. xs ++ map f rest) pushed ∙ append_assoc done (x ∷ []) (map f rest) ∙ ap (λ z. done ++ z ∷ map f rest) same ∙ ap (λ ys. done ++ map f ys) (sym is) ∙ h

-- one more, where each has one
pub some_step : {X : Type 0} → (all : Option (List X)) (done new : List X) (x : X) (o : Option (List X))
    → new ≡ done ++ x ∷ [] → option_map (λ xs. done ++ xs) (option_map (λ xs. x ∷ xs) o) ≡ all → option_map (λ xs. new ++ xs) o ≡ all
some_step {X} all done new x o pushed h = ap (λ ys. option_map (λ xs. ys ++ xs) o) pushed ∙ regroup o ∙ h
  where
    regroup : (p : Option (List X)) → option_map (λ xs. (done ++ x ∷ []) ++ xs) p ≡ option_map (λ xs. done ++ xs) (option_map (λ xs. x ∷ xs) p)
    regroup None = refl
    regroup (Some xs) = ap Some (append_assoc done (x ∷ []) xs)

pub keys_step : {X Y : Type 0} → (all : List (List ℕ)) (done new : List (List ℕ × X)) (k : List ℕ) (x : X) (y : Y) (it rest : List (List ℕ × Y))
    → it ≡ (k, y) ∷ rest → new ≡ done ++ (k, x) ∷ [] → all ≡ keys_of done ++ keys_of it → all ≡ keys_of new ++ keys_of rest
keys_step all done new k x y it rest is pushed h =
    h ∙ ap (λ es. keys_of done ++ keys_of es) is ∙ sym (append_assoc (keys_of done) (k ∷ []) (keys_of rest))
    ∙ ap (λ ks. ks ++ keys_of rest) (sym (keys_of-append done ((k, x) ∷ []))) ∙ ap (λ es. keys_of es ++ keys_of rest) (sym pushed)
