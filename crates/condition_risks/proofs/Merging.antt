-- Steps of loops over expressions that are found.
use Rattle.std.proofs.Common.{◌≡◌, ◌↔◌, ◌<◌, ◌≤◌, ◌+◌, ℕ, zero, suc, Bool, List, [], ◌∷◌, ◌++◌, length, take, drop, get_or, IsTrue, refl, sym, ap, subst, ◌∙◌, arith, append_assoc}
use Rattle.std.proofs.lemmas.List.{at_drop_more, at_drop_all, map-append, length-append, length-map, take_all, take-append-le}
use Rattle.plain_lemmas.proofs.Booleans.{equal_by_both_ways}
use Rattle.std.specs.Map.Iter.{deref}
use Rattle.plain_lemmas.proofs.Lists.{append_empty}
use denote.Ref.{Bor}
use Rattle.policy_expressions.specs.Shape.{SameShape}
use Rattle.typing_spec.specs.Bare.{same_tree}
use Rattle.typing_spec.specs.BareLaws.{same_tree_decides}
use Rattle.typing_spec.specs.Typing.{Typed}
use Rattle.condition_risks.specs.Sides.{remembered}
use Rattle.condition_risks.specs.Listed.{expressions}

pub same_shape_tests : (x y : Typed) (b : Bool) → (IsTrue b ↔ SameShape x y) → b ≡ same_tree x y
same_shape_tests x y b h =
    let d = same_tree_decides x y in
    equal_by_both_ways b (same_tree x y) (λ e. d.1 (h.0 e)) (λ e. h.1 (d.0 e))

-- what is before it decides only as far as it is taken
pub take_prefix : (n : ℕ) (xs ys : List Typed) → take n (take n xs ++ ys) ≡ take n (xs ++ ys)
take_prefix zero xs ys = refl
take_prefix (suc n) [] ys = refl
take_prefix (suc n) (x ∷ xs) ys = ap (λ zs. x ∷ zs) (take_prefix n xs ys)

take_more : (n : ℕ) (old new more rest : List Typed) → new ≡ take n (old ++ more) → take n (new ++ rest) ≡ take n (old ++ (more ++ rest))
take_more n old new more rest e =
    ap (λ zs. take n (zs ++ rest)) e ∙ take_prefix n (old ++ more) rest ∙ ap (λ zs. take n zs) (append_assoc old more rest)

pub nothing_taken : (xs : List Typed) → length xs ≤ remembered → xs ≡ take remembered (xs ++ [])
nothing_taken xs h = sym (ap (λ zs. take remembered zs) (append_empty xs) ∙ take_all remembered xs h)

-- a loop over expressions, where f says what of them is remembered
module _ (f : List Typed → List Typed) (parts : (x : Typed) (xs : List Typed) → f (x ∷ xs) ≡ f (x ∷ []) ++ f xs) (none : f [] ≡ []) (whole : List Typed) (items xs : List (Bor Typed)) (same : items ≡ xs) (i : ℕ) where
  pub taken_more : (old new : List (Bor Typed)) (x : Bor Typed) → x ≡ get_or items i x → i < length items → expressions new ≡ take remembered (expressions old ++ f (x.now ∷ [])) →
      take remembered (expressions old ++ f (expressions (drop i xs))) ≡ whole → take remembered (expressions new ++ f (expressions (drop (i + 1) xs))) ≡ whole
  taken_more old new x is h e w =
      let g = λ (zs : List (Bor Typed)). f (expressions zs) in
      let here = at_drop_more g items i x h ∙ ap (λ y. g (y ∷ drop (i + 1) items)) (sym is) in
      let there : g (drop i xs) ≡ g (x ∷ drop (i + 1) xs) = subst (λ zs. g (drop i zs) ≡ g (x ∷ drop (i + 1) zs)) same here in
      take_more remembered (expressions old) (expressions new) (f (x.now ∷ [])) (g (drop (i + 1) xs)) e
      ∙ ap (λ zs. take remembered (expressions old ++ zs)) (sym (there ∙ parts x.now (expressions (drop (i + 1) xs)))) ∙ w

  pub taken_all : (all : List (Bor Typed)) → length items ≤ i → length all ≤ remembered → take remembered (expressions all ++ f (expressions (drop i xs))) ≡ whole → expressions all ≡ whole
  taken_all all h k w =
      let g = λ (zs : List (Bor Typed)). f (expressions zs) in
      let left : g (drop i xs) ≡ [] = subst (λ zs. g (drop i zs) ≡ []) same (at_drop_all g items i h ∙ none) in
      nothing_taken (expressions all) (simp length-map (omega arith)) ∙ ap (λ zs. take remembered (expressions all ++ zs)) (sym left) ∙ w

pub room_left : (old : List (Bor Typed)) (x : Bor Typed) → length old < remembered → expressions (old ++ x ∷ []) ≡ take remembered (expressions old ++ x.now ∷ [])
room_left old x h = map-append deref old (x ∷ []) ∙ sym (take_all remembered (expressions old ++ x.now ∷ []) (simp (length-append, length-map) (omega arith)))

pub no_room_left : (old : List (Bor Typed)) (x : Typed) → remembered ≤ length old → length old ≤ remembered → expressions old ≡ take remembered (expressions old ++ x ∷ [])
no_room_left old x h k =
    sym (take-append-le remembered (expressions old) (x ∷ []) (simp length-map (omega arith)) ∙ take_all remembered (expressions old) (simp length-map (omega arith)))
