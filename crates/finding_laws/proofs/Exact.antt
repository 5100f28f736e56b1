-- Tests that hold only of what is equal: those of a whole, from those of its parts.
use Rattle.std.proofs.Common.{◌≡◌, Bool, true, ◌&&◌, List, [], ◌∷◌, Option, Some, None, Ordering, refl, sym, ap, ◌∙◌}
use Rattle.std.specs.Ordering.{is_eq}
use Rattle.std.specs.Option.{option_eq}
use Rattle.std.specs.Cmp.{first_so, second_so}
use Rattle.std.specs.Cmp.Lexicographic.{pointwise}
use Rattle.std.proofs.lemmas.Map.Lookups.{CmpEqualImpliesEq}
use Rattle.policy_values.specs.Ties.{equal_of}
use denote.Enum.Declared.{Declared}
use denote.Enum.Bare.{Bare, sameb, same_true}

-- It is a record so that its type says E.
pub record IsExact {K : Type 0} (E : K → K → Bool) : Type 0 where
  pub same : (x y : K) → E x y ≡ true → x ≡ y

module _ {K : Type 0} {E : K → K → Bool} (e : IsExact E) where
  in_lists : (xs ys : List K) → pointwise E xs ys ≡ true → xs ≡ ys
  in_lists [] [] h = refl
  in_lists [] (y ∷ ys) h = cc
  in_lists (x ∷ xs) [] h = cc
  in_lists (x ∷ xs) (y ∷ ys) h = λ i. e.same x y (first_so (E x y) (pointwise E xs ys) h) i ∷ in_lists xs ys (second_so (E x y) (pointwise E xs ys) h) i

  in_options : (x y : Option K) → option_eq E x y ≡ true → x ≡ y
  in_options None None h = refl
  in_options None (Some y) h = cc
  in_options (Some x) None h = cc
  in_options (Some x) (Some y) h = ap Some (e.same x y h)

  pub lists : IsExact (pointwise E)
  lists = record { same = in_lists }

  pub options : IsExact (option_eq E)
  options = record { same = in_options }

-- where an order has no ties but of what is equal
pub ties : {K : Type 0} {R : K → K → Ordering} → CmpEqualImpliesEq R → IsExact (λ x y. is_eq (R x y))
ties {K} {R} exact = record { same = λ x y h. exact x y (equal_of (R x y) h) }

-- of an enum with no field
pub bare : (D : Declared) → Bare D.parts → IsExact (sameb D)
bare D none = record { same = same_true D none }

-- of pairs, by both parts
pub both : {A B : Type 0} {E : A → A → Bool} {F : B → B → Bool} → IsExact E → IsExact F → IsExact (λ (p q : A × B). E p.0 q.0 && F p.1 q.1)
both {A} {B} {E} {F} e f = record {
  same = λ p q h i. (e.same p.0 q.0 (first_so (E p.0 q.0) (F p.1 q.1) h) i, f.same p.1 q.1 (second_so (E p.0 q.0) (F p.1 q.1) h) i);
}

-- by parts that make up the whole
pub through : {A B : Type 0} (parts : A → B) (whole : B → A) {E : B → B → Bool} → ((x : A) → whole (parts x) ≡ x) → IsExact E → IsExact (λ x y. E (parts x) (parts y))
through parts whole back e = record { same = λ x y h. sym (back x) ∙ ap whole (e.same (parts x) (parts y) h) ∙ back y }

-- a variant of one struct, which these parts make up
pub variant : {A B C : Type 0} (make : A → C) (parts : A → B) (whole : B → A) {E : B → B → Bool} → ((x : A) → whole (parts x) ≡ x) → IsExact E → (x y : A) → E (parts x) (parts y) ≡ true → make x ≡ make y
variant make parts whole back e x y h = ap make ((through parts whole back e).same x y h)
