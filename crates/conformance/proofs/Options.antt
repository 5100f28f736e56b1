-- Faults that there are none of.
use Rattle.std.proofs.Common.{◌≡◌, Bool, true, false, ◌&&◌, ◌||◌, not, List, [], ◌∷◌, Option, Some, None, is_some, IsSome, refl, sym, ap, ◌∙◌}
use Rattle.std.specs.Option.{option_or, option_map}
use Rattle.std.specs.List.{AllByRecursion, list_all}
use Rattle.conformance.specs.RequestRules.{unless}
use Rattle.plain_lemmas.proofs.Booleans.{and_parts_of, equal_by_both_ways}

module _ {X : Type 0} where
  pub none_first : (a b : Option X) → option_or a b ≡ None → a ≡ None
  none_first None b h = refl
  none_first (Some x) b h = absurd (cc h)

  pub none_rest : (a b : Option X) → option_or a b ≡ None → b ≡ None
  none_rest None b h = h
  none_rest (Some x) b h = absurd (cc h)

  pub neither : (a b : Option X) → a ≡ None → b ≡ None → option_or a b ≡ None
  neither a b h k = ap (λ o. option_or o b) h ∙ k

  pub kept : (b : Bool) (f : X) → unless b f ≡ None → b ≡ true
  kept true f h = refl
  kept false f h = absurd (cc h)

  pub keeps : (b : Bool) (f : X) → b ≡ true → unless b f ≡ None
  keeps b f h = ap (λ c. unless c f) h

  pub no_fault : (o : Option X) → not (is_some o) ≡ true → o ≡ None
  no_fault None h = refl
  no_fault (Some x) h = absurd (cc h)

pub none_inside : {X Y : Type 0} (f : X → Y) (o : Option X) → option_map f o ≡ None → o ≡ None
none_inside f None h = refl
none_inside f (Some x) h = absurd (cc h)

module _ {X : Type 0} where
  pub all_more : (P Q : X → Type 0) → ((x : X) → P x → Q x) → (xs : List X) → AllByRecursion P xs → AllByRecursion Q xs
  all_more P Q f [] h = tt
  all_more P Q f (x ∷ xs) h = (f x h.0, all_more P Q f xs h.1)

  pub all_pass : (p : X → Bool) (xs : List X) → list_all p xs ≡ true → AllByRecursion (λ x. p x ≡ true) xs
  all_pass p [] h = tt
  all_pass p (x ∷ xs) h = let b = and_parts_of (p x) (list_all p xs) h in (b.0, all_pass p xs b.1)

  pub pass_all : (p : X → Bool) (xs : List X) → AllByRecursion (λ x. p x ≡ true) xs → list_all p xs ≡ true
  pass_all p [] h = refl
  pass_all p (x ∷ xs) h = λ i. h.0 i && pass_all p xs h.1 i
