-- Lists that are empty, and what holds of each element.
use Rattle.std.proofs.Common.{◌≡◌, ◌↔◌, Bool, true, false, ◌&&◌, cond, List, [], ◌∷◌, ◌++◌, map, fold, Option, Some, None, IsTrue, refl, sym, ap, ◌∙◌, if◌then◌else◌}
use Rattle.std.specs.List.{AllByRecursion, list_all, filter_map, cons_option, flat_map}

module _ {X : Type 0} where
  pub parts_empty : (xs ys : List X) → xs ++ ys ≡ [] → (xs ≡ []) × (ys ≡ [])
  parts_empty [] ys h = (refl, h)
  parts_empty (x ∷ xs) ys h = absurd (cc h)

  pub empty_parts : (xs ys : List X) → xs ≡ [] → ys ≡ [] → xs ++ ys ≡ []
  empty_parts xs ys h k = ap (λ l. l ++ ys) h ∙ k

  pub all_more : (P Q : X → Type 0) → ((x : X) → P x → Q x) → (xs : List X) → AllByRecursion P xs → AllByRecursion Q xs
  all_more P Q f [] h = tt
  all_more P Q f (x ∷ xs) h = (f x h.0, all_more P Q f xs h.1)

  pub all_both : (P Q R : X → Type 0) → ((x : X) → P x → Q x → R x) → (xs : List X) → AllByRecursion P xs → AllByRecursion Q xs → AllByRecursion R xs
  all_both P Q R f [] h k = tt
  all_both P Q R f (x ∷ xs) h k = (f x h.0 k.0, all_both P Q R f xs h.1 k.1)

  -- a list that grows is never empty again
  module _ (seen : List X → X → Bool) where
    abbrev one_more : List X → X → List X
    one_more ks x = if seen ks x then ks else ks ++ x ∷ []

    was_empty : (ks : List X) (x : X) → one_more ks x ≡ [] → ks ≡ []
    was_empty [] x h = refl
    was_empty (k ∷ ks) x h = by (seen (k ∷ ks) x) h
      where
        by : (b : Bool) → (if b then k ∷ ks else k ∷ (ks ++ x ∷ [])) ≡ [] → k ∷ ks ≡ []
        by true e = e
        by false e = absurd (cc e)

    grown : (ks xs : List X) → fold one_more ks xs ≡ [] → ks ≡ []
    grown ks [] h = h
    grown ks (x ∷ xs) h = was_empty ks x (grown (one_more ks x) xs h)

    pub none_grown : ((x : X) → seen [] x ≡ false) → (xs : List X) → fold one_more [] xs ≡ [] → xs ≡ []
    none_grown new [] h = refl
    none_grown new (x ∷ xs) h = let e = grown (one_more [] x) xs h in absurd (cc (e, new x))

module _ {X Y : Type 0} where
  pub none_mapped : (f : X → Y) (xs : List X) → map f xs ≡ [] → xs ≡ []
  none_mapped f [] h = refl
  none_mapped f (x ∷ xs) h = absurd (cc h)

  module _ (f : X → Option Y) where
    pub none_kept : (xs : List X) → filter_map f xs ≡ [] → AllByRecursion (λ x. f x ≡ None) xs
    none_kept [] h = tt
    none_kept (x ∷ xs) h = by (f x) refl (none_kept xs) h
      where
        by : (o : Option Y) → f x ≡ o → (filter_map f xs ≡ [] → AllByRecursion (λ y. f y ≡ None) xs) → cons_option o (filter_map f xs) ≡ [] → (f x ≡ None) × AllByRecursion (λ y. f y ≡ None) xs
        by None e rest k = (e, rest k)
        by (Some y) e rest k = absurd (cc k)

    pub kept_none : (xs : List X) → AllByRecursion (λ x. f x ≡ None) xs → filter_map f xs ≡ []
    kept_none [] h = refl
    kept_none (x ∷ xs) h = λ i. cons_option (h.0 i) (kept_none xs h.1 i)

  module _ (f : X → List Y) where
    pub none_in_each : (xs : List X) → flat_map f xs ≡ [] → AllByRecursion (λ x. f x ≡ []) xs
    none_in_each [] h = tt
    none_in_each (x ∷ xs) h = let p = parts_empty (f x) (flat_map f xs) h in (p.0, none_in_each xs p.1)

    pub each_none : (xs : List X) → AllByRecursion (λ x. f x ≡ []) xs → flat_map f xs ≡ []
    each_none [] h = refl
    each_none (x ∷ xs) h = empty_parts (f x) (flat_map f xs) h.0 (each_none xs h.1)

module _ {X : Type 0} (p : X → Bool) where
  pub all_pass : (xs : List X) → list_all p xs ≡ true → AllByRecursion (λ x. p x ≡ true) xs
  all_pass [] h = tt
  all_pass (x ∷ xs) h = by (p x) refl (all_pass xs) h
    where
      by : (b : Bool) → p x ≡ b → (list_all p xs ≡ true → AllByRecursion (λ y. p y ≡ true) xs) → (b && list_all p xs) ≡ true → (p x ≡ true) × AllByRecursion (λ y. p y ≡ true) xs
      by true e rest k = (e, rest k)
      by false e rest k = absurd (cc k)

  pub pass_all : (xs : List X) → AllByRecursion (λ x. p x ≡ true) xs → list_all p xs ≡ true
  pass_all [] h = refl
  pass_all (x ∷ xs) h = λ i. h.0 i && pass_all xs h.1 i
