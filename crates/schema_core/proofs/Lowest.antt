-- The lowest of names, as the least that is named and does not pass.
use Rattle.std.proofs.Common.{◌≡◌, ℕ, Bool, true, false, ◌||◌, ◌↔◌, ◌⊎◌, inl, inr, List, [], ◌∷◌, Option, Some, None, IsTrue, refl, sym, ◌∙◌, ap}
use Rattle.std.specs.Prelude.{cond}
use Rattle.std.specs.Ordering.{is_eq}
use Rattle.std.specs.Cmp.{tied_itself}
use Rattle.std.specs.Cmp.Lexicographic.{nat_list_cmp_total}
use Rattle.std.proofs.lemmas.Bool.{or_cases, or_left, or_right, false≢true}
use Rattle.std.proofs.lemmas.Map.Lookups.{exact_bytes}
use Rattle.std.proofs.lemmas.Map.Views.{tells_apart}
use Rattle.policy_values.specs.Least.{IsLeastIfAny, lower_of}
use Rattle.policy_values.proofs.Least.{IsLeastIfAny-same, lower_least}
use Rattle.policy_values.specs.Uid.{text_cmp}
use Rattle.schema_types.specs.Names.{has_name}
use Rattle.schema_types.specs.Ty.{Ty, set_of, record_of, entity, action, extension, Attrs, no_attrs, attr}
use Rattle.schema_core.specs.Inside.{some_inside, some_within, is_of_entity, is_of_extension, is_known_extension}
use Rattle.schema_core.specs.Kinds.{Kind, standard, enumerated, some_of}
use Rattle.schema_core.specs.Lowest.{Next, lowest_name, lowest_names, lowest_inside, lowest_within, lowest_of, undeclared_next, unknown_next}

-- low is the least of P
abbrev pub Low : (List ℕ → Type 0) → Option (List ℕ) → Type 0
Low P low = IsLeastIfAny text_cmp P low

pub low_same : (P Q : List ℕ → Type 0) → ((q : List ℕ) → P q ↔ Q q) → (low : Option (List ℕ)) → Low P low → Low Q low
low_same P Q same low = IsLeastIfAny-same text_cmp P Q same low

-- with those of a test that are guarded
abbrev pub With : (List ℕ → Type 0) → (List ℕ → Bool) → (List ℕ → Bool) → List ℕ → Type 0
With P passes named q = P q ⊎ ((passes q ≡ false) × IsTrue (named q))

-- one test after another
pub with_both : (P : List ℕ → Type 0) (passes m n : List ℕ → Bool) (q : List ℕ) → With (With P passes m) passes n q ↔ With P passes (λ r. m r || n r) q
with_both P passes m n q = (to, from) where
  to : With (With P passes m) passes n q → With P passes (λ r. m r || n r) q
  to (inl (inl p)) = inl p
  to (inl (inr h)) = inr (h.0, or_left (m q) (n q) h.1)
  to (inr h) = inr (h.0, or_right (m q) (n q) h.1)

  from : With P passes (λ r. m r || n r) q → With (With P passes m) passes n q
  from (inl p) = inl (inl p)
  from (inr h) = elim (or_cases (m q) (n q) h.1) [ inl here ↦ inl (inr (h.0, here)) | inr there ↦ inr (h.0, there) ]

-- a test that nothing meets
with_none : (P : List ℕ → Type 0) (passes : List ℕ → Bool) (q : List ℕ) → P q ↔ With P passes (λ r. false) q
with_none P passes q = (λ p. inl p, from) where
  from : With P passes (λ r. false) q → P q
  from (inl p) = p
  from (inr h) = absurd (false≢true h.1)

pub low_none : (P : List ℕ → Type 0) (passes : List ℕ → Bool) (low : Option (List ℕ)) → Low P low → Low (With P passes (λ r. false)) low
low_none P passes low = low_same P (With P passes (λ r. false)) (with_none P passes) low

module _ (passes : List ℕ → Bool) where
  -- one name
  pub name_low : (P : List ℕ → Type 0) (low : Option (List ℕ)) (n : List ℕ) → Low P low → Low (With P passes (λ q. is_eq (text_cmp q n))) (lowest_name passes low n)
  name_low P low n l = by_test (passes n) refl where
    passed : passes n ≡ true → (q : List ℕ) → P q ↔ With P passes (λ r. is_eq (text_cmp r n)) q
    passed is q = (λ p. inl p, back) where
      back : With P passes (λ r. is_eq (text_cmp r n)) q → P q
      back (inl p) = p
      back (inr h) = absurd (false≢true (sym h.0 ∙ (ap passes (tells_apart exact_bytes q n h.1) ∙ is)))

    alone : passes n ≡ false → Low (λ q. (passes q ≡ false) × IsTrue (is_eq (text_cmp q n))) (Some n)
    alone is = record {
      holds = (is, ap is_eq (tied_itself nat_list_cmp_total n));
      least = λ q h. rw (tells_apart exact_bytes q n h.1, tied_itself nat_list_cmp_total n) refl;
    }

    by_test : (b : Bool) → passes n ≡ b → Low (With P passes (λ q. is_eq (text_cmp q n))) (cond b low (lower_of text_cmp low (Some n)))
    by_test true is = low_same P (With P passes (λ q. is_eq (text_cmp q n))) (passed is) low l
    by_test false is = lower_least nat_list_cmp_total P (λ q. (passes q ≡ false) × IsTrue (is_eq (text_cmp q n))) low (Some n) l (alone is)

  -- one name after another
  pub names_low : (P : List ℕ → Type 0) (low : Option (List ℕ)) (ns : List (List ℕ)) → Low P low → Low (With P passes (λ q. has_name ns q)) (lowest_names passes low ns)
  names_low P low [] l = low_none P passes low l
  names_low P low (n ∷ ns) l =
      low_same _ (With P passes (λ q. has_name (n ∷ ns) q)) (with_both P passes (λ q. is_eq (text_cmp q n)) (λ q. has_name ns q)) (lowest_names passes (lowest_name passes low n) ns)
      (names_low (With P passes (λ q. is_eq (text_cmp q n))) (lowest_name passes low n) ns (name_low P low n l))

-- what a step does at types without parts, it does at all
module _ (passes : List ℕ → Bool) (f : Next) (named : List ℕ → Ty → Bool) (step : (P : List ℕ → Type 0) (low : Option (List ℕ)) (t : Ty) → Low P low → Low (With P passes (λ q. named q t)) (f low t)) where
  mutual
    pub inside_low : (P : List ℕ → Type 0) (low : Option (List ℕ)) (t : Ty) → Low P low → Low (With P passes (λ q. some_inside (named q) t)) (lowest_inside f low t)
    inside_low P low (set_of t) l = inside_low P low t l
    inside_low P low (record_of xs o) l = within_low P low xs l
    inside_low P low (action n xs) l = within_low P low xs l
    inside_low P low t l = step P low t l

    pub within_low : (P : List ℕ → Type 0) (low : Option (List ℕ)) (xs : Attrs) → Low P low → Low (With P passes (λ q. some_within (named q) xs)) (lowest_within f low xs)
    within_low P low no_attrs l = low_none P passes low l
    within_low P low (attr k t q xs) l =
        low_same _ (With P passes (λ r. some_within (named r) (attr k t q xs))) (with_both P passes (λ r. some_inside (named r) t) (λ r. some_within (named r) xs)) (lowest_within f (lowest_inside f low t) xs)
        (within_low (With P passes (λ r. some_inside (named r) t)) (lowest_inside f low t) xs (inside_low P low t l))

  pub kind_low : (P : List ℕ → Type 0) (low : Option (List ℕ)) (k : Kind) → Low P low → Low (With P passes (λ q. some_of (named q) k)) (lowest_of f low k)
  kind_low P low (standard xs None) l = within_low P low xs l
  kind_low P low (standard xs (Some t)) l =
      low_same _ (With P passes (λ q. some_of (named q) (standard xs (Some t)))) (with_both P passes (λ r. some_within (named r) xs) (λ r. some_inside (named r) t)) (lowest_inside f (lowest_within f low xs) t)
      (inside_low (With P passes (λ r. some_within (named r) xs)) (lowest_within f low xs) t (within_low P low xs l))
  kind_low P low (enumerated ids) l = low_none P passes low l

-- entity types that are not declared
pub undeclared_step : (passes : List ℕ → Bool) (P : List ℕ → Type 0) (low : Option (List ℕ)) (t : Ty) → Low P low → Low (With P passes (λ q. is_of_entity q t)) (undeclared_next passes low t)
undeclared_step passes P low (entity ns) l = names_low passes P low ns l
undeclared_step passes P low t l = low_none P passes low l

-- extension types that there are not
pub unknown_step : (P : List ℕ → Type 0) (low : Option (List ℕ)) (t : Ty) → Low P low → Low (With P is_known_extension (λ q. is_of_extension q t)) (unknown_next low t)
unknown_step P low (extension n) l = name_low is_known_extension P low n l
unknown_step P low t l = low_none P is_known_extension low l
