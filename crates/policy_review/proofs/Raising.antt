-- A level is raised by what errors need, up to the least level.
use Rattle.std.proofs.Common.{◌≡◌, ◌<◌, ◌≤◌, ℕ, ◌+◌, ◌-◌, max, nat_lt, nat_le, Bool, true, false, ◌&&◌, List, [], ◌∷◌, length, Option, Some, None, refl, sym, ap, ◌∙◌, subst, inl, inr, arith}
use Rattle.std.specs.Prelude.{◌==◌}
use Rattle.std.specs.List.{list_all, AllByRecursion, flat_map}
use Rattle.std.proofs.lemmas.Map.Views.{exact_unsigned_eq}
use Rattle.std.proofs.lemmas.List.Folds.{list_all-append}
use Rattle.findings.specs.declared.error.ValidationError.{ValidationError}
use Rattle.findings.specs.declared.error.ValidationError.TheVariants.{EntityDerefLevelViolation}
use Rattle.findings.specs.declared.level.EntityDerefViolationKind.{EntityDerefViolationKind}
use Rattle.findings.specs.declared.level.EntityDerefViolationKind.TheVariants.{MaximumLevelExceeded, LiteralDerefTarget}
use Rattle.level_spec.specs.Findings.{IsIn}
use Rattle.level_spec.specs.Levels.{greater, one_more, least, is_below}
use Rattle.policy_validate.specs.Errors.{Condition, dereferences_in, PassesIn, IsReportedBy, IsReportedOf}
use Rattle.policy_review.specs.Found.{needed_of, needed_in, needed_by}
use Rattle.policy_review.proofs.Least.{at_most, all_at_most}
use Rattle.plain_lemmas.proofs.Lists.{empty_of_length}

pub greater_zero : (o : Option ℕ) → greater o (Some 0) ≡ o
greater_zero None = refl
greater_zero (Some j) = ap Some (search (arith))

pub zero_greater : (o : Option ℕ) → greater (Some 0) o ≡ o
zero_greater None = refl
zero_greater (Some j) = ap Some (search (arith))

pub greater_assoc : (o p q : Option ℕ) → greater (greater o p) q ≡ greater o (greater p q)
greater_assoc None p q = refl
greater_assoc (Some j) None q = refl
greater_assoc (Some j) (Some k) None = refl
greater_assoc (Some j) (Some k) (Some l) = ap Some (search (arith))

-- ---- dereferences, by the levels of their left operands

-- no level passes the least
none_within : (os : List (Option ℕ)) → IsIn None os → least os ≡ None
none_within [] i = absurd i
none_within (o ∷ os) (inl e) = ap (λ p. greater (one_more p) (least os)) e
none_within (o ∷ os) (inr i) = ap (greater (one_more o)) (none_within os i) ∙ no_greater (one_more o)
  where
    no_greater : (p : Option ℕ) → greater p None ≡ None
    no_greater None = refl
    no_greater (Some a) = refl

some_within : (os : List (Option ℕ)) (k : ℕ) → IsIn (Some k) os → (m : ℕ) → least os ≡ Some m → k + 1 ≤ m
some_within [] k i m h = absurd i
some_within (o ∷ os) k (inl e) m h = by (least os) (ap (λ p. greater (one_more p) (least os)) (sym e) ∙ h)
  where
    by : (l : Option ℕ) → greater (Some (k + 1)) l ≡ Some m → k + 1 ≤ m
    by None g = absurd (cc)
    by (Some l) g = let same : max (k + 1) l ≡ m = cc in search (arith)
some_within (o ∷ os) k (inr i) m h = by (one_more o) (least os) (some_within os k i) h
  where
    by : (p l : Option ℕ) → ((n : ℕ) → l ≡ Some n → k + 1 ≤ n) → greater p l ≡ Some m → k + 1 ≤ m
    by None l f g = absurd (cc)
    by (Some a) None f g = absurd (cc)
    by (Some a) (Some l) f g = let below = f l refl in let same : max a l ≡ m = cc in search (arith)

-- one more than the greatest of those that are there
abbrev pub top : List (Option ℕ) → ℕ
top [] = 0
top (None ∷ os) = top os
top (Some k ∷ os) = max (k + 1) (top os)

below_top : (os : List (Option ℕ)) (k : ℕ) → IsIn (Some k) os → k + 1 ≤ top os
below_top [] k i = absurd i
below_top (None ∷ os) k (inl e) = absurd (cc)
below_top (None ∷ os) k (inr i) = below_top os k i
below_top (Some j ∷ os) k (inl e) = let same : j ≡ k = cc in search (arith)
below_top (Some j ∷ os) k (inr i) = let below = below_top os k i in search (arith)

-- ---- what errors need

-- one more than the level of some operand that is not below the level allowed; none where some operand has none
abbrev IsNeeded : ℕ → List (Option ℕ) → Option ℕ → Type 0
IsNeeded n os None = IsIn None os
IsNeeded n os (Some m) = (k : ℕ) × (m ≡ k + 1) × (nat_lt k n ≡ false) × IsIn (Some k) os

module _ (id : List ℕ) (n : ℕ) (os : List (Option ℕ)) where
  needed_reported : (e : ValidationError) → IsReportedOf id n os e → IsNeeded n os (needed_in e)
  needed_reported (EntityDerefLevelViolation e) h = by e.violation_kind h.1
    where
      by : (v : EntityDerefViolationKind) → IsReportedBy n os v → IsNeeded n os (needed_of v)
      by (MaximumLevelExceeded allowed actual) h = h.1
      by LiteralDerefTarget h = h
  needed_reported e h = absurd h

  greater_needed : (o p : Option ℕ) → IsNeeded n os o → IsNeeded n os p → IsNeeded n os (greater o p)
  greater_needed None p h k = h
  greater_needed (Some j) None h k = k
  greater_needed (Some j) (Some m) h k = by (nat_le j m) refl
    where
      by : (b : Bool) → nat_le j m ≡ b → IsNeeded n os (Some (max j m))
      by true e = let same : m ≡ max j m = search (arith) in subst (λ x. IsNeeded n os (Some x)) same k
      by false e = let same : j ≡ max j m = search (arith) in subst (λ x. IsNeeded n os (Some x)) same h

  needed_all : (e : ValidationError) (es : List ValidationError) → AllByRecursion (IsReportedOf id n os) (e ∷ es) → IsNeeded n os (needed_by (e ∷ es))
  needed_all e [] h = subst (IsNeeded n os) (sym (greater_zero (needed_in e))) (needed_reported e h.0)
  needed_all e (f ∷ fs) h = greater_needed (needed_in e) (needed_by (f ∷ fs)) (needed_reported e h.0) (needed_all f fs h.1)

  is_needed : (es : List ValidationError) → (es ≡ [] → ⊥) → AllByRecursion (IsReportedOf id n os) es → IsNeeded n os (needed_by es)
  is_needed [] some h = absurd (some refl)
  is_needed (e ∷ es) some h = needed_all e es h

  -- the level goes up to what is needed, and no higher than the least
  pub record IsRaised (m : ℕ) : Type 0 where
    pub same : greater (Some m) (least os) ≡ greater (Some n) (least os)
    pub higher : n < m
    pub nearer : top os - m < top os - n

  pub needed_raises : (es : List ValidationError) → (es ≡ [] → ⊥) → AllByRecursion (IsReportedOf id n os) es → (m : ℕ) → needed_by es ≡ Some m → IsRaised m
  needed_raises es some h m is = by (subst (IsNeeded n os) is (is_needed es some h))
    where
      by : IsNeeded n os (Some m) → IsRaised m
      by r = record {
        same = with (least os) (λ l e. some_within os r.0 r.3 l e);
        higher = search (arith, r.1, r.2);
        nearer = let below = below_top os r.0 r.3 in search (arith, r.1, r.2);
      }
        where
          with : (o : Option ℕ) → ((l : ℕ) → o ≡ Some l → r.0 + 1 ≤ l) → greater (Some m) o ≡ greater (Some n) o
          with None f = refl
          with (Some l) f = let below = f l refl in ap Some (search (arith, r.1, r.2))

  -- where what is needed has no level, there is none
  pub none_needed : (es : List ValidationError) → (es ≡ [] → ⊥) → AllByRecursion (IsReportedOf id n os) es → needed_by es ≡ None → greater (Some n) (least os) ≡ None
  none_needed es some h is = ap (greater (Some n)) (none_within os (subst (IsNeeded n os) is (is_needed es some h)))

-- ---- none and some

pub none_counted : {X : Type 0} (xs : List X) (n : ℕ) → length xs ≡ n → (n == 0) ≡ true → xs ≡ []
none_counted xs n e h = empty_of_length xs (e ∙ exact_unsigned_eq n 0 h)

pub some_counted : {X : Type 0} (xs : List X) (n : ℕ) → length xs ≡ n → (n == 0) ≡ false → xs ≡ [] → ⊥
some_counted xs n e h is = absurd (cc (sym h ∙ ap (λ k. k == 0) (sym e ∙ ap length is)))

-- ---- where all pass

below_all : (n : ℕ) (cs : List Condition) → AllByRecursion (PassesIn n) cs → list_all (is_below n) (flat_map dereferences_in cs) ≡ true
below_all n [] h = refl
below_all n (c ∷ cs) h = list_all-append (is_below n) (dereferences_in c) (flat_map dereferences_in cs) ∙ (λ i. h.0 i && below_all n cs h.1 i)

pub all_pass : (n : ℕ) (cs : List Condition) → AllByRecursion (PassesIn n) cs → greater (Some n) (least (flat_map dereferences_in cs)) ≡ Some n
all_pass n cs h = by (least (flat_map dereferences_in cs)) (sym (all_at_most n (flat_map dereferences_in cs)) ∙ below_all n cs h)
  where
    by : (o : Option ℕ) → at_most n o ≡ true → greater (Some n) o ≡ Some n
    by None e = absurd (cc)
    by (Some l) e = ap Some (search (arith))
