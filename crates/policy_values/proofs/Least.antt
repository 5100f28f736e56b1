-- The least key of which a fact holds: by a walk through keys in order, and of two kinds of keys.
use Rattle.policy_values.specs.Least.{IsLeast, IsLeastIfAny, lower_of}
use Rattle.policy_values.specs.Reaches.{has}
use Rattle.std.proofs.Common.{◌≡◌, Bool, true, false, ◌↔◌, ◌⊎◌, inl, inr, cond, List, [], ◌∷◌, Option, Some, None, refl, sym}
use Rattle.std.proofs.lemmas.Bool.{or_cases, false≢true}
use Rattle.std.proofs.lemmas.Cmp.{upto}
use Rattle.std.proofs.lemmas.Map.Keys.{sorted_head, sorted_tail}
use Rattle.std.proofs.lemmas.Map.Lookups.{CmpEqualImpliesEq}
use Rattle.std.proofs.lemmas.Map.Views.{tells_apart}
use Rattle.std.specs.Cmp.{IsTotalOrder, tied_itself}
use Rattle.std.specs.List.Sorted.{IsStrictlySortedBy}
use Rattle.std.specs.List.{AllByRecursion}
use Rattle.std.specs.Ordering.{is_eq, is_gt, is_lt, ordering_reverse}
use Rattle.std.specs.declared.cmp.Ordering.TheVariants.{Less, Equal, Greater}
use Rattle.std.specs.declared.cmp.Ordering.{Ordering}

-- each key with P is among those that are left
pub record IsRest {K : Type 0} (cmp : K → K → Ordering) (P : K → Type 0) (left : List K) : Type 0 where
  pub ordered : IsStrictlySortedBy cmp left
  pub among : (q : K) → P q → has cmp left q ≡ true

module _ {K : Type 0} {cmp : K → K → Ordering} (o : IsTotalOrder cmp) (exact : CmpEqualImpliesEq cmp) (P : K → Type 0) where
  among_head : (x : K) (rest : List K) (q : K) → has cmp (x ∷ rest) q ≡ true → (q ≡ x) ⊎ (has cmp rest q ≡ true)
  among_head x rest q h = elim (or_cases (is_eq (cmp q x)) _ h) [ inl same ↦ inl (tells_apart exact q x same) | inr later ↦ inr later ]

  above : (x q : K) (rest : List K) → AllByRecursion (λ y. cmp x y ≡ Less) rest → has cmp rest q ≡ true → is_gt (cmp x q) ≡ false
  above x q [] all h = absurd (false≢true h)
  above x q (y ∷ rest) all h = elim (among_head y rest q h) [ inl same ↦ rw (same, all.0) refl | inr later ↦ above x q rest all.1 later ]

  -- the first one has it
  pub least_here : (x : K) (rest : List K) → IsRest cmp P (x ∷ rest) → P x → IsLeast cmp P x
  least_here x rest r holds = record {
    holds = holds;
    least = λ q p. elim (among_head x rest q (r.among q p)) [ inl same ↦ rw (same, tied_itself o x) refl | inr later ↦ above x q rest (sorted_head cmp x rest r.ordered) later ];
  }

  -- the first one has it not
  pub rest_more : (x : K) (rest : List K) → IsRest cmp P (x ∷ rest) → (P x → ⊥) → IsRest cmp P rest
  rest_more x rest r not_here = record {
    ordered = sorted_tail cmp x rest r.ordered;
    among = λ q p. elim (among_head x rest q (r.among q p)) [ inl same ↦ absurd (not_here (rw same at p)) | inr later ↦ later ];
  }

  pub none_left : IsRest cmp P [] → (q : K) → P q → ⊥
  none_left r q p = false≢true (r.among q p)

-- by another fact that says the same
pub IsLeast-same : {K : Type 0} {cmp : K → K → Ordering} {P Q : K → Type 0} → ((q : K) → P q ↔ Q q) → {k : K} → IsLeast cmp P k → IsLeast cmp Q k
IsLeast-same same l = record { holds = (same _).0 l.holds; least = λ q h. l.least q ((same q).1 h) }

pub IsLeastIfAny-same : {K : Type 0} (cmp : K → K → Ordering) (P Q : K → Type 0) → ((q : K) → P q ↔ Q q) → (r : Option K) → IsLeastIfAny cmp P r → IsLeastIfAny cmp Q r
IsLeastIfAny-same cmp P Q same None none = λ q h. none q ((same q).1 h)
IsLeastIfAny-same cmp P Q same (Some k) l = IsLeast-same same l

module _ {K : Type 0} {cmp : K → K → Ordering} (o : IsTotalOrder cmp) where
  not_gt : (r : Ordering) → is_lt r ≡ true → is_gt r ≡ false
  not_gt Less h = refl
  not_gt Equal h = refl
  not_gt Greater h = absurd (false≢true h)

  not_gt_back : (r : Ordering) → is_lt r ≡ false → is_gt (ordering_reverse r) ≡ false
  not_gt_back Less h = absurd (false≢true (sym h))
  not_gt_back Equal h = refl
  not_gt_back Greater h = refl

  pub lower_least : (P Q : K → Type 0) (a b : Option K) → IsLeastIfAny cmp P a → IsLeastIfAny cmp Q b → IsLeastIfAny cmp (λ q. P q ⊎ Q q) (lower_of cmp a b)
  lower_least P Q None None none none' = λ q h. elim h [ inl p ↦ none q p | inr p ↦ none' q p ]
  lower_least P Q None (Some b) none l = record { holds = inr l.holds; least = λ q h. elim h [ inl p ↦ absurd (none q p) | inr p ↦ l.least q p ] }
  lower_least P Q (Some a) None l none = record { holds = inl l.holds; least = λ q h. elim h [ inl p ↦ l.least q p | inr p ↦ absurd (none q p) ] }
  lower_least P Q (Some a) (Some b) l l' = at_test (is_lt (cmp b a)) refl where
    at_test : (t : Bool) → is_lt (cmp b a) ≡ t → IsLeast cmp (λ q. P q ⊎ Q q) (cond t b a)
    at_test true is = record {
      holds = inr l'.holds;
      least = λ q h. elim h [ inl p ↦ upto o b a q (not_gt (cmp b a) is) (l.least q p) | inr p ↦ l'.least q p ];
    }
    at_test false is = record {
      holds = inl l.holds;
      least = λ q h. elim h [ inl p ↦ l.least q p | inr p ↦ upto o a b q (rw (o.antisymm a b) (not_gt_back (cmp b a) is)) (l'.least q p) ];
    }
