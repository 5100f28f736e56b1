-- The least key of a map's sets that has no entry.
use Rattle.std.proofs.Common.{◌≡◌, Bool, true, false, ◌⊎◌, inl, inr, List, [], ◌∷◌, Option, Some, None, Contains, refl, sym, ◌∙◌}
use Rattle.std.specs.declared.cmp.Ordering.{Ordering}
use Rattle.std.specs.declared.cmp.Ordering.TheVariants.{Less}
use Rattle.std.specs.Cmp.{IsTotalOrder}
use Rattle.std.specs.Ordering.{is_eq}
use Rattle.std.specs.Option.{is_some}
use Rattle.std.specs.List.{AllByRecursion}
use Rattle.std.specs.List.Sorted.{IsStrictlySortedBy}
use Rattle.std.specs.Map.{keys_of}
use Rattle.std.specs.BTreeSet.{BTreeSet}
use Rattle.std.proofs.lemmas.Bool.{or_parts, false≢true}
use Rattle.std.proofs.lemmas.Map.Keys.{sorted_head, sorted_tail}
use Rattle.std.proofs.lemmas.Map.Lookups.{CmpEqualImpliesEq}
use Rattle.std.proofs.lemmas.Map.Views.{tells_apart}
use Rattle.policy_values.specs.Least.{IsLeastIfAny, lower_of}
use Rattle.policy_values.specs.Reaches.{at, has, Leads, IsOutside}
use Rattle.policy_values.proofs.Least.{IsLeastIfAny-same, lower_least}
use Rattle.policy_values.proofs.Reaches.{Leads-key, Leads-at}

-- what stands in a set of a key that is not left, and has no entry
abbrev pub IsDoneOutside : {A K : Type 0} → (A → A → Ordering) → (K → K → Ordering) → List (K × BTreeSet K) → List (A × BTreeSet K) → List A → K → Type 0
IsDoneOutside {A} cmp_a cmp steps sets left q = (is_some (at cmp steps q) ≡ false) × ((x : A) × Leads cmp_a sets x q × (has cmp_a left x ≡ false))

pub record IsLeastSoFar {A K : Type 0} (cmp_a : A → A → Ordering) (cmp : K → K → Ordering) (steps : List (K × BTreeSet K)) (sets : List (A × BTreeSet K)) (left : List A) (least : Option K) : Type 0 where
  pub ordered : IsStrictlySortedBy cmp_a left
  pub found : IsLeastIfAny cmp (IsDoneOutside cmp_a cmp steps sets left) least

module _ {A K : Type 0} {cmp_a : A → A → Ordering} {cmp : K → K → Ordering} (o_a : IsTotalOrder cmp_a) (exact_a : CmpEqualImpliesEq cmp_a) (o : IsTotalOrder cmp) (steps : List (K × BTreeSet K)) (sets : List (A × BTreeSet K)) where
  absent_after : (x : A) (rest : List A) → AllByRecursion (λ y. cmp_a x y ≡ Less) rest → has cmp_a rest x ≡ false
  absent_after x [] all = refl
  absent_after x (y ∷ rest) all = rw all.0 (absent_after x rest all.1)

  pub so_far_first : IsStrictlySortedBy cmp_a (keys_of sets) → IsLeastSoFar cmp_a cmp steps sets (keys_of sets) None
  so_far_first ordered = record {
    ordered = ordered;
    found = λ q h. false≢true (sym h.1.2 ∙ Leads-key cmp_a sets h.1.0 q h.1.1);
  }

  pub so_far_more : (left rest : List A) (key : A) (set : BTreeSet K) (least found least' : Option K) → IsLeastSoFar cmp_a cmp steps sets left least
      → left ≡ key ∷ rest → at cmp_a sets key ≡ Some set
      → IsLeastIfAny cmp (λ q. (is_some (at cmp steps q) ≡ false) × Contains set.keys q) found
      → least' ≡ lower_of cmp least found
      → IsLeastSoFar cmp_a cmp steps sets rest least'
  so_far_more left rest key set least found least' t e here l is = record {
    ordered = sorted_tail cmp_a key rest ordered;
    found = rw is (IsLeastIfAny-same cmp _ (IsDoneOutside cmp_a cmp steps sets rest) (λ q. (to q, from q)) (lower_of cmp least found) (lower_least o (IsDoneOutside cmp_a cmp steps sets left) (λ q. (is_some (at cmp steps q) ≡ false) × Contains set.keys q) least found t.found l));
  } where
    ordered : IsStrictlySortedBy cmp_a (key ∷ rest)
    ordered = rw e at t.ordered

    to : (q : K) → IsDoneOutside cmp_a cmp steps sets left q ⊎ ((is_some (at cmp steps q) ≡ false) × Contains set.keys q) → IsDoneOutside cmp_a cmp steps sets rest q
    to q (inl d) = (d.0, (d.1.0, d.1.1, (or_parts (is_eq (cmp_a d.1.0 key)) (has cmp_a rest d.1.0) (rw e at d.1.2)).1))
    to q (inr n) = (n.0, (key, (Leads-at cmp_a sets key set here q).1 n.1, absent_after key rest (sorted_head cmp_a key rest ordered)))

    from : (q : K) → IsDoneOutside cmp_a cmp steps sets rest q → IsDoneOutside cmp_a cmp steps sets left q ⊎ ((is_some (at cmp steps q) ≡ false) × Contains set.keys q)
    from q d = by_test (is_eq (cmp_a d.1.0 key)) refl where
      by_test : (b : Bool) → is_eq (cmp_a d.1.0 key) ≡ b → IsDoneOutside cmp_a cmp steps sets left q ⊎ ((is_some (at cmp steps q) ≡ false) × Contains set.keys q)
      by_test true same = inr (d.0, (Leads-at cmp_a sets key set here q).0 (rw (tells_apart exact_a d.1.0 key same) at d.1.1))
      by_test false other = inl (d.0, (d.1.0, d.1.1, rw (e, other) d.1.2))

  pub so_far_all : (least : Option K) → IsLeastSoFar cmp_a cmp steps sets [] least → IsLeastIfAny cmp (IsOutside cmp_a cmp steps sets) least
  so_far_all least t = IsLeastIfAny-same cmp (IsDoneOutside cmp_a cmp steps sets []) (IsOutside cmp_a cmp steps sets) (λ q. (λ d. (d.0, (d.1.0, d.1.1)), λ u. (u.0, (u.1.0, u.1.1, refl)))) least t.found
