-- The search for all that is reached: what was found is reached, and what stands one step behind is found, or its turn will come.
use Rattle.std.proofs.Common.{◌≡◌, ◌≤◌, Bool, true, false, ◌||◌, ◌&&◌, not, ◌⊎◌, ◌↔◌, Contains, List, [], ◌∷◌, ◌++◌, length, cond, Some, refl, sym, ◌∙◌, ap, inl, inr, arith}
use Rattle.std.specs.declared.cmp.Ordering.{Ordering}
use Rattle.std.specs.Cmp.{IsTotalOrder, tied_itself}
use Rattle.std.specs.Ordering.{is_eq}
use Rattle.std.specs.Option.{option_map_or}
use Rattle.std.specs.Map.{lookup}
use Rattle.std.specs.BTreeMap.{is_at}
use Rattle.std.specs.BTreeSet.{BTreeSet}
use Rattle.std.specs.List.Sorted.{IsStrictlySortedBy}
use Rattle.std.proofs.lemmas.Bool.{or_cases, or_left, or_right, and_parts, and_from, not_from_false, false≢true}
use Rattle.std.proofs.lemmas.Cmp.{eq_by_cmp_equiv}
use Rattle.std.proofs.lemmas.List.Folds.{list_any-append}
use Rattle.std.proofs.lemmas.Map.Keys.{IsDistinct-from_sorted}
use Rattle.std.proofs.lemmas.Map.Lookups.{CmpEqualImpliesEq}
use Rattle.std.proofs.lemmas.Map.Made.{length-le_from_is_member}
use Rattle.std.proofs.lemmas.Map.Views.{tells_apart, btree_set_contains_iff}
use Rattle.policy_values.specs.Reaches.{at, Reaches, last, more, has, leads, Leads}
use Rattle.policy_values.specs.ClosureSteps.{IsStart, AreWhole, IsAtOneOf}
use Rattle.policy_values.proofs.Reaches.{leads-Leads, Reaches-further, Reaches-map, Reaches-ends}

-- a step, by its test
abbrev pub Passes : {K : Type 0} → (K → K → Bool) → K → K → Type 0
Passes steps x y = steps x y ≡ true

pub record IsSearch {K : Type 0} (cmp : K → K → Ordering) (steps : K → K → Bool) (from : K) (reached waiting : List K) : Type 0 where
  pub ordered : IsStrictlySortedBy cmp reached
  pub sound : (q : K) → has cmp reached q ≡ true → Reaches (Passes steps) from q
  pub pending : (q : K) → has cmp waiting q ≡ true → has cmp reached q ≡ true
  pub first : (q : K) → steps from q ≡ true → has cmp reached q ≡ true
  pub closed : (x q : K) → has cmp reached x ≡ true → steps x q ≡ true → (has cmp waiting x ≡ true) ⊎ (has cmp reached q ≡ true)

-- all keys of the sets
pub named : {K : Type 0} → List (K × BTreeSet K) → List K
named [] = []
named (e ∷ es) = e.1.keys ++ named es

module _ {K : Type 0} {cmp : K → K → Ordering} (o : IsTotalOrder cmp) (exact : CmpEqualImpliesEq cmp) where
  has-push : (xs : List K) (x q : K) → has cmp (xs ++ x ∷ []) q ≡ true → (has cmp xs q ≡ true) ⊎ (x ≡ q)
  has-push xs x q h =
      elim (or_cases (has cmp xs q) (is_eq (cmp q x) || false) (sym (list_any-append (is_at (cmp q)) xs (x ∷ [])) ∙ h)) [
        | inl there ↦ inl there
        | inr here ↦ inr (elim (or_cases (is_eq (cmp q x)) false here) [ inl same ↦ sym (tells_apart exact q x same) | inr never ↦ absurd (false≢true never) ])
      ]

  has-pushed : (xs : List K) (x q : K) → has cmp xs q ≡ true → has cmp (xs ++ x ∷ []) q ≡ true
  has-pushed xs x q h = list_any-append (is_at (cmp q)) xs (x ∷ []) ∙ or_left _ _ h

  has-last : (xs : List K) (x : K) → has cmp (xs ++ x ∷ []) x ≡ true
  has-last xs x = list_any-append (is_at (cmp x)) xs (x ∷ []) ∙ or_right _ _ (or_left _ _ (ap is_eq (tied_itself o x)))

  -- the turn of a key that waited
  pub search_more : (steps : K → K → Bool) (from key : K) (reached reached' waiting rest waiting' : List K) → IsSearch cmp steps from reached waiting
      → waiting ≡ rest ++ key ∷ []
      → IsStrictlySortedBy cmp reached'
      → ((q : K) → has cmp reached' q ≡ (has cmp reached q || steps key q))
      → ((q : K) → has cmp waiting' q ≡ (has cmp rest q || (has cmp reached' q && not (has cmp reached q))))
      → IsSearch cmp steps from reached' waiting'
  search_more steps from key reached reached' waiting rest waiting' s e ordered added waits = record {
    ordered = ordered;
    sound = λ q h. elim (or_cases (has cmp reached q) (steps key q) (sym (added q) ∙ h)) [ inl old ↦ s.sound q old | inr new ↦ Reaches-further (s.sound key key_there) new ];
    pending = λ q h. elim (or_cases (has cmp rest q) _ (sym (waits q) ∙ h)) [ inl old ↦ stays q (s.pending q (rw e (has-pushed rest key q old))) | inr new ↦ (and_parts _ _ new).0 ];
    first = λ q h. stays q (s.first q h);
    closed = λ x q h t. closed_at x q t (has cmp reached x) refl h;
  } where
    stays : (q : K) → has cmp reached q ≡ true → has cmp reached' q ≡ true
    stays q h = added q ∙ or_left _ _ h

    key_there : has cmp reached key ≡ true
    key_there = s.pending key (rw e (has-last rest key))

    closed_at : (x q : K) → steps x q ≡ true → (b : Bool) → has cmp reached x ≡ b → has cmp reached' x ≡ true → (has cmp waiting' x ≡ true) ⊎ (has cmp reached' q ≡ true)
    closed_at x q t true is h =
        elim (s.closed x q is t) [
          | inl waits_x ↦ elim (has-push rest key x (rw e at waits_x)) [ inl in_rest ↦ inl (waits x ∙ or_left _ _ in_rest) | inr same ↦ inr (added q ∙ or_right (has cmp reached q) (steps key q) (rw same t)) ]
          | inr there ↦ inr (stays q there)
        ]
    closed_at x q t false is h = inl (waits x ∙ or_right _ _ (and_from _ _ h (not_from_false _ is)))

  -- the first turn, of the key itself
  pub search_first : (steps : List (K × BTreeSet K)) (from : K) (start reached waiting : List K) → IsStart cmp steps from start
      → IsStrictlySortedBy cmp reached
      → ((q : K) → has cmp reached q ≡ (has cmp start q || leads cmp steps from q))
      → ((q : K) → has cmp waiting q ≡ (has cmp reached q && not (has cmp start q)))
      → IsSearch cmp (leads cmp steps) from reached waiting
  search_first steps from start reached waiting s ordered added waits = record {
    ordered = ordered;
    sound = λ q h. elim (or_cases (has cmp start q) (leads cmp steps from q) (sym (added q) ∙ h)) [ inl old ↦ Reaches-map (λ a b. (leads-Leads o exact steps a b).1) (s.reached q old) | inr new ↦ last new ];
    pending = λ q h. (and_parts _ _ (sym (waits q) ∙ h)).0;
    first = λ q h. added q ∙ or_right _ _ h;
    closed = λ x q h t. closed_at x q t (has cmp start x) refl h;
  } where
    closed_at : (x q : K) → leads cmp steps x q ≡ true → (b : Bool) → has cmp start x ≡ b → has cmp reached x ≡ true → (has cmp waiting x ≡ true) ⊎ (has cmp reached q ≡ true)
    closed_at x q t true is h = inr (added q ∙ or_left _ _ (s.closed x q is t))
    closed_at x q t false is h = inl (waits x ∙ and_from _ _ h (not_from_false _ is))

  -- nothing is a start, and so is what one step leads to and all that is reached from there
  pub start_empty : (steps : List (K × BTreeSet K)) (from : K) (keys : List K) → keys ≡ [] → IsStart cmp steps from keys
  unfolding IsStrictlySortedBy
  start_empty steps from keys none = rw none record {
    ordered = tt;
    reached = λ q h. absurd (false≢true h);
    closed = λ x q h t. absurd (false≢true h);
  }

  pub start_next : (steps closed : List (K × BTreeSet K)) (from : K) (next set : BTreeSet K) → AreWhole cmp steps closed → at cmp steps from ≡ Some next → IsAtOneOf cmp closed next.keys set → IsStart cmp steps from set.keys
  start_next steps closed from next set w here (m, among, is) =
      let reached : (y : K) → Contains set.keys y ↔ Reaches (Leads cmp steps) m y = rw is at (w.reached m) in
      let led : Leads cmp steps from m = rw here among in
      record {
        ordered = rw is at (w.ordered m);
        reached = λ q h. more led ((reached q).0 ((btree_set_contains_iff o exact set q).0 h));
        closed = λ x q h t. (btree_set_contains_iff o exact set q).1 ((reached q).1 (Reaches-further ((reached x).0 ((btree_set_contains_iff o exact set x).0 h)) ((leads-Leads o exact steps x q).0 t)));
      }

  next_found : (steps : K → K → Bool) (from : K) (reached : List K) → IsSearch cmp steps from reached [] → (x q : K) → steps x q ≡ true → (x ≡ from) ⊎ (has cmp reached x ≡ true) → has cmp reached q ≡ true
  next_found steps from reached s x q t (inl same) = s.first q (rw same at t)
  next_found steps from reached s x q t (inr there) = elim (s.closed x q there t) [ inl never ↦ absurd (false≢true never) | inr found ↦ found ]

  -- nothing waits: what is reached was found
  pub complete : (steps : K → K → Bool) (from : K) (reached : List K) → IsSearch cmp steps from reached [] → {x q : K} → Reaches (Passes steps) x q → (x ≡ from) ⊎ (has cmp reached x ≡ true) → has cmp reached q ≡ true
  complete steps from reached s {x} (last {y = q} t) at = next_found steps from reached s x q t at
  complete steps from reached s {x} (more {y = y} t r) at = complete steps from reached s r (inr (next_found steps from reached s x y t at))

  -- whether a key stands among the named ones
  leads-named : (test : K → Bool) (q : K) (es : List (K × BTreeSet K)) → option_map_or (λ next. has cmp next.keys q) (lookup test es) false ≡ true → has cmp (named es) q ≡ true
  unfolding named
  leads-named test q [] h = h
  leads-named test q (e ∷ es) h = list_any-append (is_at (cmp q)) e.1.keys (named es) ∙ by_test (test e.0) (leads-named test q es) h where
    by_test : (b : Bool) → (option_map_or (λ next. has cmp next.keys q) (lookup test es) false ≡ true → has cmp (named es) q ≡ true) → option_map_or (λ next. has cmp next.keys q) (cond b (Some e.1) (lookup test es)) false ≡ true → (has cmp e.1.keys q || has cmp (named es) q) ≡ true
    by_test true rest k = or_left _ _ k
    by_test false rest k = or_right _ _ (rest k)

  -- what is found when nothing waits
  pub search_end : (steps : List (K × BTreeSet K)) (from : K) (reached : BTreeSet K) (waiting : List K) → IsSearch cmp (leads cmp steps) from reached.keys waiting → length waiting ≡ 0 → (y : K) → Contains reached.keys y ↔ Reaches (Leads cmp steps) from y
  search_end steps from reached (x ∷ xs) s none y = absurd (omega arith)
  search_end steps from reached [] s none y = (
    λ there. Reaches-map (λ a b. (leads-Leads o exact steps a b).0) (s.sound y ((btree_set_contains_iff o exact reached y).1 there)),
    λ way. (btree_set_contains_iff o exact reached y).0 (complete (leads cmp steps) from reached.keys s (Reaches-map (λ a b. (leads-Leads o exact steps a b).1) way) (inl refl)),
  )

  -- no more keys are found than are named
  pub search_bound : (steps : List (K × BTreeSet K)) (from : K) (reached waiting : List K) → IsSearch cmp (leads cmp steps) from reached waiting → length reached ≤ length (named steps)
  search_bound steps from reached waiting s =
      length-le_from_is_member (eq_by_cmp_equiv o) reached (named steps) (IsDistinct-from_sorted cmp reached s.ordered)
      (λ q h. Reaches-ends (λ y. has cmp (named steps) y ≡ true) (λ x y t. leads-named (is_at (cmp x)) y steps t) (s.sound q h))
