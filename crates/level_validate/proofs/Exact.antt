-- What is found in several conditions is exact, as it is in each.
use Rattle.std.proofs.Common.{◌≡◌, ℕ, List, [], ◌∷◌, ◌++◌, Option, Some, None, map, refl, ap, inl, inr}
use Rattle.std.specs.Prelude.{◌↔◌}
use Rattle.std.specs.List.{flat_map, AllByRecursion}
use Rattle.policy_scope.specs.Names.{distinct}
use Rattle.level_spec.specs.Findings.{LevelFault, needs_level, literal_target, IsIn, IsFaultReported, LevelFaultsAreExact}
use Rattle.level_validate.specs.Faults.{fault_cmp}
use Rattle.level_validate.specs.Errors.{level_error, Condition, faults_in, dereferences_in, PassesIn, IsReportedOf, LevelErrorsAreExact}
use Rattle.level_validate.proofs.Once.{all_kept, none_distinct}
use Rattle.plain_lemmas.proofs.Lists.{append_empty_parts}

abbrev Conditions : Type 0
Conditions = List Condition

none_mapped : {X Y : Type 0} (f : X → Y) (xs : List X) → map f xs ≡ [] → xs ≡ []
none_mapped f [] h = refl
none_mapped f (x ∷ xs) h = absurd (cc)

in_left : {X : Type 0} (x : X) (xs ys : List X) → IsIn x xs → IsIn x (xs ++ ys)
in_left x [] ys h = absurd h
in_left x (z ∷ xs) ys (inl e) = inl e
in_left x (z ∷ xs) ys (inr h) = inr (in_left x xs ys h)

in_right : {X : Type 0} (x : X) (xs ys : List X) → IsIn x ys → IsIn x (xs ++ ys)
in_right x [] ys h = h
in_right x (z ∷ xs) ys h = inr (in_right x xs ys h)

module _ (exact : LevelFaultsAreExact) (n : ℕ) where
  all_pass : (cs : Conditions) → flat_map (faults_in n) cs ≡ [] → AllByRecursion (PassesIn n) cs
  all_pass [] h = tt
  all_pass (c ∷ cs) h =
      let r = append_empty_parts (faults_in n c) (flat_map (faults_in n) cs) h in
      ((exact c.0 n c.1).0.0 r.0, all_pass cs r.1)

  none_found : (cs : Conditions) → AllByRecursion (PassesIn n) cs → flat_map (faults_in n) cs ≡ []
  none_found [] h = refl
  none_found (c ∷ cs) h = (λ i. (exact c.0 n c.1).0.1 h.0 i ++ none_found cs h.1 i)

  -- no error exactly where each condition passes
  none_exactly : (id : List ℕ) (cs : Conditions) → (map (level_error id n) (distinct fault_cmp (flat_map (faults_in n) cs)) ≡ []) ↔ AllByRecursion (PassesIn n) cs
  none_exactly id cs = (
    (λ h. all_pass cs (none_distinct (flat_map (faults_in n) cs) (none_mapped (level_error id n) (distinct fault_cmp (flat_map (faults_in n) cs)) h))),
    (λ h. ap (λ fs. map (level_error id n) (distinct fault_cmp fs)) (none_found cs h)),
  )

  more_reported : (os ps : List (Option ℕ)) → ((x : Option ℕ) → IsIn x os → IsIn x ps) → (fs : List LevelFault) → AllByRecursion (IsFaultReported n os) fs → AllByRecursion (IsFaultReported n ps) fs
  more_reported os ps f [] h = tt
  more_reported os ps f (needs_level j l ∷ fs) h = ((h.0.0, h.0.1, h.0.2, f (Some h.0.0) h.0.3), more_reported os ps f fs h.1)
  more_reported os ps f (literal_target l ∷ fs) h = (f None h.0, more_reported os ps f fs h.1)

  both_all : (P : LevelFault → Type 0) (fs gs : List LevelFault) → AllByRecursion P fs → AllByRecursion P gs → AllByRecursion P (fs ++ gs)
  both_all P [] gs h i = i
  both_all P (f ∷ fs) gs h i = (h.0, both_all P fs gs h.1 i)

  all_reported : (cs : Conditions) → AllByRecursion (IsFaultReported n (flat_map dereferences_in cs)) (flat_map (faults_in n) cs)
  all_reported [] = tt
  all_reported (c ∷ cs) =
      both_all (IsFaultReported n (flat_map dereferences_in (c ∷ cs))) (faults_in n c) (flat_map (faults_in n) cs)
      (more_reported (dereferences_in c) (dereferences_in c ++ flat_map dereferences_in cs) (λ x h. in_left x (dereferences_in c) (flat_map dereferences_in cs) h) (faults_in n c) (exact c.0 n c.1).1)
      (more_reported (flat_map dereferences_in cs) (dereferences_in c ++ flat_map dereferences_in cs) (λ x h. in_right x (dereferences_in c) (flat_map dereferences_in cs) h) (flat_map (faults_in n) cs) (all_reported cs))

  as_errors : (id : List ℕ) (os : List (Option ℕ)) (fs : List LevelFault) → AllByRecursion (IsFaultReported n os) fs → AllByRecursion (IsReportedOf id n os) (map (level_error id n) fs)
  as_errors id os [] h = tt
  as_errors id os (needs_level j l ∷ fs) h = ((refl, (refl, h.0)), as_errors id os fs h.1)
  as_errors id os (literal_target l ∷ fs) h = ((refl, h.0), as_errors id os fs h.1)

  -- each error says of a dereference
  reported_exactly : (id : List ℕ) (cs : Conditions) → AllByRecursion (IsReportedOf id n (flat_map dereferences_in cs)) (map (level_error id n) (distinct fault_cmp (flat_map (faults_in n) cs)))
  reported_exactly id cs =
      as_errors id (flat_map dereferences_in cs) (distinct fault_cmp (flat_map (faults_in n) cs))
      (all_kept (IsFaultReported n (flat_map dereferences_in cs)) [] (flat_map (faults_in n) cs) tt (all_reported cs))

pub errors_are_exact : LevelFaultsAreExact → LevelErrorsAreExact
errors_are_exact exact id n cs = (none_exactly exact n id cs, reported_exactly exact n id cs)
