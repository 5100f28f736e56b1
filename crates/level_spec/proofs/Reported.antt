-- What is found is so.
use Rattle.std.proofs.Common.{◌≡◌, ◌⊎◌, ℕ, ◌+◌, nat_lt, Bool, true, false, ◌&&◌, List, [], ◌∷◌, ◌++◌, Option, Some, None, refl, sym, ap, ◌∙◌, cond, inl, inr}
use Rattle.std.specs.List.{list_all, AllByRecursion}
use Rattle.std.specs.Ordering.{is_eq}
use Rattle.policy_values.specs.declared.entity_uid.EntityUID.{EntityUID}
use Rattle.policy_values.specs.Uid.{text_cmp}
use Rattle.schema_types.specs.Ty.{Ty}
use Rattle.policy_expressions.specs.declared.kinds.Loc.{Loc}
use Rattle.policy_expressions.specs.declared.kinds.BinaryOp.{BinaryOp}
use Rattle.policy_expressions.specs.declared.kinds.BinaryOp.TheVariants.{GetTag}
use Rattle.policy_expressions.specs.Tree.{lit, var, slot, ite, conj, disj, unary, binary, attr, has, like, is_type, call, set, rec, Trees, no_trees, tree, Named, no_named, named, Mark}
use Rattle.typing_spec.specs.Typing.{Typed}
use Rattle.level_spec.specs.Levels.{is_reached, gives_entity, greater, if_level, one_more, binary_level, asks_store, level_if, is_below, literal_level, level, level_under, dereferences, dereferences_all, dereferences_named}
use Rattle.level_spec.specs.Findings.{LevelFault, needs_level, literal_target, own_fault, target_fault, binary_target, level_faults, faults_all, faults_named, target_faults, named_targets, IsIn, IsFaultReported, LevelFaultsAreExact}
use Rattle.level_spec.proofs.Clean.{clean}

in_left : {X : Type 0} (x : X) (xs ys : List X) → IsIn x xs → IsIn x (xs ++ ys)
in_left x [] ys h = absurd h
in_left x (z ∷ xs) ys (inl e) = inl e
in_left x (z ∷ xs) ys (inr h) = inr (in_left x xs ys h)

in_right : {X : Type 0} (x : X) (xs ys : List X) → IsIn x ys → IsIn x (xs ++ ys)
in_right x [] ys h = h
in_right x (z ∷ xs) ys h = inr (in_right x xs ys h)

-- so is what is found in a target, with the level of the target
abbrev ReportedAt : ℕ → Option ℕ → List (Option ℕ) → LevelFault → Type 0
ReportedAt n o os (needs_level j l) = (k : ℕ) × (j ≡ k + 1) × (nat_lt k n ≡ false) × IsIn (Some k) os
ReportedAt n o os (literal_target l) = (o ≡ None) ⊎ IsIn None os

module _ (n : ℕ) where
  abbrev Reported : List (Option ℕ) → List LevelFault → Type 0
  Reported os fs = AllByRecursion (IsFaultReported n os) fs

  abbrev TargetReported : Option ℕ → List (Option ℕ) → List LevelFault → Type 0
  TargetReported o os fs = AllByRecursion (ReportedAt n o os) fs

  abbrev Into : List (Option ℕ) → List (Option ℕ) → Type 0
  Into os ps = (x : Option ℕ) → IsIn x os → IsIn x ps

  more_reported : (os ps : List (Option ℕ)) → Into os ps → (fs : List LevelFault) → Reported os fs → Reported ps fs
  more_reported os ps f [] h = tt
  more_reported os ps f (needs_level j l ∷ fs) h = ((h.0.0, h.0.1, h.0.2, f (Some h.0.0) h.0.3), more_reported os ps f fs h.1)
  more_reported os ps f (literal_target l ∷ fs) h = (f None h.0, more_reported os ps f fs h.1)

  -- a target's, once the target has no level the others have one that is none
  of_target : (o : Option ℕ) (os ps : List (Option ℕ)) → (o ≡ None → IsIn None ps) → Into os ps → (fs : List LevelFault) → TargetReported o os fs → Reported ps fs
  of_target o os ps g f [] h = tt
  of_target o os ps g f (needs_level j l ∷ fs) h = ((h.0.0, h.0.1, h.0.2, f (Some h.0.0) h.0.3), of_target o os ps g f fs h.1)
  of_target o os ps g f (literal_target l ∷ fs) h = (here h.0, of_target o os ps g f fs h.1)
    where
      here : (o ≡ None) ⊎ IsIn None os → IsIn None ps
      here (inl e) = g e
      here (inr i) = f None i

  to_target : (o p : Option ℕ) (os ps : List (Option ℕ)) → (o ≡ None → (p ≡ None) ⊎ IsIn None ps) → Into os ps → (fs : List LevelFault) → TargetReported o os fs → TargetReported p ps fs
  to_target o p os ps g f [] h = tt
  to_target o p os ps g f (needs_level j l ∷ fs) h = ((h.0.0, h.0.1, h.0.2, f (Some h.0.0) h.0.3), to_target o p os ps g f fs h.1)
  to_target o p os ps g f (literal_target l ∷ fs) h = (here h.0, to_target o p os ps g f fs h.1)
    where
      here : (o ≡ None) ⊎ IsIn None os → (p ≡ None) ⊎ IsIn None ps
      here (inl e) = g e
      here (inr i) = inr (f None i)

  in_target : (p : Option ℕ) (os ps : List (Option ℕ)) → Into os ps → (fs : List LevelFault) → Reported os fs → TargetReported p ps fs
  in_target p os ps f [] h = tt
  in_target p os ps f (needs_level j l ∷ fs) h = ((h.0.0, h.0.1, h.0.2, f (Some h.0.0) h.0.3), in_target p os ps f fs h.1)
  in_target p os ps f (literal_target l ∷ fs) h = (inr (f None h.0), in_target p os ps f fs h.1)

  both_all : (P : LevelFault → Type 0) (fs gs : List LevelFault) → AllByRecursion P fs → AllByRecursion P gs → AllByRecursion P (fs ++ gs)
  both_all P [] gs h i = i
  both_all P (f ∷ fs) gs h i = (h.0, both_all P fs gs h.1 i)

  both_reported : (os ps : List (Option ℕ)) (fs gs : List LevelFault) → Reported os fs → Reported ps gs → Reported (os ++ ps) (fs ++ gs)
  both_reported os ps fs gs h i = both_all (IsFaultReported n (os ++ ps)) fs gs (more_reported os (os ++ ps) (λ x j. in_left x os ps j) fs h) (more_reported ps (os ++ ps) (λ x j. in_right x os ps j) gs i)

  own_reported : (o : Option ℕ) (os : List (Option ℕ)) (l : Option Loc) → Reported (o ∷ os) (own_fault n o l)
  own_reported None os l = tt
  own_reported (Some k) os l = here (nat_lt k n) refl
    where
      here : (b : Bool) → nat_lt k n ≡ b → Reported (Some k ∷ os) (cond b [] (needs_level (k + 1) l ∷ []))
      here true e = tt
      here false e = ((k, refl, e, inl refl), tt)

  -- `.` and `has`
  access_reported : (b : Bool) (o : Option ℕ) (l : Option Loc) (os : List (Option ℕ)) (ts fs : List LevelFault) → TargetReported o os ts → Reported os fs → Reported (level_if b o ++ os) (cond b (ts ++ own_fault n o l) fs)
  access_reported true o l os ts fs t f = both_all (IsFaultReported n (o ∷ os)) ts (own_fault n o l) (of_target o os (o ∷ os) (λ e. inl e) (λ x i. inr i) ts t) (own_reported o os l)
  access_reported false o l os ts fs t f = f

  op_reported : (b : Bool) (o : Option ℕ) (l : Option Loc) (os ps : List (Option ℕ)) (ts fs gs : List LevelFault) → TargetReported o os ts → Reported os fs → Reported ps gs → Reported (level_if b o ++ (os ++ ps)) (cond b (ts ++ (gs ++ own_fault n o l)) (fs ++ gs))
  op_reported true o l os ps ts fs gs t f g =
      both_all (IsFaultReported n (o ∷ (os ++ ps))) ts (gs ++ own_fault n o l) (of_target o os (o ∷ (os ++ ps)) (λ e. inl e) (λ x i. inr (in_left x os ps i)) ts t)
      (both_all (IsFaultReported n (o ∷ (os ++ ps))) gs (own_fault n o l) (more_reported ps (o ∷ (os ++ ps)) (λ x i. inr (in_right x os ps i)) gs g) (own_reported o (os ++ ps) l))
  op_reported false o l os ps ts fs gs t f g = both_reported os ps fs gs f g

  -- targets
  target_reported : (o : Option ℕ) (l : Option Loc) → TargetReported o [] (target_fault o l)
  target_reported None l = (inl refl, tt)
  target_reported (Some k) l = tt

  attr_reported : (b : Bool) (o p : Option ℕ) (os : List (Option ℕ)) (ts us : List LevelFault) → TargetReported o os ts → TargetReported p os us → TargetReported (cond b (one_more o) p) (level_if b o ++ os) (cond b ts us)
  attr_reported true o p os ts us t u = to_target o (one_more o) os (o ∷ os) (λ e. inr (inl e)) (λ x i. inr i) ts t
  attr_reported false o p os ts us t u = u

  binary_reported : (q : BinaryOp) (o : Option ℕ) (l : Option Loc) (os ps : List (Option ℕ)) (ts gs : List LevelFault) → TargetReported o os ts → Reported ps gs → TargetReported (binary_level q o) (level_if (asks_store q) o ++ (os ++ ps)) (binary_target q l (ts ++ gs))
  binary_reported GetTag o l os ps ts gs t g =
      both_all (ReportedAt n (one_more o) (o ∷ (os ++ ps))) ts gs (to_target o (one_more o) os (o ∷ (os ++ ps)) (λ e. inr (inl e)) (λ x i. inr (in_left x os ps i)) ts t)
      (in_target (one_more o) ps (o ∷ (os ++ ps)) (λ x i. inr (in_right x os ps i)) gs g)
  binary_reported q o l os ps ts gs t g = (inl refl, tt)

  greater_none : (o p : Option ℕ) → o ≡ None → greater o p ≡ None
  greater_none None p e = refl
  greater_none (Some j) p e = absurd (cc)

  none_greater : (o p : Option ℕ) → p ≡ None → greater o p ≡ None
  none_greater None p e = refl
  none_greater (Some j) None e = refl
  none_greater (Some j) (Some k) e = absurd (cc)

  left_none : (c : Bool) (o p : Option ℕ) → o ≡ None → if_level true c o p ≡ None
  left_none true o p e = greater_none o p e
  left_none false o p e = e

  right_none : (b : Bool) (o p : Option ℕ) → p ≡ None → if_level b true o p ≡ None
  right_none true o p e = none_greater o p e
  right_none false o p e = e

  left_reported : (b c : Bool) (o p : Option ℕ) (os qs : List (Option ℕ)) (ts fs : List LevelFault) → Into os qs → TargetReported o os ts → Reported os fs → TargetReported (if_level b c o p) qs (cond b ts fs)
  left_reported true c o p os qs ts fs i t f = to_target o (if_level true c o p) os qs (λ e. inl (left_none c o p e)) i ts t
  left_reported false c o p os qs ts fs i t f = in_target (if_level false c o p) os qs i fs f

  right_reported : (b c : Bool) (o p : Option ℕ) (ps qs : List (Option ℕ)) (ts fs : List LevelFault) → Into ps qs → TargetReported p ps ts → Reported ps fs → TargetReported (if_level b c o p) qs (cond c ts fs)
  right_reported b true o p ps qs ts fs i t f = to_target p (if_level b true o p) ps qs (λ e. inl (right_none b o p e)) i ts t
  right_reported b false o p ps qs ts fs i t f = in_target (if_level b false o p) ps qs i fs f

  field_reported : (b : Bool) (o p : Option ℕ) (os ps : List (Option ℕ)) (ts fs us gs : List LevelFault) → TargetReported o os ts → Reported os fs → TargetReported p ps us → Reported ps gs → TargetReported (cond b o p) (os ++ ps) (cond b (ts ++ gs) (fs ++ us))
  field_reported true o p os ps ts fs us gs t f u g =
      both_all (ReportedAt n o (os ++ ps)) ts gs (to_target o o os (os ++ ps) (λ e. inl e) (λ x i. in_left x os ps i) ts t) (in_target o ps (os ++ ps) (λ x i. in_right x os ps i) gs g)
  field_reported false o p os ps ts fs us gs t f u g =
      both_all (ReportedAt n p (os ++ ps)) fs us (in_target p os (os ++ ps) (λ x i. in_left x os ps i) fs f) (to_target p p ps (os ++ ps) (λ e. inl e) (λ x i. in_right x os ps i) us u)

  module _ (v : Option EntityUID) where
    mutual
      pub reported : (e : Typed) → Reported (dereferences v e) (level_faults v n e)
      reported (lit l a) = tt
      reported (var i a) = tt
      reported (slot i a) = tt
      reported (ite x y z a) =
          both_reported (dereferences v x) (dereferences v y ++ dereferences v z) (level_faults v n x) (level_faults v n y ++ level_faults v n z) (reported x)
          (both_reported (dereferences v y) (dereferences v z) (level_faults v n y) (level_faults v n z) (reported y) (reported z))
      reported (conj x y a) = both_reported (dereferences v x) (dereferences v y) (level_faults v n x) (level_faults v n y) (reported x) (reported y)
      reported (disj x y a) = both_reported (dereferences v x) (dereferences v y) (level_faults v n x) (level_faults v n y) (reported x) (reported y)
      reported (unary o x a) = reported x
      reported (binary o x y a) = op_reported (asks_store o) (level v x []) a.loc (dereferences v x) (dereferences v y) (target_faults v n x []) (level_faults v n x) (level_faults v n y) (reported_target x []) (reported x) (reported y)
      reported (attr x k a) = access_reported (gives_entity x) (level v x []) a.loc (dereferences v x) (target_faults v n x []) (level_faults v n x) (reported_target x []) (reported x)
      reported (has x k a) = access_reported (gives_entity x) (level v x []) a.loc (dereferences v x) (target_faults v n x []) (level_faults v n x) (reported_target x []) (reported x)
      reported (like x p a) = reported x
      reported (is_type x t a) = reported x
      reported (call f xs a) = reported_all xs
      reported (set xs a) = reported_all xs
      reported (rec xs a) = reported_named xs

      reported_all : (xs : Trees (Mark (Option Ty))) → Reported (dereferences_all v xs) (faults_all v n xs)
      reported_all no_trees = tt
      reported_all (tree x xs) = both_reported (dereferences v x) (dereferences_all v xs) (level_faults v n x) (faults_all v n xs) (reported x) (reported_all xs)

      reported_named : (xs : Named (Mark (Option Ty))) → Reported (dereferences_named v xs) (faults_named v n xs)
      reported_named no_named = tt
      reported_named (named k x xs) = both_reported (dereferences v x) (dereferences_named v xs) (level_faults v n x) (faults_named v n xs) (reported x) (reported_named xs)

      reported_target : (e : Typed) (fs : List (List ℕ)) → TargetReported (level v e fs) (dereferences v e) (target_faults v n e fs)
      reported_target (lit l a) fs = target_reported (literal_level v l) a.loc
      reported_target (var i a) fs = tt
      reported_target (ite x y z a) fs =
          let os = dereferences v x ++ (dereferences v y ++ dereferences v z) in
          let o = if_level (is_reached y) (is_reached z) (level v y fs) (level v z fs) in
          let ys = cond (is_reached y) (target_faults v n y fs) (level_faults v n y) in
          let zs = cond (is_reached z) (target_faults v n z fs) (level_faults v n z) in
          both_all (ReportedAt n o os) (level_faults v n x) (ys ++ zs) (in_target o (dereferences v x) os (λ w i. in_left w (dereferences v x) (dereferences v y ++ dereferences v z) i) (level_faults v n x) (reported x))
          (both_all (ReportedAt n o os) ys zs
          (left_reported (is_reached y) (is_reached z) (level v y fs) (level v z fs) (dereferences v y) os (target_faults v n y fs) (level_faults v n y)
          (λ w i. in_right w (dereferences v x) (dereferences v y ++ dereferences v z) (in_left w (dereferences v y) (dereferences v z) i)) (reported_target y fs) (reported y))
          (right_reported (is_reached y) (is_reached z) (level v y fs) (level v z fs) (dereferences v z) os (target_faults v n z fs) (level_faults v n z)
          (λ w i. in_right w (dereferences v x) (dereferences v y ++ dereferences v z) (in_right w (dereferences v y) (dereferences v z) i)) (reported_target z fs) (reported z)))
      reported_target (binary o x y a) fs = binary_reported o (level v x []) a.loc (dereferences v x) (dereferences v y) (target_faults v n x []) (level_faults v n y) (reported_target x []) (reported y)
      reported_target (attr x k a) fs = attr_reported (gives_entity x) (level v x []) (level v x (k ∷ fs)) (dereferences v x) (target_faults v n x []) (target_faults v n x (k ∷ fs)) (reported_target x []) (reported_target x (k ∷ fs))
      reported_target (rec xs a) fs = reported_targets a.loc xs fs
      reported_target e fs = (inl refl, tt)

      reported_targets : (l : Option Loc) (xs : Named (Mark (Option Ty))) (fs : List (List ℕ)) → TargetReported (level_under v xs fs) (dereferences_named v xs) (named_targets v n l xs fs)
      reported_targets l no_named fs = (inl refl, tt)
      reported_targets l (named k x xs) [] = (inl refl, tt)
      reported_targets l (named k x xs) (f ∷ fs) =
          field_reported (is_eq (text_cmp f k)) (level v x fs) (level_under v xs (f ∷ fs)) (dereferences v x) (dereferences_named v xs)
          (target_faults v n x fs) (level_faults v n x) (named_targets v n l xs (f ∷ fs)) (faults_named v n xs) (reported_target x fs) (reported x) (reported_targets l xs (f ∷ fs)) (reported_named xs)

  -- where all are below, nothing is reported
  both_true : (a b : Bool) → (a && b) ≡ true → (a ≡ true) × (b ≡ true)
  both_true true b h = (refl, h)
  both_true false b h = absurd (cc)

  one_below : (o : Option ℕ) (os : List (Option ℕ)) → IsIn o os → list_all (is_below n) os ≡ true → is_below n o ≡ true
  one_below o [] i h = absurd i
  one_below o (p ∷ os) (inl e) h = ap (is_below n) (sym e) ∙ (both_true (is_below n p) (list_all (is_below n) os) h).0
  one_below o (p ∷ os) (inr i) h = one_below o os i (both_true (is_below n p) (list_all (is_below n) os) h).1

  none_reported : (os : List (Option ℕ)) → list_all (is_below n) os ≡ true → (fs : List LevelFault) → Reported os fs → fs ≡ []
  none_reported os h [] t = refl
  none_reported os h (needs_level j l ∷ fs) t = let e : true ≡ false = sym (one_below (Some t.0.0) os t.0.3 h) ∙ t.0.2 in absurd (cc)
  none_reported os h (literal_target l ∷ fs) t = let e : false ≡ true = one_below None os t.0 h in absurd (cc)

pub faults_are_exact : LevelFaultsAreExact
faults_are_exact v n e = (((λ h. clean n v e h), (λ h. none_reported n (dereferences v e) h (level_faults v n e) (reported n v e))), reported n v e)
