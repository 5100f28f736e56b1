-- Where nothing is found, all passes.
use Rattle.std.proofs.Common.{◌≡◌, ℕ, ◌+◌, max, nat_lt, Bool, true, false, List, [], ◌∷◌, ◌++◌, Option, Some, None, is_some, refl, ◌∙◌, cond, arith}
use Rattle.std.specs.List.{list_all}
use Rattle.std.specs.Ordering.{is_eq}
use Rattle.std.proofs.lemmas.Bool.{and_from}
use Rattle.std.proofs.lemmas.List.Folds.{list_all-append}
use Rattle.policy_values.specs.declared.entity_uid.EntityUID.{EntityUID}
use Rattle.policy_values.specs.Uid.{text_cmp}
use Rattle.schema_types.specs.Ty.{Ty}
use Rattle.policy_expressions.specs.declared.kinds.Loc.{Loc}
use Rattle.policy_expressions.specs.declared.kinds.BinaryOp.{BinaryOp}
use Rattle.policy_expressions.specs.declared.kinds.BinaryOp.TheVariants.{GetTag}
use Rattle.policy_expressions.specs.Tree.{lit, var, slot, ite, conj, disj, unary, binary, attr, has, like, is_type, call, set, rec, Trees, no_trees, tree, Named, no_named, named, Mark}
use Rattle.typing_spec.specs.Typing.{Typed}
use Rattle.level_spec.specs.Levels.{is_reached, gives_entity, greater, if_level, one_more, binary_level, asks_store, level_if, is_below, literal_level, level, level_under, dereferences, dereferences_all, dereferences_named}
use Rattle.level_spec.specs.Findings.{LevelFault, needs_level, own_fault, target_fault, binary_target, level_faults, faults_all, faults_named, target_faults, named_targets}
use Rattle.plain_lemmas.proofs.Lists.{append_empty_parts}

-- the left level is below what the greater is below
max_left : (j k n : ℕ) → nat_lt (max j k) n ≡ true → nat_lt j n ≡ true
max_left j k n h = search (arith)

max_right : (j k n : ℕ) → nat_lt (max j k) n ≡ true → nat_lt k n ≡ true
max_right j k n h = search (arith)

one_less : (k n : ℕ) → nat_lt (k + 1) n ≡ true → nat_lt k n ≡ true
one_less k n h = search (arith)

module _ (n : ℕ) where
  abbrev pub AreBelow : List (Option ℕ) → Type 0
  AreBelow os = list_all (is_below n) os ≡ true

  pub more_below : (os ps : List (Option ℕ)) → AreBelow os → AreBelow ps → AreBelow (os ++ ps)
  more_below os ps h i = list_all-append (is_below n) os ps ∙ and_from (list_all (is_below n) os) (list_all (is_below n) ps) h i

  -- there is a level, and where it is below the maximum the others are
  abbrev Clean : Option ℕ → List (Option ℕ) → Type 0
  Clean o os = (is_some o ≡ true) × (is_below n o ≡ true → AreBelow os)

  own_below : (o : Option ℕ) (l : Option Loc) → is_some o ≡ true → own_fault n o l ≡ [] → is_below n o ≡ true
  own_below None l e h = absurd (cc)
  own_below (Some k) l e h = here (nat_lt k n) h
    where
      here : (b : Bool) → cond b [] (needs_level (k + 1) l ∷ []) ≡ [] → b ≡ true
      here true h = refl
      here false h = absurd (cc)

  target_clean : (o : Option ℕ) (l : Option Loc) → target_fault o l ≡ [] → Clean o []
  target_clean None l h = absurd (cc)
  target_clean (Some k) l h = (refl, λ _. refl)

  -- `.` and `has`
  access_clean : (b : Bool) (o : Option ℕ) (l : Option Loc) (os : List (Option ℕ)) (ts fs : List LevelFault) → (ts ≡ [] → Clean o os) → (fs ≡ [] → AreBelow os) → cond b (ts ++ own_fault n o l) fs ≡ [] → AreBelow (level_if b o ++ os)
  access_clean true o l os ts fs t f h =
      let r = append_empty_parts ts (own_fault n o l) h in
      let c = t r.0 in
      let below = own_below o l c.0 r.1 in
      and_from (is_below n o) (list_all (is_below n) os) below (c.1 below)
  access_clean false o l os ts fs t f h = f h

  -- an operator of two operands
  op_clean : (b : Bool) (o : Option ℕ) (l : Option Loc) (os ps : List (Option ℕ)) (ts fs gs : List LevelFault) → (ts ≡ [] → Clean o os) → (fs ≡ [] → AreBelow os) → (gs ≡ [] → AreBelow ps) → cond b (ts ++ (gs ++ own_fault n o l)) (fs ++ gs) ≡ [] → AreBelow (level_if b o ++ (os ++ ps))
  op_clean true o l os ps ts fs gs t f g h =
      let r = append_empty_parts ts (gs ++ own_fault n o l) h in
      let s = append_empty_parts gs (own_fault n o l) r.1 in
      let c = t r.0 in
      let below = own_below o l c.0 s.1 in
      and_from (is_below n o) (list_all (is_below n) (os ++ ps)) below (more_below os ps (c.1 below) (g s.0))
  op_clean false o l os ps ts fs gs t f g h = let r = append_empty_parts fs gs h in more_below os ps (f r.0) (g r.1)

  -- targets
  further : (o : Option ℕ) (os ps : List (Option ℕ)) → Clean o os → AreBelow ps → Clean (one_more o) (o ∷ (os ++ ps))
  further None os ps c h = absurd (cc (c.0))
  further (Some k) os ps c h = (refl, λ e. and_from (nat_lt k n) (list_all (is_below n) (os ++ ps)) (one_less k n e) (more_below os ps (c.1 (one_less k n e)) h))

  step_clean : (o : Option ℕ) (os : List (Option ℕ)) → Clean o os → Clean (one_more o) (o ∷ os)
  step_clean None os c = absurd (cc (c.0))
  step_clean (Some k) os c = (refl, λ e. and_from (nat_lt k n) (list_all (is_below n) os) (one_less k n e) (c.1 (one_less k n e)))

  attr_clean : (b : Bool) (o p : Option ℕ) (os : List (Option ℕ)) (ts us : List LevelFault) → (ts ≡ [] → Clean o os) → (us ≡ [] → Clean p os) → cond b ts us ≡ [] → Clean (cond b (one_more o) p) (level_if b o ++ os)
  attr_clean true o p os ts us t u h = step_clean o os (t h)
  attr_clean false o p os ts us t u h = u h

  binary_clean : (q : BinaryOp) (o : Option ℕ) (l : Option Loc) (os ps : List (Option ℕ)) (ts gs : List LevelFault) → (ts ≡ [] → Clean o os) → (gs ≡ [] → AreBelow ps) → binary_target q l (ts ++ gs) ≡ [] → Clean (binary_level q o) (level_if (asks_store q) o ++ (os ++ ps))
  binary_clean GetTag o l os ps ts gs t g h = let r = append_empty_parts ts gs h in further o os ps (t r.0) (g r.1)
  binary_clean q o l os ps ts gs t g h = absurd (cc)

  abbrev Branch : Bool → Option ℕ → List (Option ℕ) → Type 0
  Branch true o os = Clean o os
  Branch false o os = AreBelow os

  branch_clean : (b : Bool) (o : Option ℕ) (os : List (Option ℕ)) (ts fs : List LevelFault) → (ts ≡ [] → Clean o os) → (fs ≡ [] → AreBelow os) → cond b ts fs ≡ [] → Branch b o os
  branch_clean true o os ts fs t f h = t h
  branch_clean false o os ts fs t f h = f h

  greater_clean : (o p : Option ℕ) (xs os ps : List (Option ℕ)) → AreBelow xs → Clean o os → Clean p ps → Clean (greater o p) (xs ++ (os ++ ps))
  greater_clean None p xs os ps x c d = absurd (cc (c.0))
  greater_clean (Some j) None xs os ps x c d = absurd (cc (d.0))
  greater_clean (Some j) (Some k) xs os ps x c d = (refl, λ e. more_below xs (os ++ ps) x (more_below os ps (c.1 (max_left j k n e)) (d.1 (max_right j k n e))))

  if_clean : (b c : Bool) (o p : Option ℕ) (xs os ps : List (Option ℕ)) → AreBelow xs → Branch b o os → Branch c p ps → Clean (if_level b c o p) (xs ++ (os ++ ps))
  if_clean true true o p xs os ps x h i = greater_clean o p xs os ps x h i
  if_clean true false o p xs os ps x h i = (h.0, λ e. more_below xs (os ++ ps) x (more_below os ps (h.1 e) i))
  if_clean false true o p xs os ps x h i = (i.0, λ e. more_below xs (os ++ ps) x (more_below os ps h (i.1 e)))
  if_clean false false o p xs os ps x h i = (refl, λ e. more_below xs (os ++ ps) x (more_below os ps h i))

  -- the field that is pending, among others
  field_clean : (b : Bool) (o p : Option ℕ) (os ps : List (Option ℕ)) (ts fs us gs : List LevelFault) → (ts ≡ [] → Clean o os) → (fs ≡ [] → AreBelow os) → (us ≡ [] → Clean p ps) → (gs ≡ [] → AreBelow ps) → cond b (ts ++ gs) (fs ++ us) ≡ [] → Clean (cond b o p) (os ++ ps)
  field_clean true o p os ps ts fs us gs t f u g h = let r = append_empty_parts ts gs h in let c = t r.0 in (c.0, λ e. more_below os ps (c.1 e) (g r.1))
  field_clean false o p os ps ts fs us gs t f u g h = let r = append_empty_parts fs us h in let c = u r.1 in (c.0, λ e. more_below os ps (f r.0) (c.1 e))

  module _ (v : Option EntityUID) where
    mutual
      pub clean : (e : Typed) → level_faults v n e ≡ [] → AreBelow (dereferences v e)
      clean (lit l a) h = refl
      clean (var i a) h = refl
      clean (slot i a) h = refl
      clean (ite x y z a) h =
          let r = append_empty_parts (level_faults v n x) (level_faults v n y ++ level_faults v n z) h in
          let s = append_empty_parts (level_faults v n y) (level_faults v n z) r.1 in
          more_below (dereferences v x) (dereferences v y ++ dereferences v z) (clean x r.0) (more_below (dereferences v y) (dereferences v z) (clean y s.0) (clean z s.1))
      clean (conj x y a) h = let r = append_empty_parts (level_faults v n x) (level_faults v n y) h in more_below (dereferences v x) (dereferences v y) (clean x r.0) (clean y r.1)
      clean (disj x y a) h = let r = append_empty_parts (level_faults v n x) (level_faults v n y) h in more_below (dereferences v x) (dereferences v y) (clean x r.0) (clean y r.1)
      clean (unary o x a) h = clean x h
      clean (binary o x y a) h = op_clean (asks_store o) (level v x []) a.loc (dereferences v x) (dereferences v y) (target_faults v n x []) (level_faults v n x) (level_faults v n y) (λ i. clean_target x [] i) (λ i. clean x i) (λ i. clean y i) h
      clean (attr x k a) h = access_clean (gives_entity x) (level v x []) a.loc (dereferences v x) (target_faults v n x []) (level_faults v n x) (λ i. clean_target x [] i) (λ i. clean x i) h
      clean (has x k a) h = access_clean (gives_entity x) (level v x []) a.loc (dereferences v x) (target_faults v n x []) (level_faults v n x) (λ i. clean_target x [] i) (λ i. clean x i) h
      clean (like x p a) h = clean x h
      clean (is_type x t a) h = clean x h
      clean (call f xs a) h = clean_all xs h
      clean (set xs a) h = clean_all xs h
      clean (rec xs a) h = clean_named xs h

      clean_all : (xs : Trees (Mark (Option Ty))) → faults_all v n xs ≡ [] → AreBelow (dereferences_all v xs)
      clean_all no_trees h = refl
      clean_all (tree x xs) h = let r = append_empty_parts (level_faults v n x) (faults_all v n xs) h in more_below (dereferences v x) (dereferences_all v xs) (clean x r.0) (clean_all xs r.1)

      clean_named : (xs : Named (Mark (Option Ty))) → faults_named v n xs ≡ [] → AreBelow (dereferences_named v xs)
      clean_named no_named h = refl
      clean_named (named k x xs) h = let r = append_empty_parts (level_faults v n x) (faults_named v n xs) h in more_below (dereferences v x) (dereferences_named v xs) (clean x r.0) (clean_named xs r.1)

      clean_target : (e : Typed) (fs : List (List ℕ)) → target_faults v n e fs ≡ [] → Clean (level v e fs) (dereferences v e)
      clean_target (lit l a) fs h = target_clean (literal_level v l) a.loc h
      clean_target (var i a) fs h = (refl, λ _. refl)
      clean_target (ite x y z a) fs h =
          let ys = cond (is_reached y) (target_faults v n y fs) (level_faults v n y) in
          let zs = cond (is_reached z) (target_faults v n z fs) (level_faults v n z) in
          let r = append_empty_parts (level_faults v n x) (ys ++ zs) h in
          let s = append_empty_parts ys zs r.1 in
          if_clean (is_reached y) (is_reached z) (level v y fs) (level v z fs) (dereferences v x) (dereferences v y) (dereferences v z) (clean x r.0)
          (branch_clean (is_reached y) (level v y fs) (dereferences v y) (target_faults v n y fs) (level_faults v n y) (λ i. clean_target y fs i) (λ i. clean y i) s.0)
          (branch_clean (is_reached z) (level v z fs) (dereferences v z) (target_faults v n z fs) (level_faults v n z) (λ i. clean_target z fs i) (λ i. clean z i) s.1)
      clean_target (binary o x y a) fs h = binary_clean o (level v x []) a.loc (dereferences v x) (dereferences v y) (target_faults v n x []) (level_faults v n y) (λ i. clean_target x [] i) (λ i. clean y i) h
      clean_target (attr x k a) fs h = attr_clean (gives_entity x) (level v x []) (level v x (k ∷ fs)) (dereferences v x) (target_faults v n x []) (target_faults v n x (k ∷ fs)) (λ i. clean_target x [] i) (λ i. clean_target x (k ∷ fs) i) h
      clean_target (rec xs a) fs h = clean_targets a.loc xs fs h
      clean_target e fs h = absurd (cc)

      clean_targets : (l : Option Loc) (xs : Named (Mark (Option Ty))) (fs : List (List ℕ)) → named_targets v n l xs fs ≡ [] → Clean (level_under v xs fs) (dereferences_named v xs)
      clean_targets l no_named fs h = absurd (cc)
      clean_targets l (named k x xs) [] h = absurd (cc)
      clean_targets l (named k x xs) (f ∷ fs) h =
          field_clean (is_eq (text_cmp f k)) (level v x fs) (level_under v xs (f ∷ fs)) (dereferences v x) (dereferences_named v xs)
          (target_faults v n x fs) (level_faults v n x) (named_targets v n l xs (f ∷ fs)) (faults_named v n xs) (λ i. clean_target x fs i) (λ i. clean x i) (λ i. clean_targets l xs (f ∷ fs) i) (λ i. clean_named xs i) h
