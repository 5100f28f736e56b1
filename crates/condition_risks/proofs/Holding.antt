-- What is found is in the store.
use Rattle.std.proofs.Common.{◌≡◌, Bool, true, false, not, ℕ, List, [], ◌∷◌, ◌++◌, Option, Some, None, is_some, refl, sym, subst, filter, inl, inr, if◌then◌else◌}
use Rattle.std.proofs.lemmas.List.Elements.{All-nil, All-cons, All-head, All-tail, All-append, All-filter, All-take}
use Rattle.plain_lemmas.proofs.Booleans.{or_cases}
use Rattle.policy_values.specs.Value.{Val, truth, long, string, entity}
use Rattle.policy_values.specs.declared.entity_uid.EntityUID.{EntityUID}
use Rattle.entity_store.specs.declared.request.Request.{Request}
use Rattle.entity_store.specs.Store.{StoredEntity, Store, entity_at}
use Rattle.policy_core.specs.declared.outcome.Outcome.{Outcome}
use Rattle.policy_core.specs.declared.outcome.Outcome.TheVariants.{Value, Error}
use Rattle.policy_core.specs.Eval.{eval, with_value, choose, truth_of, truth_outcome, literal_value}
use Rattle.policy_core.specs.Operators.{unary_value, binary_value, has_of, has_value, has_tag_of, has_tag_value}
use Rattle.policy_core.proofs.LawSteps.{same_outcome}
use Rattle.policy_expressions.specs.declared.kinds.Literal.{Literal}
use Rattle.policy_expressions.specs.declared.kinds.Literal.TheVariants as literal
use Rattle.policy_expressions.specs.declared.kinds.UnaryOp.{UnaryOp}
use Rattle.policy_expressions.specs.declared.kinds.UnaryOp.TheVariants.{Not, Neg, IsEmpty}
use Rattle.policy_expressions.specs.declared.kinds.BinaryOp.{BinaryOp}
use Rattle.policy_expressions.specs.declared.kinds.BinaryOp.TheVariants.{HasTag}
use Rattle.policy_expressions.specs.Tree.{lit, ite, conj, disj, unary, binary, has}
use Rattle.typing_spec.specs.Bare.{same_tree}
use Rattle.typing_spec.specs.BareLaws.{same_tree_decides}
use Rattle.typing_spec.specs.Typing.{Typed}
use Rattle.condition_risks.specs.Sides.{Found, Sides, sides_of, is_found, remembered, merged, both, either, either_sides, behind, nothing_found, literal_sides, unary_sides, found_if_true, binary_sides, sides}
use Rattle.condition_risks.specs.Expected.{IsStoredOutcome, AreStored}
use Rattle.condition_risks.proofs.Ends.{Comes}

not_both : (o : Outcome) → Comes true o → Comes false o → ⊥
not_both o h k = cc

is_true : (b : Bool) → Comes true (Value (truth b)) → b ≡ true
is_true true e = refl
is_true false e = absurd (cc)

module _ (s : Store) where
  stored_with : (r : Option StoredEntity) (k : List ℕ) → has_of r k ≡ true → is_some r ≡ true
  stored_with None k e = absurd (cc)
  stored_with (Some x) k e = refl

  stored_with_tag : (r : Option StoredEntity) (k : List ℕ) → has_tag_of r k ≡ true → is_some r ≡ true
  stored_with_tag None k e = absurd (cc)
  stored_with_tag (Some x) k e = refl

  -- what `has` or `hasTag` is true of is in the store
  has_stored : (o : Outcome) (n : List ℕ) → Comes true (with_value o (λ v. has_value v n s)) → IsStoredOutcome s o
  has_stored (Value (entity u)) n e = stored_with (entity_at s u) n (is_true (has_of (entity_at s u) n) e)
  has_stored (Value v) n e = tt
  has_stored (Error x) n e = tt

  tagged_stored : (u : EntityUID) (w : Val) → Comes true (has_tag_value (entity u) w s) → is_some (entity_at s u) ≡ true
  tagged_stored u (string k) e = stored_with_tag (entity_at s u) k (is_true (has_tag_of (entity_at s u) k) e)
  tagged_stored u w e = absurd (cc)

  has_tag_stored : (o p : Outcome) → Comes true (with_value o (λ v. with_value p (λ w. has_tag_value v w s))) → IsStoredOutcome s o
  has_tag_stored (Value (entity u)) (Value w) e = tagged_stored u w e
  has_tag_stored (Value (entity u)) (Error x) e = absurd (cc)
  has_tag_stored (Value v) p e = tt
  has_tag_stored (Error x) p e = tt

module _ (q : Request) (s : Store) where
  abbrev IsThere : Typed → Type 0
  IsThere x = IsStoredOutcome s (eval x q s)

  abbrev pub HasFound : Found → Type 0
  HasFound None = ⊥
  HasFound (Some xs) = AreStored q s xs

  one : (x : Typed) → IsThere x → AreStored q s (x ∷ [])
  one x h = All-cons IsThere x [] h (All-nil IsThere)

  -- what is the same as an expression whose entity is stored
  alike : (x y : Typed) → same_tree x y ≡ true → IsThere y → IsThere x
  alike x y e h = subst (IsStoredOutcome s) (sym (same_outcome q s x y ((same_tree_decides x y).0 e))) h

  pub found_stored : (ks : List Typed) (x : Typed) → AreStored q s ks → is_found ks x ≡ true → IsThere x
  found_stored [] x h e = absurd (cc)
  found_stored (k ∷ ks) x h e =
      elim (or_cases (same_tree x k) (is_found ks x) e) [
        | inl f ↦ alike x k f (All-head IsThere k ks h)
        | inr f ↦ found_stored ks x (All-tail IsThere k ks h) f
      ]

  pub merged_stored : (xs ys : List Typed) → AreStored q s xs → AreStored q s ys → AreStored q s (merged xs ys)
  merged_stored xs ys h k =
      let new = λ (y : Typed). not (is_found xs y) in
      All-take IsThere remembered (xs ++ filter new ys) (All-append IsThere xs (filter new ys) h (All-filter new IsThere ys k))

  -- what is common to two lists is stored where one of them is
  common_stored : (xs ys : List Typed) → AreStored q s ys → AreStored q s (filter (is_found ys) xs)
  common_stored [] ys h = All-nil IsThere
  common_stored (x ∷ xs) ys h = by (is_found ys x) refl (common_stored xs ys h)
    where
      by : (b : Bool) → is_found ys x ≡ b → AreStored q s (filter (is_found ys) xs) → AreStored q s (if b then x ∷ filter (is_found ys) xs else filter (is_found ys) xs)
      by true e k = All-cons IsThere x (filter (is_found ys) xs) (found_stored ys x h e) k
      by false e k = k

  both_found : (a b : Found) → HasFound a → HasFound b → HasFound (both a b)
  both_found None b h k = absurd h
  both_found (Some xs) None h k = absurd k
  both_found (Some xs) (Some ys) h k = merged_stored xs ys h k

  either_left : (a b : Found) → HasFound a → HasFound (either a b)
  either_left None b h = absurd h
  either_left (Some xs) None h = h
  either_left (Some xs) (Some ys) h = All-filter (is_found ys) IsThere xs h

  either_right : (a b : Found) → HasFound b → HasFound (either a b)
  either_right None b h = h
  either_right (Some xs) None h = absurd h
  either_right (Some xs) (Some ys) h = common_stored xs ys h

  -- once the outcome is true, or false
  pub record SidesHold (o : Outcome) (k : Sides) : Type 0 where
    pub yes : Comes true o → HasFound k.if_true
    pub no : Comes false o → HasFound k.if_false

  nothing : (o : Outcome) → SidesHold o nothing_found
  nothing o = record { yes = λ e. All-nil IsThere; no = λ e. All-nil IsThere }

  literal_hold : (l : Literal) → SidesHold (Value (literal_value l)) (literal_sides l)
  literal_hold (literal.Bool true) = record { yes = λ e. All-nil IsThere; no = λ e. not_both (Value (truth true)) refl e }
  literal_hold (literal.Bool false) = record { yes = λ e. not_both (Value (truth false)) e refl; no = λ e. All-nil IsThere }
  literal_hold (literal.Long n) = nothing (Value (long n))
  literal_hold (literal.String t) = nothing (Value (string t))
  literal_hold (literal.EntityUID u) = nothing (Value (entity u))

  behind_hold : (p : Outcome) (f : Found) (b : Sides) → HasFound f → SidesHold p b → SidesHold p (behind f b)
  behind_hold p f b h k = record { yes = λ e. both_found f b.if_true h (k.yes e); no = λ e. both_found f b.if_false h (k.no e) }

  choose_hold : (o p r : Outcome) (a b : Sides) → (Comes true o → SidesHold p a) → (Comes false o → SidesHold r b) → SidesHold (choose (truth_of o) p r) (either_sides a b)
  choose_hold (Value (truth true)) p r a b h k = record {
    yes = λ e. either_left a.if_true b.if_true ((h refl).yes e);
    no = λ e. either_left a.if_false b.if_false ((h refl).no e);
  }
  choose_hold (Value (truth false)) p r a b h k = record {
    yes = λ e. either_right a.if_true b.if_true ((k refl).yes e);
    no = λ e. either_right a.if_false b.if_false ((k refl).no e);
  }
  choose_hold (Value v) p r a b h k = record { yes = λ e. absurd (cc); no = λ e. absurd (cc) }
  choose_hold (Error x) p r a b h k = record { yes = λ e. absurd (cc); no = λ e. absurd (cc) }

  truth_hold : (p : Outcome) (b : Sides) → SidesHold p b → SidesHold (truth_outcome (truth_of p)) b
  truth_hold (Value (truth c)) b h = h
  truth_hold (Value v) b h = record { yes = λ e. absurd (cc); no = λ e. absurd (cc) }
  truth_hold (Error x) b h = h

  -- an operand that ends the evaluation with its own truth value
  true_hold : (a : Found) → HasFound a → SidesHold (Value (truth true)) (sides_of a None)
  true_hold a h = record { yes = λ e. h; no = λ e. not_both (Value (truth true)) refl e }

  false_hold : (a : Found) → HasFound a → SidesHold (Value (truth false)) (sides_of None a)
  false_hold a h = record { yes = λ e. not_both (Value (truth false)) e refl; no = λ e. h }

  not_hold : (o : Outcome) (a : Sides) → SidesHold o a → SidesHold (with_value o (unary_value Not)) (unary_sides Not a)
  not_hold (Value (truth true)) a h = record { yes = λ e. absurd (not_both (Value (truth false)) e refl); no = λ e. h.yes refl }
  not_hold (Value (truth false)) a h = record { yes = λ e. h.no refl; no = λ e. absurd (not_both (Value (truth true)) refl e) }
  not_hold (Value v) a h = record { yes = λ e. absurd (cc); no = λ e. absurd (cc) }
  not_hold (Error x) a h = record { yes = λ e. absurd (cc); no = λ e. absurd (cc) }

  unary_hold : (op : UnaryOp) (o : Outcome) (a : Sides) → SidesHold o a → SidesHold (with_value o (unary_value op)) (unary_sides op a)
  unary_hold Not o a h = not_hold o a h
  unary_hold Neg o a h = nothing (with_value o (unary_value Neg))
  unary_hold IsEmpty o a h = nothing (with_value o (unary_value IsEmpty))

  found_hold : (o : Outcome) (x : Typed) → (Comes true o → IsThere x) → SidesHold o (found_if_true x)
  found_hold o x h = record { yes = λ e. one x (h e); no = λ e. All-nil IsThere }

  binary_hold : (op : BinaryOp) (x y : Typed) → SidesHold (with_value (eval x q s) (λ v. with_value (eval y q s) (λ w. binary_value op v w s))) (binary_sides op x)
  binary_hold HasTag x y = found_hold (with_value (eval x q s) (λ v. with_value (eval y q s) (λ w. has_tag_value v w s))) x (has_tag_stored s (eval x q s) (eval y q s))
  binary_hold op x y = record { yes = λ e. All-nil IsThere; no = λ e. All-nil IsThere }

  pub sides_hold : (e : Typed) → SidesHold (eval e q s) (sides e)
  sides_hold (lit l m) = literal_hold l
  sides_hold (ite x y z m) =
      choose_hold (eval x q s) (eval y q s) (eval z q s) (behind (sides x).if_true (sides y)) (behind (sides x).if_false (sides z))
      (λ e. behind_hold (eval y q s) (sides x).if_true (sides y) ((sides_hold x).yes e) (sides_hold y))
      (λ e. behind_hold (eval z q s) (sides x).if_false (sides z) ((sides_hold x).no e) (sides_hold z))
  sides_hold (conj x y m) =
      choose_hold (eval x q s) (truth_outcome (truth_of (eval y q s))) (Value (truth false)) (behind (sides x).if_true (sides y)) (sides_of None (sides x).if_false)
      (λ e. behind_hold (truth_outcome (truth_of (eval y q s))) (sides x).if_true (sides y) ((sides_hold x).yes e) (truth_hold (eval y q s) (sides y) (sides_hold y)))
      (λ e. false_hold (sides x).if_false ((sides_hold x).no e))
  sides_hold (disj x y m) =
      choose_hold (eval x q s) (Value (truth true)) (truth_outcome (truth_of (eval y q s))) (sides_of (sides x).if_true None) (behind (sides x).if_false (sides y))
      (λ e. true_hold (sides x).if_true ((sides_hold x).yes e))
      (λ e. behind_hold (truth_outcome (truth_of (eval y q s))) (sides x).if_false (sides y) ((sides_hold x).no e) (truth_hold (eval y q s) (sides y) (sides_hold y)))
  sides_hold (unary o x m) = unary_hold o (eval x q s) (sides x) (sides_hold x)
  sides_hold (binary o x y m) = binary_hold o x y
  sides_hold (has x n m) = found_hold (with_value (eval x q s) (λ v. has_value v n s)) x (has_stored s (eval x q s) n)
  sides_hold e = nothing (eval e q s)
