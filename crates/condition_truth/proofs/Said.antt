-- What is said of an expression is so.
use Rattle.std.proofs.Common.{◌≡◌, Bool, true, false, not, ◌&&◌, ◌||◌, ◌+ℤ◌, ◌-ℤ◌, ◌*ℤ◌, int_lt, int_le, Option, Some, None, refl, sym, ap, ◌∙◌}
use Rattle.policy_values.specs.Value.{truth as bool}
use Rattle.entity_store.specs.declared.request.Request.{Request}
use Rattle.entity_store.specs.Store.{Store}
use Rattle.schema_types.specs.declared.kinds.Primitive.TheVariants.{Bool as BoolType}
use Rattle.schema_types.specs.Ty.{Ty, true_type, false_type, primitive}
use Rattle.type_relations.specs.Member.{Member}
use Rattle.policy_core.specs.declared.outcome.Outcome.{Outcome}
use Rattle.policy_core.specs.declared.outcome.Outcome.TheVariants.{Value, Error}
use Rattle.policy_core.specs.Eval.{eval, eval_all, eval_named, truth_of, truth_outcome, choose, with_value, literal_value, variable_value}
use Rattle.policy_core.specs.Operators.{unary_value, binary_value, has_value, like_value, is_value as is_type_value}
use Rattle.policy_expressions.specs.declared.kinds.Literal.{Literal}
use Rattle.policy_expressions.specs.declared.kinds.Literal.TheVariants as literal
use Rattle.policy_expressions.specs.declared.kinds.Var.{Var}
use Rattle.policy_expressions.specs.declared.kinds.Var.TheVariants.{Principal, Action, Resource, Context}
use Rattle.policy_expressions.specs.declared.kinds.UnaryOp.{UnaryOp}
use Rattle.policy_expressions.specs.declared.kinds.UnaryOp.TheVariants.{Not, Neg, IsEmpty}
use Rattle.policy_expressions.specs.declared.kinds.BinaryOp.{BinaryOp}
use Rattle.policy_expressions.specs.declared.kinds.BinaryOp.TheVariants.{Eq, Less, LessEq, Add, Sub, Mul, In, Contains, ContainsAll, ContainsAny, GetTag, HasTag}
use Rattle.policy_expressions.specs.Tree.{lit, var, slot, ite, conj, disj, unary, binary, attr, has, like, is_type, call, set, rec, Trees, no_trees, tree, Named, no_named, named, Mark, mark_of}
use Rattle.typing_spec.specs.Operands.{is_boolean}
use Rattle.typing_spec.specs.Sound.{IsOfType}
use Rattle.typing_spec.specs.Typing.{Typed}
use Rattle.condition_truth.proofs.Outcomes.{Yes, No}
use Rattle.condition_truth.proofs.Quiet as quiet
use Rattle.condition_truth.specs.Formulas.{Atom, is_true, has_attr, has_tag, fits, Formula, constant, atom, and, holds, Truth, says, noted, asked, literal_truth, if_truth, and_truth, or_truth, unary_truth, binary_truth, truth, values_all, values_named}
use Rattle.condition_truth.specs.Truth.{is_yes, is_no, is_value, is_fit, atoms_of, IsSaid}
use Rattle.condition_truth.proofs.Steps.{NoteHolds, is_ok, yes_value, one_value, one_fit, two_value, two_fit, neg_over, sum_over, call_fit, prefix_ok, set_yes, set_no, set_ok, record_yes, record_no, record_ok, attr_is, tag_is, has_yes, tagged_yes}
use Rattle.condition_truth.proofs.Noted.{IsNoted, Below, AllBelow, NamedBelow}

pub no_truth : (t : Ty) (b : Bool) → is_boolean t ≡ false → Member t (bool b) → ⊥
no_truth true_type b i h = cc
no_truth false_type b i h = cc
no_truth (primitive BoolType) b i h = cc
no_truth t b i h = h

yes_back : (p : Outcome) → is_yes (truth_outcome (truth_of p)) ≡ is_yes p
yes_back (Value (bool b)) = refl
yes_back (Value v) = refl
yes_back (Error e) = refl

no_back : (p : Outcome) → is_no (truth_outcome (truth_of p)) ≡ is_no p
no_back (Value (bool b)) = refl
no_back (Value v) = refl
no_back (Error e) = refl

-- a boolean or an error
both_back : (p : Outcome) → is_value (truth_outcome (truth_of p)) ≡ is_yes (truth_outcome (truth_of p)) || is_no (truth_outcome (truth_of p))
both_back (Value (bool true)) = refl
both_back (Value (bool false)) = refl
both_back (Value v) = refl
both_back (Error e) = refl

and_value : (o p : Outcome) → is_value (choose (truth_of o) (truth_outcome (truth_of p)) No) ≡ is_yes (choose (truth_of o) (truth_outcome (truth_of p)) No) || is_no (choose (truth_of o) (truth_outcome (truth_of p)) No)
and_value (Value (bool true)) p = both_back p
and_value (Value (bool false)) p = refl
and_value (Value v) p = refl
and_value (Error e) p = refl

or_value : (o p : Outcome) → is_value (choose (truth_of o) Yes (truth_outcome (truth_of p))) ≡ is_yes (choose (truth_of o) Yes (truth_outcome (truth_of p))) || is_no (choose (truth_of o) Yes (truth_outcome (truth_of p)))
or_value (Value (bool true)) p = refl
or_value (Value (bool false)) p = both_back p
or_value (Value v) p = refl
or_value (Error e) p = refl

not_yes : (o : Outcome) → is_yes (with_value o (unary_value Not)) ≡ is_no o
not_yes (Value (bool b)) = refl
not_yes (Value v) = refl
not_yes (Error e) = refl

not_no : (o : Outcome) → is_no (with_value o (unary_value Not)) ≡ is_yes o
not_no (Value (bool true)) = refl
not_no (Value (bool false)) = refl
not_no (Value v) = refl
not_no (Error e) = refl

not_value : (o : Outcome) → is_value (with_value o (unary_value Not)) ≡ is_no o || is_yes o
not_value (Value (bool true)) = refl
not_value (Value (bool false)) = refl
not_value (Value v) = refl
not_value (Error e) = refl

module _ (a : Atom → Bool) where
  if_said : (o p r : Outcome) (x y z : Truth) → IsSaid a o x → (o ≡ Yes → IsSaid a p y) → IsSaid a r z → IsSaid a (choose (truth_of o) p r) (if_truth x y z)
  if_said (Value (bool true)) p r x y z h f k = let g = f refl in record {
    yes = or_no (is_yes p) ∙ (λ i. (h.yes i && g.yes i) || (h.no i && k.yes i));
    no = or_no (is_no p) ∙ (λ i. (h.yes i && g.no i) || (h.no i && k.no i));
    value = or_no (is_value p) ∙ (λ i. (h.yes i && g.value i) || (h.no i && k.value i));
  }
    where
      or_no : (b : Bool) → b ≡ b || false
      or_no true = refl
      or_no false = refl
  if_said (Value (bool false)) p r x y z h f k = record {
    yes = λ i. (h.yes i && holds a y.if_true) || (h.no i && k.yes i);
    no = λ i. (h.yes i && holds a y.if_false) || (h.no i && k.no i);
    value = λ i. (h.yes i && holds a y.if_value) || (h.no i && k.value i);
  }
  if_said (Value v) p r x y z h f k = record {
    yes = λ i. (h.yes i && holds a y.if_true) || (h.no i && k.yes i);
    no = λ i. (h.yes i && holds a y.if_false) || (h.no i && k.no i);
    value = λ i. (h.yes i && holds a y.if_value) || (h.no i && k.value i);
  }
  if_said (Error e) p r x y z h f k = record {
    yes = λ i. (h.yes i && holds a y.if_true) || (h.no i && k.yes i);
    no = λ i. (h.yes i && holds a y.if_false) || (h.no i && k.no i);
    value = λ i. (h.yes i && holds a y.if_value) || (h.no i && k.value i);
  }

  -- of a boolean, where it is said that it is true and that it is false
  both_said : (o : Outcome) (t f : Formula) → is_yes o ≡ holds a t → is_no o ≡ holds a f → is_value o ≡ is_yes o || is_no o → is_value o ≡ holds a t || holds a f
  both_said o t f h k v = v ∙ (λ i. h i || k i)

  and_yes : (o p : Outcome) (x y : Truth) → IsSaid a o x → (o ≡ Yes → IsSaid a p y) → is_yes (choose (truth_of o) (truth_outcome (truth_of p)) No) ≡ holds a x.if_true && holds a y.if_true
  and_yes (Value (bool true)) p x y h f = yes_back p ∙ (λ i. h.yes i && (f refl).yes i)
  and_yes (Value (bool false)) p x y h f = λ i. h.yes i && holds a y.if_true
  and_yes (Value v) p x y h f = λ i. h.yes i && holds a y.if_true
  and_yes (Error e) p x y h f = λ i. h.yes i && holds a y.if_true

  and_no : (o p : Outcome) (x y : Truth) → IsSaid a o x → (o ≡ Yes → IsSaid a p y) → is_no (choose (truth_of o) (truth_outcome (truth_of p)) No) ≡ holds a x.if_false || (holds a x.if_true && holds a y.if_false)
  and_no (Value (bool true)) p x y h f = no_back p ∙ (λ i. h.no i || (h.yes i && (f refl).no i))
  and_no (Value (bool false)) p x y h f = λ i. h.no i || (h.yes i && holds a y.if_false)
  and_no (Value v) p x y h f = λ i. h.no i || (h.yes i && holds a y.if_false)
  and_no (Error e) p x y h f = λ i. h.no i || (h.yes i && holds a y.if_false)

  or_yes : (o p : Outcome) (x y : Truth) → IsSaid a o x → IsSaid a p y → is_yes (choose (truth_of o) Yes (truth_outcome (truth_of p))) ≡ holds a x.if_true || (holds a x.if_false && holds a y.if_true)
  or_yes (Value (bool true)) p x y h f = λ i. h.yes i || (h.no i && holds a y.if_true)
  or_yes (Value (bool false)) p x y h f = yes_back p ∙ (λ i. h.yes i || (h.no i && f.yes i))
  or_yes (Value v) p x y h f = λ i. h.yes i || (h.no i && holds a y.if_true)
  or_yes (Error e) p x y h f = λ i. h.yes i || (h.no i && holds a y.if_true)

  or_no : (o p : Outcome) (x y : Truth) → IsSaid a o x → IsSaid a p y → is_no (choose (truth_of o) Yes (truth_outcome (truth_of p))) ≡ holds a x.if_false && holds a y.if_false
  or_no (Value (bool true)) p x y h f = λ i. h.no i && holds a y.if_false
  or_no (Value (bool false)) p x y h f = no_back p ∙ (λ i. h.no i && f.no i)
  or_no (Value v) p x y h f = λ i. h.no i && holds a y.if_false
  or_no (Error e) p x y h f = λ i. h.no i && holds a y.if_false

module _ (q : Request) (s : Store) where
  abbrev A : Atom → Bool
  A = atoms_of q s

  -- the boolean that a type of one boolean says
  true_said : (o : Outcome) (v : Formula) → NoteHolds (Some true_type) o → is_value o ≡ holds A v → IsSaid A o (says v (constant false) v)
  true_said (Value (bool true)) v h k = record { yes = k; no = refl; value = k }
  true_said (Value (bool false)) v h k = absurd (cc)
  true_said (Value w) v h k = absurd h
  true_said (Error e) v h k = record { yes = k; no = refl; value = k }

  false_said : (o : Outcome) (v : Formula) → NoteHolds (Some false_type) o → is_value o ≡ holds A v → IsSaid A o (says (constant false) v v)
  false_said (Value (bool false)) v h k = record { yes = refl; no = k; value = k }
  false_said (Value (bool true)) v h k = absurd (cc)
  false_said (Value w) v h k = absurd h
  false_said (Error e) v h k = record { yes = refl; no = k; value = k }

  boolean_no : (o : Outcome) → NoteHolds (Some (primitive BoolType)) o → is_no o ≡ is_value o && not (is_yes o)
  boolean_no (Value (bool b)) h = refl
  boolean_no (Value w) h = absurd h
  boolean_no (Error e) h = refl

  and_again : (a b : Bool) → a && not (a && b) ≡ a && not b
  and_again true b = refl
  and_again false b = refl

  other_said : (t : Ty) (o : Outcome) (v : Formula) → is_boolean t ≡ false → IsOfType t o → is_value o ≡ holds A v → IsSaid A o (says (constant false) (constant false) v)
  other_said t (Value (bool b)) v i h k = absurd (no_truth t b i h)
  other_said t (Value w) v i h k = record { yes = refl; no = refl; value = k }
  other_said t (Error e) v i h k = record { yes = refl; no = refl; value = k }

  noted_said : (n : Option Ty) (o : Outcome) (v p : Formula) → NoteHolds n o → is_value o ≡ holds A v → is_yes o ≡ is_value o && holds A p → IsSaid A o (noted n v p)
  noted_said None o v p h k y = absurd h
  noted_said (Some true_type) o v p h k y = true_said o v h k
  noted_said (Some false_type) o v p h k y = false_said o v h k
  noted_said (Some (primitive BoolType)) o v p h k y = record {
    yes = y ∙ (λ i. k i && holds A p);
    no = boolean_no o h ∙ ap (λ b. is_value o && not b) y ∙ and_again (is_value o) (holds A p) ∙ (λ i. k i && not (holds A p));
    value = k;
  }
  noted_said (Some t) o v p h k y = other_said t o v refl h k

  asked_said : (e : Typed) (v : Formula) → NoteHolds (mark_of e).note (eval e q s) → is_value (eval e q s) ≡ holds A v → IsSaid A (eval e q s) (asked e v)
  asked_said e v h k = noted_said (mark_of e).note (eval e q s) v (atom (is_true e)) h k (yes_value (eval e q s))

  literal_said : (l : Literal) → IsSaid A (Value (literal_value l)) (literal_truth l)
  literal_said (literal.Bool b) = record { yes = refl; no = refl; value = refl }
  literal_said (literal.Long n) = record { yes = refl; no = refl; value = refl }
  literal_said (literal.String t) = record { yes = refl; no = refl; value = refl }
  literal_said (literal.EntityUID u) = record { yes = refl; no = refl; value = refl }

  var_yes : (v : Var) → is_yes (Value (variable_value v q)) ≡ false
  var_yes Principal = refl
  var_yes Action = refl
  var_yes Resource = refl
  var_yes Context = refl

  var_no : (v : Var) → is_no (Value (variable_value v q)) ≡ false
  var_no Principal = refl
  var_no Action = refl
  var_no Resource = refl
  var_no Context = refl

  unary_said : (o : UnaryOp) (x : Typed) (m : Mark (Option Ty)) (k : Truth) → NoteHolds m.note (eval (unary o x m) q s) → IsSaid A (eval x q s) k → IsSaid A (eval (unary o x m) q s) (unary_truth o (unary o x m) k)
  unary_said Not x m k h i = record {
    yes = not_yes (eval x q s) ∙ i.no;
    no = not_no (eval x q s) ∙ i.yes;
    value = not_value (eval x q s) ∙ (λ j. i.no j || i.yes j);
  }
  unary_said Neg x m k h i = asked_said (unary Neg x m) (and k.if_value (atom (fits (unary Neg x m)))) h
      (one_fit m.note (eval x q s) (unary_value Neg) neg_over h ∙ (λ j. i.value j && is_fit (eval (unary Neg x m) q s)))
  unary_said IsEmpty x m k h i = asked_said (unary IsEmpty x m) k.if_value h (one_value m.note (eval x q s) (unary_value IsEmpty) quiet.quiet_empty h ∙ i.value)

  -- a test of two values, and a number of two
  two_said : (o : BinaryOp) (x y : Typed) (m : Mark (Option Ty)) (v : Formula) → NoteHolds m.note (eval (binary o x y m) q s) → is_value (eval x q s) && is_value (eval y q s) ≡ holds A v →
      is_value (eval (binary o x y m) q s) ≡ is_value (eval x q s) && is_value (eval y q s) → IsSaid A (eval (binary o x y m) q s) (asked (binary o x y m) v)
  two_said o x y m v h i k = asked_said (binary o x y m) v h (k ∙ i)

  number_said : (o : BinaryOp) (x y : Typed) (m : Mark (Option Ty)) (v : Formula) → NoteHolds m.note (eval (binary o x y m) q s) → is_value (eval x q s) && is_value (eval y q s) ≡ holds A v →
      is_value (eval (binary o x y m) q s) ≡ (is_value (eval x q s) && is_value (eval y q s)) && is_fit (eval (binary o x y m) q s) → IsSaid A (eval (binary o x y m) q s) (asked (binary o x y m) (and v (atom (fits (binary o x y m)))))
  number_said o x y m v h i k = asked_said (binary o x y m) (and v (atom (fits (binary o x y m)))) h (k ∙ (λ j. i j && is_fit (eval (binary o x y m) q s)))

  binary_said : (o : BinaryOp) (x y : Typed) (m : Mark (Option Ty)) (v : Formula) → NoteHolds m.note (eval (binary o x y m) q s) → is_value (eval x q s) && is_value (eval y q s) ≡ holds A v →
      IsSaid A (eval (binary o x y m) q s) (binary_truth o x y (binary o x y m) v)
  binary_said Add x y m v h i = number_said Add x y m v h i (two_fit m.note (eval x q s) (eval y q s) (λ b c. binary_value Add b c s) (sum_over (λ k l. k +ℤ l)) h)
  binary_said Sub x y m v h i = number_said Sub x y m v h i (two_fit m.note (eval x q s) (eval y q s) (λ b c. binary_value Sub b c s) (sum_over (λ k l. k -ℤ l)) h)
  binary_said Mul x y m v h i = number_said Mul x y m v h i (two_fit m.note (eval x q s) (eval y q s) (λ b c. binary_value Mul b c s) (sum_over (λ k l. k *ℤ l)) h)
  binary_said GetTag x y m v h i = asked_said (binary GetTag x y m) (and v (atom (has_tag x y))) h (tag_is s (eval x q s) (eval y q s) ∙ (λ j. i j && A (has_tag x y)))
  binary_said HasTag x y m v h i = noted_said m.note (eval (binary HasTag x y m) q s) v (atom (has_tag x y)) h
      (two_value m.note (eval x q s) (eval y q s) (λ b c. binary_value HasTag b c s) (λ b c. quiet.quiet_has_tag b c s) h ∙ i)
      (tagged_yes s (eval x q s) (eval y q s) ∙ (λ j. sym (two_value m.note (eval x q s) (eval y q s) (λ b c. binary_value HasTag b c s) (λ b c. quiet.quiet_has_tag b c s) h) j && A (has_tag x y)))
  binary_said Eq x y m v h i = two_said Eq x y m v h i (two_value m.note (eval x q s) (eval y q s) (λ b c. binary_value Eq b c s) (λ b c. tt) h)
  binary_said Less x y m v h i = two_said Less x y m v h i (two_value m.note (eval x q s) (eval y q s) (λ b c. binary_value Less b c s) (quiet.quiet_compared int_lt) h)
  binary_said LessEq x y m v h i = two_said LessEq x y m v h i (two_value m.note (eval x q s) (eval y q s) (λ b c. binary_value LessEq b c s) (quiet.quiet_compared int_le) h)
  binary_said In x y m v h i = two_said In x y m v h i (two_value m.note (eval x q s) (eval y q s) (λ b c. binary_value In b c s) (λ b c. quiet.quiet_in b c s) h)
  binary_said Contains x y m v h i = two_said Contains x y m v h i (two_value m.note (eval x q s) (eval y q s) (λ b c. binary_value Contains b c s) quiet.quiet_contains h)
  binary_said ContainsAll x y m v h i = two_said ContainsAll x y m v h i (two_value m.note (eval x q s) (eval y q s) (λ b c. binary_value ContainsAll b c s) quiet.quiet_all h)
  binary_said ContainsAny x y m v h i = two_said ContainsAny x y m v h i (two_value m.note (eval x q s) (eval y q s) (λ b c. binary_value ContainsAny b c s) quiet.quiet_some h)

  mutual
    pub said : (t : Typed) → IsNoted q s t → Below q s t → IsSaid (atoms_of q s) (eval t q s) (truth t)
    said (lit l m) n b = literal_said l
    said (var v m) n b = record { yes = var_yes v; no = var_no v; value = refl }
    said (slot i m) n b = record { yes = refl; no = refl; value = refl }
    said (ite x y z m) n b = if_said A (eval x q s) (eval y q s) (eval z q s) (truth x) (truth y) (truth z) (said x b.0.0 b.0.1) (λ e. said y (b.1 e).0 (b.1 e).1) (said z b.2.0 b.2.1)
    said (conj x y m) n b =
        let h = said x b.0.0 b.0.1 in
        let f : eval x q s ≡ Yes → IsSaid A (eval y q s) (truth y) = λ e. said y (b.1 e).0 (b.1 e).1 in
        let t = and_yes A (eval x q s) (eval y q s) (truth x) (truth y) h f in
        let u = and_no A (eval x q s) (eval y q s) (truth x) (truth y) h f in
        record { yes = t; no = u; value = both_said A (eval (conj x y m) q s) (and_truth (truth x) (truth y)).if_true (and_truth (truth x) (truth y)).if_false t u (and_value (eval x q s) (eval y q s)) }
    said (disj x y m) n b =
        let h = said x b.0.0 b.0.1 in
        let f = said y b.1.0 b.1.1 in
        let t = or_yes A (eval x q s) (eval y q s) (truth x) (truth y) h f in
        let u = or_no A (eval x q s) (eval y q s) (truth x) (truth y) h f in
        record { yes = t; no = u; value = both_said A (eval (disj x y m) q s) (or_truth (truth x) (truth y)).if_true (or_truth (truth x) (truth y)).if_false t u (or_value (eval x q s) (eval y q s)) }
    said (unary o x m) n b = unary_said o x m (truth x) n (said x b.0 b.1)
    said (binary o x y m) n b =
        let h = said x b.0.0 b.0.1 in
        let k = said y b.1.0 b.1.1 in
        binary_said o x y m (and (truth x).if_value (truth y).if_value) n (λ i. h.value i && k.value i)
    said (attr x k m) n b =
        asked_said (attr x k m) (and (truth x).if_value (atom (has_attr x k))) n (attr_is s (eval x q s) k ∙ (λ i. (said x b.0 b.1).value i && A (has_attr x k)))
    said (has x k m) n b =
        let there = one_value m.note (eval x q s) (λ v. has_value v k s) (λ v. quiet.quiet_has v k s) n in
        noted_said m.note (eval (has x k m) q s) (truth x).if_value (atom (has_attr x k)) n (there ∙ (said x b.0 b.1).value)
        (has_yes s (eval x q s) k ∙ (λ i. sym there i && A (has_attr x k)))
    said (like x p m) n b = asked_said (like x p m) (truth x).if_value n (one_value m.note (eval x q s) (λ v. like_value v p) (λ v. quiet.quiet_like v p) n ∙ (said x b.0 b.1).value)
    said (is_type x k m) n b = asked_said (is_type x k m) (truth x).if_value n (one_value m.note (eval x q s) (λ v. is_type_value v k) (λ v. quiet.quiet_is v k) n ∙ (said x b.0 b.1).value)
    said (call f xs m) n b =
        asked_said (call f xs m) (and (values_all xs) (atom (fits (call f xs m)))) n
        (call_fit m.note f (eval_all xs q s) n ∙ (λ i. said_all xs b i && is_fit (eval (call f xs m) q s)))
    said (set xs m) n b = record { yes = set_yes (eval_all xs q s); no = set_no (eval_all xs q s); value = set_ok (eval_all xs q s) ∙ said_all xs b }
    said (rec xs m) n b = record { yes = record_yes (eval_named xs q s); no = record_no (eval_named xs q s); value = record_ok (eval_named xs q s) ∙ said_named xs b }

    said_all : (xs : Trees (Mark (Option Ty))) → AllBelow q s xs → is_ok (eval_all xs q s) ≡ holds (atoms_of q s) (values_all xs)
    said_all no_trees b = refl
    said_all (tree x xs) b = prefix_ok (λ v. v) (eval x q s) (eval_all xs q s) ∙ (λ i. (said x b.0.0 b.0.1).value i && said_all xs b.1 i)

    said_named : (xs : Named (Mark (Option Ty))) → NamedBelow q s xs → is_ok (eval_named xs q s) ≡ holds (atoms_of q s) (values_named xs)
    said_named no_named b = refl
    said_named (named k x xs) b = prefix_ok (λ v. (k, v)) (eval x q s) (eval_named xs q s) ∙ (λ i. (said x b.0.0 b.0.1).value i && said_named xs b.1 i)
