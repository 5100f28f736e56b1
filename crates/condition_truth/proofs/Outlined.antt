-- A condition is true and is false exactly where its outline says so.
use Rattle.std.proofs.Common.{◌≡◌, Bool, true, false, not, ◌&&◌, ◌||◌, [], Option, Some, None, refl, sym, ap, subst, ◌∙◌, IfSome}
use Rattle.plain_lemmas.proofs.Booleans.{and_parts_of}
use Rattle.policy_values.specs.Value.{truth as bool}
use Rattle.entity_store.specs.declared.request.Request.{Request}
use Rattle.entity_store.specs.Store.{Store}
use Rattle.schema_types.specs.declared.kinds.Primitive.TheVariants.{Bool as BoolType}
use Rattle.schema_types.specs.Ty.{Ty, true_type, false_type, primitive}
use Rattle.schema_core.specs.EnvData.{declared_action}
use Rattle.policy_core.specs.declared.outcome.Outcome.{Outcome}
use Rattle.policy_core.specs.declared.outcome.Outcome.TheVariants.{Value, Error}
use Rattle.policy_core.specs.Eval.{eval, truth_of, truth_outcome, choose, with_value}
use Rattle.policy_core.specs.Operators.{unary_value}
use Rattle.policy_expressions.specs.declared.kinds.Literal.TheVariants as literal
use Rattle.policy_expressions.specs.declared.kinds.UnaryOp.TheVariants.{Not, IsEmpty}
use Rattle.policy_expressions.specs.declared.kinds.BinaryOp.{BinaryOp}
use Rattle.policy_expressions.specs.declared.kinds.BinaryOp.TheVariants.{Add, Sub, Mul, GetTag}
use Rattle.policy_expressions.specs.Tree.{lit, var, ite, conj, disj, unary, binary, has, like, is_type, set, Trees, no_trees, tree, Mark, mark_of}
use Rattle.typing_spec.specs.Operands.{is_boolean}
use Rattle.typing_spec.specs.Sound.{IsOfType, TypingIsSound, TypedHasItsType}
use Rattle.typing_spec.specs.Typing.{Typed, Typing, types}
use Rattle.condition_truth.specs.Formulas.{Atom, Formula, holds, noted, truth, values_all}
use Rattle.condition_truth.specs.Truth.{is_yes, is_no, is_value, atoms_of}
use Rattle.condition_truth.specs.Outlines.{is_sure_operator, is_sure, are_sure, Asked, sides, part_sides, outline}
use Rattle.condition_truth.specs.Outlined.{asked_of, AreSides, OutlineDecides}
use Rattle.condition_truth.proofs.Outcomes.{Yes, No}
use Rattle.condition_truth.proofs.Steps.{NoteHolds}
use Rattle.condition_truth.proofs.Noted.{F, IsNoted, Below, below, promised}
use Rattle.condition_truth.proofs.Said.{said, no_truth}

-- ---- `if`, `&&`, `||` and `!`

yes_is : (o : Outcome) → is_yes o ≡ true → o ≡ Yes
yes_is (Value (bool true)) h = refl
yes_is (Value (bool false)) h = absurd (cc)
yes_is (Value v) h = absurd (cc)
yes_is (Error e) h = absurd (cc)

-- what only matters where something holds
and_where : (b c d : Bool) → (b ≡ true → c ≡ d) → b && c ≡ b && d
and_where true c d f = f refl
and_where false c d f = refl

true_if : (x y z : Outcome) → is_yes (choose (truth_of x) y z) ≡ (is_yes x && is_yes y) || (is_no x && is_yes z)
true_if (Value (bool true)) y z = or_no (is_yes y)
  where
    or_no : (b : Bool) → b ≡ b || false
    or_no true = refl
    or_no false = refl
true_if (Value (bool false)) y z = refl
true_if (Value v) y z = refl
true_if (Error e) y z = refl

false_if : (x y z : Outcome) → is_no (choose (truth_of x) y z) ≡ (is_yes x && is_no y) || (is_no x && is_no z)
false_if (Value (bool true)) y z = or_no (is_no y)
  where
    or_no : (b : Bool) → b ≡ b || false
    or_no true = refl
    or_no false = refl
false_if (Value (bool false)) y z = refl
false_if (Value v) y z = refl
false_if (Error e) y z = refl

yes_back : (p : Outcome) → is_yes (truth_outcome (truth_of p)) ≡ is_yes p
yes_back (Value (bool b)) = refl
yes_back (Value v) = refl
yes_back (Error e) = refl

no_back : (p : Outcome) → is_no (truth_outcome (truth_of p)) ≡ is_no p
no_back (Value (bool b)) = refl
no_back (Value v) = refl
no_back (Error e) = refl

true_both : (x y : Outcome) → is_yes (choose (truth_of x) (truth_outcome (truth_of y)) No) ≡ is_yes x && is_yes y
true_both (Value (bool true)) y = yes_back y
true_both (Value (bool false)) y = refl
true_both (Value v) y = refl
true_both (Error e) y = refl

false_both : (x y : Outcome) → is_no (choose (truth_of x) (truth_outcome (truth_of y)) No) ≡ is_no x || (is_yes x && is_no y)
false_both (Value (bool true)) y = no_back y
false_both (Value (bool false)) y = refl
false_both (Value v) y = refl
false_both (Error e) y = refl

true_some : (x y : Outcome) → is_yes (choose (truth_of x) Yes (truth_outcome (truth_of y))) ≡ is_yes x || (is_no x && is_yes y)
true_some (Value (bool true)) y = refl
true_some (Value (bool false)) y = yes_back y
true_some (Value v) y = refl
true_some (Error e) y = refl

false_some : (x y : Outcome) → is_no (choose (truth_of x) Yes (truth_outcome (truth_of y))) ≡ is_no x && is_no y
false_some (Value (bool true)) y = refl
false_some (Value (bool false)) y = no_back y
false_some (Value v) y = refl
false_some (Error e) y = refl

not_yes : (o : Outcome) → is_yes (with_value o (unary_value Not)) ≡ is_no o
not_yes (Value (bool b)) = refl
not_yes (Value v) = refl
not_yes (Error e) = refl

not_no : (o : Outcome) → is_no (with_value o (unary_value Not)) ≡ is_yes o
not_no (Value (bool true)) = refl
not_no (Value (bool false)) = refl
not_no (Value v) = refl
not_no (Error e) = refl

-- ---- what is sure has a value

noted_value : (n : Option Ty) (v p : Formula) → (noted n v p).if_value ≡ v
noted_value None v p = refl
noted_value (Some true_type) v p = refl
noted_value (Some false_type) v p = refl
noted_value (Some (primitive BoolType)) v p = refl
noted_value (Some t) v p = refl

module _ (a : Atom → Bool) where
  noted_sure : (n : Option Ty) (v p : Formula) → holds a v ≡ true → holds a (noted n v p).if_value ≡ true
  noted_sure n v p h = ap (holds a) (noted_value n v p) ∙ h

  both_sure : (x y : Typed) → holds a (truth x).if_value ≡ true → holds a (truth y).if_value ≡ true → holds a (truth x).if_value && holds a (truth y).if_value ≡ true
  both_sure x y h k = λ i. h i && k i

  sure_binary : (o : BinaryOp) (x y : Typed) (m : Mark (Option Ty)) → (is_sure x ≡ true → holds a (truth x).if_value ≡ true) → (is_sure y ≡ true → holds a (truth y).if_value ≡ true) →
      is_sure_operator o && (is_sure x && is_sure y) ≡ true → holds a (truth (binary o x y m)).if_value ≡ true
  sure_binary Add x y m f g h = absurd (cc)
  sure_binary Sub x y m f g h = absurd (cc)
  sure_binary Mul x y m f g h = absurd (cc)
  sure_binary GetTag x y m f g h = absurd (cc)
  sure_binary o x y m f g h =
      let both = and_parts_of (is_sure x) (is_sure y) h in
      noted_sure m.note _ _ (both_sure x y (f both.0) (g both.1))

  mutual
    sure : (e : Typed) → is_sure e ≡ true → holds a (truth e).if_value ≡ true
    sure (lit (literal.Bool b) m) h = refl
    sure (lit l m) h = refl
    sure (var v m) h = refl
    sure (unary IsEmpty x m) h = noted_sure m.note (truth x).if_value _ (sure x h)
    sure (binary o x y m) h = sure_binary o x y m (λ k. sure x k) (λ k. sure y k) h
    sure (has x n m) h = noted_sure m.note (truth x).if_value _ (sure x h)
    sure (like x p m) h = noted_sure m.note (truth x).if_value _ (sure x h)
    sure (is_type x t m) h = noted_sure m.note (truth x).if_value _ (sure x h)
    sure (set xs m) h = all_sure xs h
    sure e h = absurd (cc)

    all_sure : (xs : Trees (Mark (Option Ty))) → are_sure xs ≡ true → holds a (values_all xs) ≡ true
    all_sure no_trees h = refl
    all_sure (tree x xs) h = let both = and_parts_of (is_sure x) (are_sure xs) h in λ i. sure x both.0 i && all_sure xs both.1 i

-- ---- parts

and_again : (a b : Bool) → a && not (a && b) ≡ a && not b
and_again true b = refl
and_again false b = refl

part_true : (o : Outcome) → NoteHolds (Some true_type) o → AreSides o (sides (is_value o) false)
part_true (Value (bool true)) h = record { yes = refl; no = refl }
part_true (Value (bool false)) h = absurd (cc)
part_true (Value w) h = absurd h
part_true (Error e) h = record { yes = refl; no = refl }

part_false : (o : Outcome) → NoteHolds (Some false_type) o → AreSides o (sides false (is_value o))
part_false (Value (bool false)) h = record { yes = refl; no = refl }
part_false (Value (bool true)) h = absurd (cc)
part_false (Value w) h = absurd h
part_false (Error e) h = record { yes = refl; no = refl }

part_boolean : (o : Outcome) → NoteHolds (Some (primitive BoolType)) o → AreSides o (sides (is_value o && is_yes o) (is_value o && not (is_yes o)))
part_boolean (Value (bool b)) h = record { yes = refl; no = refl }
part_boolean (Value w) h = absurd h
part_boolean (Error e) h = record { yes = refl; no = refl }

part_other : (t : Ty) (o : Outcome) → is_boolean t ≡ false → IsOfType t o → AreSides o (sides false false)
part_other t (Value (bool b)) i h = absurd (no_truth t b i h)
part_other t (Value w) i h = record { yes = refl; no = refl }
part_other t (Error e) i h = record { yes = refl; no = refl }

part_is : (n : Option Ty) (o : Outcome) → NoteHolds n o → AreSides o (part_sides n (is_value o) (is_yes o))
part_is None o h = absurd h
part_is (Some true_type) o h = part_true o h
part_is (Some false_type) o h = part_false o h
part_is (Some (primitive BoolType)) o h = part_boolean o h
part_is (Some t) o h = part_other t o refl h

module _ (q : Request) (s : Store) where
  abbrev A : Asked → Bool
  A = asked_of q s

  Sided : Typed → Type 0
  Sided e = AreSides (eval e q s) (outline A e)

  value_is : (e : Typed) → IsNoted q s e → Below q s e → is_sure e || is_value (eval e q s) ≡ is_value (eval e q s)
  value_is e n b = by (is_sure e) refl
    where
      by : (c : Bool) → is_sure e ≡ c → c || is_value (eval e q s) ≡ is_value (eval e q s)
      by true h = sym ((said q s e n b).value ∙ sure (atoms_of q s) e h)
      by false h = refl

  -- of a part
  parted : (e : Typed) → IsNoted q s e → Below q s e → NoteHolds (mark_of e).note (eval e q s) → AreSides (eval e q s) (part_sides (mark_of e).note (is_sure e || is_value (eval e q s)) (is_yes (eval e q s)))
  parted e n b h = subst (λ v. AreSides (eval e q s) (part_sides (mark_of e).note v (is_yes (eval e q s)))) (sym (value_is e n b)) (part_is (mark_of e).note (eval e q s) h)

  outlined : (t : Typed) → IsNoted q s t → Below q s t → AreSides (eval t q s) (outline A t)
  outlined (lit (literal.Bool b) m) n k = record { yes = refl; no = refl }
  outlined (lit (literal.Long i) m) n k = record { yes = refl; no = refl }
  outlined (lit (literal.String t) m) n k = record { yes = refl; no = refl }
  outlined (lit (literal.EntityUID u) m) n k = record { yes = refl; no = refl }
  outlined (ite x y z m) n b =
      let h = outlined x b.0.0 b.0.1 in
      let k = outlined z b.2.0 b.2.1 in
      let f : is_yes (eval x q s) ≡ true → AreSides (eval y q s) (outline A y) = λ e. let w = yes_is (eval x q s) e in outlined y (b.1 w).0 (b.1 w).1 in
      record {
        yes = true_if (eval x q s) (eval y q s) (eval z q s)
            ∙ (λ i. and_where (is_yes (eval x q s)) (is_yes (eval y q s)) (outline A y).yes (λ e. (f e).yes) i || (is_no (eval x q s) && k.yes i))
            ∙ (λ i. (h.yes i && (outline A y).yes) || (h.no i && (outline A z).yes));
        no = false_if (eval x q s) (eval y q s) (eval z q s)
            ∙ (λ i. and_where (is_yes (eval x q s)) (is_no (eval y q s)) (outline A y).no (λ e. (f e).no) i || (is_no (eval x q s) && k.no i))
            ∙ (λ i. (h.yes i && (outline A y).no) || (h.no i && (outline A z).no));
      }
  outlined (conj x y m) n b =
      let h = outlined x b.0.0 b.0.1 in
      let f : is_yes (eval x q s) ≡ true → AreSides (eval y q s) (outline A y) = λ e. let w = yes_is (eval x q s) e in outlined y (b.1 w).0 (b.1 w).1 in
      record {
        yes = true_both (eval x q s) (eval y q s)
            ∙ and_where (is_yes (eval x q s)) (is_yes (eval y q s)) (outline A y).yes (λ e. (f e).yes)
            ∙ (λ i. h.yes i && (outline A y).yes);
        no = false_both (eval x q s) (eval y q s)
            ∙ (λ i. is_no (eval x q s) || and_where (is_yes (eval x q s)) (is_no (eval y q s)) (outline A y).no (λ e. (f e).no) i)
            ∙ (λ i. h.no i || (h.yes i && (outline A y).no));
      }
  outlined (disj x y m) n b =
      let h = outlined x b.0.0 b.0.1 in
      let k = outlined y b.1.0 b.1.1 in
      record {
        yes = true_some (eval x q s) (eval y q s) ∙ (λ i. h.yes i || (h.no i && k.yes i));
        no = false_some (eval x q s) (eval y q s) ∙ (λ i. h.no i && k.no i);
      }
  outlined (unary Not x m) n b =
      let h = outlined x b.0 b.1 in
      record { yes = not_yes (eval x q s) ∙ h.no; no = not_no (eval x q s) ∙ h.yes }
  outlined e n b = parted e n b n

pub outline_decides : TypingIsSound → TypedHasItsType → OutlineDecides
outline_decides sound marked schema ok env q whole of s stored e n k =
    by (types schema (declared_action env) [] e) (promised sound marked schema ok env q whole of s stored [] tt e n k (below sound marked schema ok env q whole of s stored [] tt e n k))
  where
    by : (o : Option Typing) → IfSome o (F sound marked schema ok env q whole of s stored e) → IfSome o (λ x. AreSides (eval e q s) (outline (asked_of q s) x.tree))
    by None f = tt
    by (Some x) f = subst (λ o. AreSides o (outline (asked_of q s) x.tree)) f.0.same (outlined q s x.tree f.1.0 f.1.1)
