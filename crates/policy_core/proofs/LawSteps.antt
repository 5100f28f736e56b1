-- Trees of one shape have one outcome.
use Rattle.std.proofs.Common.{◌≡◌, false, true, ap, refl}
use Rattle.entity_store.specs.declared.request.Request.{Request}
use Rattle.entity_store.specs.Store.{Store}
use Rattle.policy_values.specs.Value.{truth}
use Rattle.policy_core.specs.declared.outcome.Outcome.TheVariants.{Value}
use Rattle.policy_expressions.specs.Tree.{Tree, lit, var, slot, ite, conj, disj, unary, binary, attr, has, like, is_type, call, set, rec, Trees, no_trees, tree, Named, no_named, named}
use Rattle.policy_expressions.specs.Shape.{SameShape, SameShapes, SameNamed}
use Rattle.policy_core.specs.Operators.{unary_value, binary_value, attr_value, has_value, like_value, is_value}
use Rattle.policy_core.specs.Calls.{call_outcome}
use Rattle.policy_core.specs.Eval.{eval, eval_all, eval_named, literal_value, variable_value, truth_of, truth_outcome, choose, with_value, in_prefix, set_outcome, record_outcome}

module _ {A B : Type 0} (q : Request) (s : Store) where
  mutual
    pub same_outcome : (x : Tree A) (u : Tree B) → SameShape x u → eval x q s ≡ eval u q s
    same_outcome (lit l a) (lit m b) h = ap (λ k. Value (literal_value k)) h
    same_outcome (var v a) (var w b) h = ap (λ k. Value (variable_value k q)) h
    same_outcome (slot i a) (slot j b) h = refl
    same_outcome (ite x y z a) (ite u v w b) h = λ i. choose (truth_of (same_outcome x u h.0 i)) (same_outcome y v h.1 i) (same_outcome z w h.2 i)
    same_outcome (conj x y a) (conj u v b) h = λ i. choose (truth_of (same_outcome x u h.0 i)) (truth_outcome (truth_of (same_outcome y v h.1 i))) (Value (truth false))
    same_outcome (disj x y a) (disj u v b) h = λ i. choose (truth_of (same_outcome x u h.0 i)) (Value (truth true)) (truth_outcome (truth_of (same_outcome y v h.1 i)))
    same_outcome (unary o x a) (unary p u b) h = λ i. with_value (same_outcome x u h.1 i) (λ v. unary_value (h.0 i) v)
    same_outcome (binary o x y a) (binary p u w b) h = λ i. with_value (same_outcome x u h.1 i) (λ v. with_value (same_outcome y w h.2 i) (λ z. binary_value (h.0 i) v z s))
    same_outcome (attr x m a) (attr u n b) h = λ i. with_value (same_outcome x u h.0 i) (λ v. attr_value v (h.1 i) s)
    same_outcome (has x m a) (has u n b) h = λ i. with_value (same_outcome x u h.0 i) (λ v. has_value v (h.1 i) s)
    same_outcome (like x p a) (like u r b) h = λ i. with_value (same_outcome x u h.0 i) (λ v. like_value v (h.1 i))
    same_outcome (is_type x t a) (is_type u r b) h = λ i. with_value (same_outcome x u h.0 i) (λ v. is_value v (h.1 i))
    same_outcome (call f xs a) (call g us b) h = λ i. call_outcome (h.0 i) (same_outcomes xs us h.1 i)
    same_outcome (set xs a) (set us b) h = λ i. set_outcome (same_outcomes xs us h i)
    same_outcome (rec xs a) (rec us b) h = λ i. record_outcome (same_fields xs us h i)
    same_outcome x u h = absurd h

    same_outcomes : (xs : Trees A) (us : Trees B) → SameShapes xs us → eval_all xs q s ≡ eval_all us q s
    same_outcomes no_trees no_trees h = refl
    same_outcomes (tree x xs) (tree u us) h = λ i. in_prefix (λ v. v) (same_outcome x u h.0 i) (same_outcomes xs us h.1 i)
    same_outcomes xs us h = absurd h

    same_fields : (xs : Named A) (us : Named B) → SameNamed xs us → eval_named xs q s ≡ eval_named us q s
    same_fields no_named no_named h = refl
    same_fields (named m x xs) (named n u us) h = λ i. in_prefix (λ v. (h.0 i, v)) (same_outcome x u h.1 i) (same_fields xs us h.2 i)
    same_fields xs us h = absurd h
