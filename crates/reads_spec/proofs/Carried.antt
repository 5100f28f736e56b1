-- What is typed on a part of a store that has all that is reached, is typed on the whole store.
use Rattle.std.proofs.Common.{◌≡◌, List, [], ◌∷◌, ◌++◌, refl, sym, ◌∙◌}
use Rattle.std.specs.List.{AllByRecursion}
use Rattle.policy_values.specs.Value.{Val, truth}
use Rattle.policy_core.specs.declared.outcome.Outcome.{Outcome}
use Rattle.policy_core.specs.declared.outcome.Outcome.TheVariants.{Value, Error}
use Rattle.policy_core.specs.Eval.{truth_of, eval}
use Rattle.policy_expressions.specs.Tree.{Tree, lit, var, slot, ite, conj, disj, unary, binary, attr, has, like, is_type, call, set as set_tree, rec as rec_tree, Trees, no_trees, tree, Named, no_named, named}
use Rattle.reads_spec.specs.Paths.{along, Demand, Shape, paths, extended}
use Rattle.reads_spec.specs.Reads.{shape_of, with_step, unary_reads, binary_reads, reads, reads_all, reads_named, binary_demands, demands, demands_all, demands_named}
use Rattle.reads_spec.specs.Cover.{Prunes, PrunesAll, PrunesNamed, IsBooleanOrError, IsTypedOn}
use Rattle.reads_spec.proofs.Relation.{Setting, there, Agree}
use Rattle.reads_spec.proofs.Tops.{top, rel_top, truth_same}
use Rattle.reads_spec.proofs.Within.{Kept}
use Rattle.reads_spec.proofs.Induction.{Covered, left_part, right_part, first_reads, agrees}

module _ {A B : Type 0} (c : Setting) (ds : List Demand) (kept : Kept c ds) where
  same_truth : (x : Tree A) (t : Tree B) → Prunes c.request c.whole x t → Covered c ds (reads c.schema c.env t) (demands t) → truth_of (eval x c.request c.whole) ≡ truth_of (eval x c.request (there c))
  same_truth x t k h = truth_same (shape_of t) c (eval x c.request c.whole) (eval x c.request (there c)) (agrees c ds kept x t k h)

  mutual
    carried : (e : Tree A) (t : Tree B) → Prunes c.request (there c) e t → Covered c ds (reads c.schema c.env t) (demands t) → Prunes c.request c.whole e t
    carried (lit l a) (lit m b) k h = k
    carried (var v a) (var w b) k h = k
    carried (slot i a) (slot j b) k h = k
    carried (ite x y z a) (ite x2 y2 z2 b) k h =
        let hx = left_part c ds (reads c.schema c.env x2) (reads c.schema c.env y2 ++ reads c.schema c.env z2) (demands x2) (demands y2 ++ demands z2) h in
        let hr = right_part c ds (reads c.schema c.env x2) (reads c.schema c.env y2 ++ reads c.schema c.env z2) (demands x2) (demands y2 ++ demands z2) h in
        let hy = left_part c ds (reads c.schema c.env y2) (reads c.schema c.env z2) (demands y2) (demands z2) hr in
        let hz = right_part c ds (reads c.schema c.env y2) (reads c.schema c.env z2) (demands y2) (demands z2) hr in
        let kx = carried x x2 k.0 hx in
        let same = same_truth x x2 kx hx in
        (kx, (λ e. carried y y2 (k.1 (sym same ∙ e)) hy), (λ e. carried z z2 (k.2 (sym same ∙ e)) hz))
    carried (conj x y a) (conj x2 y2 b) k h =
        let hx = left_part c ds (reads c.schema c.env x2) (reads c.schema c.env y2) (demands x2) (demands y2) h in
        let hy = right_part c ds (reads c.schema c.env x2) (reads c.schema c.env y2) (demands x2) (demands y2) h in
        let kx = carried x x2 k.0 hx in
        (kx, (λ e. carried y y2 (k.1 (sym (same_truth x x2 kx hx) ∙ e)) hy))
    carried (disj x y a) (disj x2 y2 b) k h =
        let hx = left_part c ds (reads c.schema c.env x2) (reads c.schema c.env y2) (demands x2) (demands y2) h in
        let hy = right_part c ds (reads c.schema c.env x2) (reads c.schema c.env y2) (demands x2) (demands y2) h in
        let kx = carried x x2 k.0 hx in
        (kx, (λ e. carried y y2 (k.1 (sym (same_truth x x2 kx hx) ∙ e)) hy))
    carried (unary o x a) (unary p x2 b) k h = (k.0, carried x x2 k.1 (first_reads c ds (reads c.schema c.env x2) (unary_reads c.schema c.env p (shape_of x2)) (demands x2) h))
    carried (binary o x y a) (binary p x2 y2 b) k h =
        let both = left_part c ds (reads c.schema c.env x2 ++ reads c.schema c.env y2) (binary_reads c.schema c.env p (shape_of x2) (shape_of y2)) (demands x2 ++ demands y2) (binary_demands p (shape_of x2) (shape_of y2)) h in
        let hx = left_part c ds (reads c.schema c.env x2) (reads c.schema c.env y2) (demands x2) (demands y2) both in
        let hy = right_part c ds (reads c.schema c.env x2) (reads c.schema c.env y2) (demands x2) (demands y2) both in
        (k.0, carried x x2 k.1 hx, carried y y2 k.2 hy)
    carried (attr x n a) (attr x2 m b) k h = (k.0, carried x x2 k.1 (first_reads c ds (reads c.schema c.env x2) (with_step (paths (extended (shape_of x2) (along m)))) (demands x2) h))
    carried (has x n a) (has x2 m b) k h = (k.0, carried x x2 k.1 (first_reads c ds (reads c.schema c.env x2) (with_step (paths (extended (shape_of x2) (along m)))) (demands x2) h))
    carried (like x p a) (like x2 r b) k h = (k.0, carried x x2 k.1 h)
    carried (is_type x n a) (is_type x2 m b) k h = (k.0, carried x x2 k.1 h)
    carried (call f xs a) (call g ys b) k h = (k.0, carried_all xs ys k.1 h)
    carried (set_tree xs a) (set_tree ys b) k h = carried_all xs ys k h
    carried (rec_tree xs a) (rec_tree ys b) k h = carried_named xs ys k h
    carried e t k h = absurd k

    carried_all : (es : Trees A) (ts : Trees B) → PrunesAll c.request (there c) es ts → Covered c ds (reads_all c.schema c.env ts) (demands_all ts) → PrunesAll c.request c.whole es ts
    carried_all no_trees no_trees k h = tt
    carried_all (tree x xs) (tree y ys) k h = (
      carried x y k.0 (left_part c ds (reads c.schema c.env y) (reads_all c.schema c.env ys) (demands y) (demands_all ys) h),
      carried_all xs ys k.1 (right_part c ds (reads c.schema c.env y) (reads_all c.schema c.env ys) (demands y) (demands_all ys) h),
    )
    carried_all no_trees (tree y ys) k h = absurd k
    carried_all (tree x xs) no_trees k h = absurd k

    carried_named : (es : Named A) (ts : Named B) → PrunesNamed c.request (there c) es ts → Covered c ds (reads_named c.schema c.env ts) (demands_named ts) → PrunesNamed c.request c.whole es ts
    carried_named no_named no_named k h = tt
    carried_named (named n x xs) (named m y ys) k h = (
      k.0,
      carried x y k.1 (left_part c ds (reads c.schema c.env y) (reads_named c.schema c.env ys) (demands y) (demands_named ys) h),
      carried_named xs ys k.2 (right_part c ds (reads c.schema c.env y) (reads_named c.schema c.env ys) (demands y) (demands_named ys) h),
    )
    carried_named no_named (named m y ys) k h = absurd k
    carried_named (named n x xs) no_named k h = absurd k

-- what is a boolean or an error on the part is so on the whole
decided_there : (a : Shape) (c : Setting) (o p : Outcome) → IsBooleanOrError p → Agree a c o p → IsBooleanOrError o
decided_there a c (Value v) (Value (truth b)) h k = is_truth v (rel_top a c v (truth b) k)
  where
    is_truth : (v : Val) → top v ≡ truth b → IsBooleanOrError (Value v)
    is_truth (truth x) e = tt
    is_truth v e = absurd (cc)
decided_there a c (Value v) (Error e) h k = absurd k
decided_there a c (Error e) p h k = tt
decided_there a c (Value v) (Value w) h k = absurd h

pub typed_whole : {A B : Type 0} (c : Setting) (ds : List Demand) → Kept c ds → (cs : List (Tree A × Tree B)) → AllByRecursion (IsTypedOn c.request (there c)) cs → ((e : Tree A × Tree B) → Rattle.reads_spec.specs.Among.IsIn e cs → Covered c ds (reads c.schema c.env e.1) (demands e.1)) → AllByRecursion (IsTypedOn c.request c.whole) cs
typed_whole c ds kept [] h f = tt
typed_whole c ds kept (e ∷ cs) h f =
    let k = f e (Rattle.std.proofs.Common.inl refl) in
    let p = carried c ds kept e.0 e.1 h.0.0 k in
    ((p, decided_there (shape_of e.1) c (eval e.0 c.request c.whole) (eval e.0 c.request (there c)) h.0.1 (agrees c ds kept e.0 e.1 p k)), typed_whole c ds kept cs h.1 (λ x i. f x (Rattle.std.proofs.Common.inr i)))
