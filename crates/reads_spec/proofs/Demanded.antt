-- Each path of a demand is read, where it has a step.
use Rattle.std.proofs.Common.{◌≡◌, ◌⊎◌, true, List, [], ◌∷◌, ◌++◌, map, inl, inr, refl, subst}
use Rattle.std.specs.List.{flat_map}
use Rattle.policy_expressions.specs.declared.kinds.BinaryOp.{BinaryOp}
use Rattle.policy_expressions.specs.declared.kinds.BinaryOp.TheVariants.{In}
use Rattle.policy_expressions.specs.Tree.{Tree, lit, var, slot, ite, conj, disj, unary, binary, attr, has, like, is_type, call, set as set_tree, rec as rec_tree, Trees, no_trees, tree, Named, no_named, named}
use Rattle.schema_core.specs.EnvData.{EnvData}
use Rattle.schema_core.specs.Schema.{SchemaData}
use Rattle.reads_spec.specs.Paths.{along, AccessPath, Demand, Shape, paths, extended, has_step}
use Rattle.reads_spec.specs.Reads.{shape_of, with_step, all_below, wholly, unary_reads, binary_reads, reads, reads_all, reads_named, reads_of, pairs, binary_demands, demands, demands_all, demands_named, demands_of}
use Rattle.reads_spec.proofs.Lists.{IsIn, in_left, in_right, in_map_out, in_filter, in_append_out}
use Rattle.reads_spec.proofs.Dropping.{AreDemandsRead}

pairs_out : (ps rs : List AccessPath) (e : Demand) → IsIn e (pairs ps rs) → IsIn e.0 ps × IsIn e.1 rs
pairs_out [] rs e h = absurd h
pairs_out (p ∷ ps) rs e h = here (in_append_out e (map (λ r. (p, r)) rs) (pairs ps rs) h) (pairs_out ps rs e)
  where
    here : IsIn e (map (λ r. (p, r)) rs) ⊎ IsIn e (pairs ps rs) → (IsIn e (pairs ps rs) → IsIn e.0 ps × IsIn e.1 rs) → IsIn e.0 (p ∷ ps) × IsIn e.1 rs
    here (inl i) f = let o = in_map_out (λ r. (p, r)) e rs i in (subst (λ (z : Demand). IsIn z.0 (p ∷ ps)) o.2 (inl refl), subst (λ (z : Demand). IsIn z.1 rs) o.2 o.1)
    here (inr i) f = let o = f i in (inr o.0, o.1)

more_reads : (ps rs : List AccessPath) (es : List Demand) → ((p : AccessPath) → IsIn p ps → IsIn p rs) → AreDemandsRead ps es → AreDemandsRead rs es
more_reads ps rs es f h e i = let r = h e i in (λ k. f e.0 (r.0 k), λ k. f e.1 (r.1 k))

left_reads : (ps rs : List AccessPath) (es : List Demand) → AreDemandsRead ps es → AreDemandsRead (ps ++ rs) es
left_reads ps rs es h = more_reads ps (ps ++ rs) es (λ p i. in_left p ps rs i) h

right_reads : (ps rs : List AccessPath) (es : List Demand) → AreDemandsRead rs es → AreDemandsRead (ps ++ rs) es
right_reads ps rs es h = more_reads rs (ps ++ rs) es (λ p i. in_right p ps rs i) h

both_reads : (ps rs : List AccessPath) (es fs : List Demand) → AreDemandsRead ps es → AreDemandsRead rs fs → AreDemandsRead (ps ++ rs) (es ++ fs)
both_reads ps rs es fs h k e i = here (in_append_out e es fs i)
  where
    here : IsIn e es ⊎ IsIn e fs → (has_step e.0 ≡ true → IsIn e.0 (ps ++ rs)) × (has_step e.1 ≡ true → IsIn e.1 (ps ++ rs))
    here (inl j) = left_reads ps rs es h e j
    here (inr j) = right_reads ps rs fs k e j

none_read : (ps : List AccessPath) → AreDemandsRead ps []
none_read ps e i = absurd i

module _ (d : SchemaData) (g : EnvData) where
  in_read : (a b : Shape) → AreDemandsRead (binary_reads d g In a b) (pairs (paths a) (paths b))
  in_read a b e i =
      let o = pairs_out (paths a) (paths b) e i in
      let both = wholly d g a ++ wholly d g b in (
        λ k. in_right e.0 both (paths a) o.0,
        λ k. in_left e.1 both (paths a) (in_right e.1 (wholly d g a) (wholly d g b) (in_left e.1 (with_step (paths b)) (flat_map (all_below d g) (paths b)) (in_filter has_step e.1 (paths b) o.1 k))),
      )

  operator_reads : (o : BinaryOp) (a b : Shape) → AreDemandsRead (binary_reads d g o a b) (binary_demands o a b)
  operator_reads In a b = in_read a b
  operator_reads o a b = none_read (binary_reads d g o a b)

  mutual
    demands_in : {A : Type 0} (e : Tree A) → AreDemandsRead (reads d g e) (demands e)
    demands_in (lit l a) = none_read []
    demands_in (var v a) = none_read []
    demands_in (slot i a) = none_read []
    demands_in (ite x y z a) = both_reads (reads d g x) (reads d g y ++ reads d g z) (demands x) (demands y ++ demands z) (demands_in x) (both_reads (reads d g y) (reads d g z) (demands y) (demands z) (demands_in y) (demands_in z))
    demands_in (conj x y a) = both_reads (reads d g x) (reads d g y) (demands x) (demands y) (demands_in x) (demands_in y)
    demands_in (disj x y a) = both_reads (reads d g x) (reads d g y) (demands x) (demands y) (demands_in x) (demands_in y)
    demands_in (unary o x a) = left_reads (reads d g x) (unary_reads d g o (shape_of x)) (demands x) (demands_in x)
    demands_in (binary o x y a) = both_reads (reads d g x ++ reads d g y) (binary_reads d g o (shape_of x) (shape_of y)) (demands x ++ demands y) (binary_demands o (shape_of x) (shape_of y)) (both_reads (reads d g x) (reads d g y) (demands x) (demands y) (demands_in x) (demands_in y)) (operator_reads o (shape_of x) (shape_of y))
    demands_in (attr x n a) = left_reads (reads d g x) (with_step (paths (extended (shape_of x) (along n)))) (demands x) (demands_in x)
    demands_in (has x n a) = left_reads (reads d g x) (with_step (paths (extended (shape_of x) (along n)))) (demands x) (demands_in x)
    demands_in (like x p a) = demands_in x
    demands_in (is_type x t a) = demands_in x
    demands_in (call f xs a) = demands_in_all xs
    demands_in (set_tree xs a) = demands_in_all xs
    demands_in (rec_tree xs a) = demands_in_named xs

    demands_in_all : {A : Type 0} (es : Trees A) → AreDemandsRead (reads_all d g es) (demands_all es)
    demands_in_all no_trees = none_read []
    demands_in_all (tree x xs) = both_reads (reads d g x) (reads_all d g xs) (demands x) (demands_all xs) (demands_in x) (demands_in_all xs)

    demands_in_named : {A : Type 0} (es : Named A) → AreDemandsRead (reads_named d g es) (demands_named es)
    demands_in_named no_named = none_read []
    demands_in_named (named k x xs) = both_reads (reads d g x) (reads_named d g xs) (demands x) (demands_named xs) (demands_in x) (demands_in_named xs)

  pub demands_are_read : {A : Type 0} (ts : List (Tree A)) → AreDemandsRead (reads_of d g ts) (demands_of ts)
  demands_are_read [] = none_read []
  demands_are_read (t ∷ ts) = both_reads (reads d g t) (reads_of d g ts) (demands t) (demands_of ts) (demands_in t) (demands_are_read ts)
