-- Tables with the same paths and marks hold the same trees.
use Rattle.std.proofs.Common.{◌≡◌, ℕ, zero, suc, ◌<◌, ◌+◌, Bool, true, false, ◌&&◌, ◌||◌, Option, List, [], ◌∷◌, length, is_some, refl, sym, ap, ◌∙◌, arith}
use Rattle.std.specs.Prelude.{slice_get}
use Rattle.std.specs.List.{AllByRecursion}
use Rattle.std.specs.Cmp.{tied_itself}
use Rattle.std.specs.Ordering.{is_eq, ordering_reverse}
use Rattle.std.specs.declared.cmp.Ordering.{Ordering}
use Rattle.std.specs.declared.cmp.Ordering.TheVariants.{Less, Equal, Greater}
use Rattle.access_tries.specs.declared.edge.Edge.{Edge}
use Rattle.access_tries.specs.declared.table.Link.{Link}
use Rattle.access_tries.specs.Edges.{Address, edge_cmp, edge_eq}
use Rattle.access_tries.specs.Table.{Table, NodeData, IsTable, IsLinkBefore, Ascend, at_path, has_mark, links_at}
use Rattle.access_tries.specs.Trees.{Branch, branch, Branches, leading, branches_by, branch_within, branch_at}
use Rattle.access_tries.specs.Laws.{SameTriesAreEqual}
use Rattle.access_tries.specs.Walks.{any_link, IsBeforeAll}
use Rattle.access_tries.specs.EdgeLaws.{edge_total, exact_edge}
use Rattle.access_tries.proofs.Behind.{none_behind}
use Rattle.access_tries.proofs.Branching.{branch_is, deep_enough}
use Rattle.access_tries.proofs.Merging.{all_behind, other_way}
use Rattle.plain_lemmas.proofs.Lists.{is_some_within}
use Rattle.plain_lemmas.proofs.Booleans.{or_false}

-- the nodes lead the same ways, to marked ones alike
record Match (a b : Table) (i j : ℕ) : Type 0 where
  paths : (es : Address) → at_path is_some a i es ≡ at_path is_some b j es
  marks : (es : Address) → at_path has_mark a i es ≡ at_path has_mark b j es

-- so do links of two nodes
record Alike (a b : Table) (xs ys : List Link) : Type 0 where
  paths : (e : Edge) (es : Address) → any_link is_some a e es xs ≡ any_link is_some b e es ys
  marks : (e : Edge) (es : Address) → any_link has_mark a e es xs ≡ any_link has_mark b e es ys

abbrev Within : Table → List Link → Type 0
Within a xs = AllByRecursion (λ l. l.number < length a) xs

own : (e : Edge) → edge_eq e e ≡ true
own e = ap is_eq (tied_itself edge_total e)

-- no link leads along an edge that comes before all
not_before : (f : Option NodeData → Bool) (a : Table) (e : Edge) (es : Address) (xs : List Link) → IsBeforeAll e xs → any_link f a e es xs ≡ false
not_before f a e es [] h = refl
not_before f a e es (x ∷ xs) h =
    ap (λ t. (t && at_path f a x.number es) || any_link f a e es xs) (ap is_eq (edge_total.antisymm x.edge e ∙ ap ordering_reverse h.0)) ∙ not_before f a e es xs h.1

-- along its edge the first link leads somewhere
there : (a : Table) (x : Link) (xs : List Link) → x.number < length a → any_link is_some a x.edge [] (x ∷ xs) ≡ true
there a x xs h =
    ap (λ t. (t && is_some (slice_get a x.number)) || any_link is_some a x.edge [] xs) (own x.edge)
    ∙ ap (λ t. t || any_link is_some a x.edge [] xs) (is_some_within a x.number h)

-- along its edge only the first link leads
only_first : (f : Option NodeData → Bool) (a : Table) (x : Link) (xs : List Link) (es : Address) → AllByRecursion (IsLinkBefore x) xs → any_link f a x.edge es (x ∷ xs) ≡ at_path f a x.number es
only_first f a x xs es up =
    ap (λ t. (t && at_path f a x.number es) || any_link f a x.edge es xs) (own x.edge)
    ∙ ap (λ t. at_path f a x.number es || t) (none_behind f a x.edge es x xs (own x.edge) up) ∙ or_false (at_path f a x.number es)

-- along other edges the others lead
rest : (f : Option NodeData → Bool) (a b : Table) (x y : Link) (xs ys : List Link) (e : Edge) (es : Address) → x.edge ≡ y.edge → AllByRecursion (IsLinkBefore x) xs → AllByRecursion (IsLinkBefore y) ys →
    any_link f a e es (x ∷ xs) ≡ any_link f b e es (y ∷ ys) → any_link f a e es xs ≡ any_link f b e es ys
rest f a b x y xs ys e es same up down h = by (edge_eq x.edge e) refl
  where
    by : (t : Bool) → edge_eq x.edge e ≡ t → any_link f a e es xs ≡ any_link f b e es ys
    by true is = none_behind f a e es x xs is up ∙ sym (none_behind f b e es y ys (ap (λ d. edge_eq d e) (sym same) ∙ is) down)
    by false is =
        ap (λ t. (t && at_path f a x.number es) || any_link f a e es xs) (sym is) ∙ h
        ∙ ap (λ t. (t && at_path f b y.number es) || any_link f b e es ys) (ap (λ d. edge_eq d e) (sym same) ∙ is)

module _ (a b : Table) (s t : ℕ → Branch) (down : (i j : ℕ) → Match a b i j → s i ≡ t j) where
  -- by how the first edges compare
  by_first : (x y : Link) (xs ys : List Link) (o : Ordering) → edge_cmp x.edge y.edge ≡ o → Ascend (x ∷ xs) → Ascend (y ∷ ys) → Within a (x ∷ xs) → Within b (y ∷ ys) → Alike a b (x ∷ xs) (y ∷ ys) → (Alike a b xs ys → branches_by s xs ≡ branches_by t ys) → branches_by s (x ∷ xs) ≡ branches_by t (y ∷ ys)
  by_first x y xs ys Less is up vp w v h later = absurd (let e = sym (h.paths x.edge [] ∙ not_before is_some b x.edge [] (y ∷ ys) (is, all_behind x.edge y ys is vp.0)) ∙ there a x xs w.0 in cc)
  by_first x y xs ys Greater is up vp w v h later =
      let back = other_way x.edge y.edge is in
      absurd (let e = sym (sym (h.paths y.edge []) ∙ not_before is_some a y.edge [] (x ∷ xs) (back, all_behind y.edge x xs back up.0)) ∙ there b y ys v.0 in cc)
  by_first x y xs ys Equal is up vp w v h later =
      let same = exact_edge x.edge y.edge is in
      let behind = down x.number y.number (record {
        paths = λ es. sym (only_first is_some a x xs es up.0) ∙ h.paths x.edge es ∙ ap (λ d. any_link is_some b d es (y ∷ ys)) same ∙ only_first is_some b y ys es vp.0;
        marks = λ es. sym (only_first has_mark a x xs es up.0) ∙ h.marks x.edge es ∙ ap (λ d. any_link has_mark b d es (y ∷ ys)) same ∙ only_first has_mark b y ys es vp.0;
      }) in
      let more = later (record {
        paths = λ e es. rest is_some a b x y xs ys e es same up.0 vp.0 (h.paths e es);
        marks = λ e es. rest has_mark a b x y xs ys e es same up.0 vp.0 (h.marks e es);
      }) in
      λ i. leading (same i) (behind i) (more i)

  links_equal : (xs ys : List Link) → Ascend xs → Ascend ys → Within a xs → Within b ys → Alike a b xs ys → branches_by s xs ≡ branches_by t ys
  links_equal [] [] up vp w v h = refl
  links_equal [] (y ∷ ys) up vp w v h = absurd (let e = h.paths y.edge [] ∙ there b y ys v.0 in cc)
  links_equal (x ∷ xs) [] up vp w v h = absurd (let e = sym (h.paths x.edge []) ∙ there a x xs w.0 in cc)
  links_equal (x ∷ xs) (y ∷ ys) up vp w v h = by_first x y xs ys (edge_cmp x.edge y.edge) refl up vp w v h (links_equal xs ys up.1 vp.1 w.1 v.1)

numbers : (a : Table) (i : ℕ) (xs : List Link) → AllByRecursion (λ l. (i < l.number) × (l.number < length a)) xs → Within a xs
numbers a i [] h = tt
numbers a i (x ∷ xs) h = (h.0.1, numbers a i xs h.1)

module _ (a b : Table) (ta : IsTable a) (tb : IsTable b) where
  -- to any depth
  equal_within : (k i j : ℕ) → Match a b i j → branch_within k a i ≡ branch_within k b j
  equal_within zero i j h = refl
  equal_within (suc k) i j h =
      let below = links_equal a b (branch_within k a) (branch_within k b) (equal_within k) (links_at a i) (links_at b j) (ta.ordered.each i (omega arith)) (tb.ordered.each j (omega arith))
      (numbers a i (links_at a i) (ta.closed.each i (omega arith))) (numbers b j (links_at b j) (tb.closed.each j (omega arith)))
      (record { paths = λ e es. h.paths (e ∷ es); marks = λ e es. h.marks (e ∷ es) }) in
      let mark = h.marks [] in
      λ u. branch (mark u) (below u)

  -- deeper than there are nodes there is nothing more
  deeper : (ns : Table) → IsTable ns → (m i : ℕ) → branch_within (m + length ns) ns i ≡ branch_within (length ns) ns i
  deeper ns t zero i = let e : zero + length ns ≡ length ns = omega arith in ap (λ k. branch_within k ns i) e
  deeper ns t (suc m) i =
      let e : suc m + length ns ≡ suc (m + length ns) = omega arith in
      ap (λ k. branch_within k ns i) e ∙ deep_enough ns t.closed (m + length ns) i (omega arith) ∙ deeper ns t m i

  equal_nodes : Match a b 0 0 → branch_at a 0 ≡ branch_at b 0
  unfolding branch_at
  equal_nodes h =
      let e : length a + length b ≡ length b + length a = omega arith in
      sym (deeper a ta (length b) 0) ∙ ap (λ k. branch_within k a 0) (sym e) ∙ equal_within (length a + length b) 0 0 h ∙ deeper b tb (length a) 0

abbrev branches_in : Branch → Branches
branches_in (branch m bs) = bs

pub same_tries_are_equal : SameTriesAreEqual
same_tries_are_equal = record {
  roots = λ s t ks kt h. sym (ap branches_in (branch_is s ks.closed 0)) ∙ ap branches_in (equal_nodes s t ks kt (record { paths = h.paths; marks = h.marks })) ∙ ap branches_in (branch_is t kt.closed 0);
  nodes = λ s t ks kt h. equal_nodes s t ks kt (record { paths = h.paths; marks = h.marks });
}
