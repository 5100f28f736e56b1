-- Steps of the union of two tables.
use Rattle.std.proofs.Common.{◌≡◌, ℕ, zero, suc, ◌<◌, ◌≤◌, ◌+◌, ◌⊎◌, inl, inr, Bool, true, false, ◌&&◌, ◌||◌, List, [], ◌∷◌, ◌++◌, Option, None, Some, refl, sym, ap, subst, is_some, ◌∙◌, length, drop, arith}
use Rattle.std.specs.Prelude.{slice_get, slice_set}
use Rattle.std.specs.List.{AllByRecursion}
use Rattle.std.specs.Option.{option_map_or}
use Rattle.std.proofs.lemmas.Option.{slice_get_past}
use Rattle.std.proofs.lemmas.List.Folds.{list_any-append}
use Rattle.access_tries.specs.declared.edge.Edge.{Edge}
use Rattle.access_tries.specs.declared.table.Link.{Link}
use Rattle.access_tries.specs.Edges.{Address, edge_eq}
use Rattle.access_tries.specs.Table.{Table, NodeData, links_at, at_path, IsClosed, IsTableOrdered, Ascend}
use Rattle.access_tries.specs.Walks.{any_link, Keeps, TakesLink}
use Rattle.plain_lemmas.proofs.Booleans.{and_false, or_false, or_true}
use Rattle.plain_lemmas.proofs.Lists.{all_push, is_some_within}

-- what the numbers of links are: above this one and below that one
abbrev pub IsBetween : ℕ → ℕ → Link → Type 0
IsBetween k n l = (k < l.number) × (l.number < n)

-- the nodes while the one at this number is made
pub record IsUniting (at : ℕ) (old now : Table) (links : List Link) : Type 0 where
  pub kept : Keeps at old now
  pub closed : IsClosed at now
  pub ordered : IsTableOrdered at now
  pub down : AllByRecursion (IsBetween at (length now)) links

-- what is united, with what is left of both, is all of both
pub record IsSplit (f : Option NodeData → Bool) (ns : Table) (links : List Link) (x : Table) (left xs : List Link) (y : Table) (right ys : List Link) : Type 0 where
  pub all : (e : Edge) (es : Address) → (any_link f ns e es links || (any_link f x e es left || any_link f y e es right)) ≡ (any_link f x e es xs || any_link f y e es ys)

wider : (k n m : ℕ) → n ≤ m → (ls : List Link) → AllByRecursion (IsBetween k n) ls → AllByRecursion (IsBetween k m) ls
wider k n m h [] a = a
wider k n m h (l ∷ ls) (a, more) = ((a.0, omega (arith, a.1)), wider k n m h ls more)

-- links to nodes that two tables share lead to the same
pub any_same : (f : Option NodeData → Bool) (ns ms : Table) (k : ℕ) (e : Edge) (es : Address) (ls : List Link) → AllByRecursion (IsBetween k (length ns)) ls → ((j : ℕ) → k < j → j < length ns → at_path f ms j es ≡ at_path f ns j es) → any_link f ms e es ls ≡ any_link f ns e es ls
any_same f ns ms k e es [] a h = refl
any_same f ns ms k e es (l ∷ ls) (a, more) h =
    ap (λ b. (edge_eq l.edge e && b) || any_link f ms e es ls) (h l.number a.0 a.1)
    ∙ ap (λ b. (edge_eq l.edge e && at_path f ns l.number es) || b) (any_same f ns ms k e es ls more h)

-- walks from nodes that two tables share
pub same_walk : (f : Option NodeData → Bool) (ns ms : Table) (k : ℕ) → ((i : ℕ) → k ≤ i → i < length ns → slice_get ms i ≡ slice_get ns i) → IsClosed k ns → (a : Address) (i : ℕ) → k ≤ i → i < length ns → at_path f ms i a ≡ at_path f ns i a
same_walk f ns ms k s c [] i h j = ap f (s i h j)
same_walk f ns ms k s c (e ∷ es) i h j =
    ap (λ o. any_link f ms e es (option_map_or (λ n. n.links) o [])) (s i h j)
    ∙ any_same f ns ms i e es (links_at ns i) (c.each i h) (λ n u v. same_walk f ns ms k s c es n (omega (arith, u, h)) v)

-- from no node one comes nowhere
pub past : (f : Option NodeData → Bool) (ns : Table) (a : Address) → f None ≡ false → at_path f ns (length ns) a ≡ false
past f ns [] h = ap f (slice_get_past ns (length ns) (omega arith)) ∙ h
past f ns (e ∷ es) h = ap (λ o. any_link f ns e es (option_map_or (λ n. n.links) o [])) (slice_get_past ns (length ns) (omega arith))

-- past the end there is no node
no_node : (ns : Table) (i : ℕ) → length ns ≤ i → slice_get ns i ≡ slice_get ns (length ns)
no_node ns i h = slice_get_past ns i h ∙ sym (slice_get_past ns (length ns) (omega arith))

pub at_end : (f : Option NodeData → Bool) (ns : Table) (i : ℕ) (a : Address) → length ns ≤ i → at_path f ns i a ≡ at_path f ns (length ns) a
at_end f ns i [] h = ap f (no_node ns i h)
at_end f ns i (e ∷ es) h = ap (λ o. any_link f ns e es (option_map_or (λ n. n.links) o [])) (no_node ns i h)

-- what a turn takes of a list
taken : (f : Option NodeData → Bool) (ns : Table) (ls : List Link) (p : ℕ) (edge : Edge) (number next : ℕ) → f None ≡ false → TakesLink ls p (length ns) edge number next → (e : Edge) (es : Address) → any_link f ns e es (drop p ls) ≡ ((edge_eq edge e && at_path f ns number es) || any_link f ns e es (drop next ls))
taken f ns ls p edge number next h (inl (same, none)) e es =
    ap (λ k. any_link f ns e es (drop k ls)) (sym same)
    ∙ sym (ap (λ b. b || any_link f ns e es (drop next ls)) (ap (λ b. edge_eq edge e && b) (ap (λ k. at_path f ns k es) none ∙ past f ns es h) ∙ and_false (edge_eq edge e)))
taken f ns ls p edge number next h (inr (_, _, is)) e es = ap (any_link f ns e es) is

shuffle : (l e a b x y : Bool) → ((l || ((e && (a || b)) || false)) || (x || y)) ≡ (l || (((e && a) || x) || ((e && b) || y)))
shuffle true e a b x y = refl
shuffle false false a b x y = refl
shuffle false true true b x y = refl
shuffle false true false true true y = refl
shuffle false true false true false y = refl
shuffle false true false false x y = refl

pub split_step : (f : Option NodeData → Bool) (at : ℕ) (old ns ms x y : Table) (links xs ys : List Link) (p q left right p2 q2 n : ℕ) (edge : Edge) →
    f None ≡ false → IsUniting at old ns links → Keeps (length ns) ns ms →
    TakesLink xs p (length x) edge left p2 → TakesLink ys q (length y) edge right q2 →
    ((a : Address) → at_path f ms n a ≡ (at_path f x left a || at_path f y right a)) →
    IsSplit f ns links x (drop p xs) xs y (drop q ys) ys →
    IsSplit f ms (links ++ record { edge = edge; number = n } ∷ []) x (drop p2 xs) xs y (drop q2 ys) ys
split_step f at old ns ms x y links xs ys p q left right p2 q2 n edge h u k t v w s = record {
  all = λ e es.
      ap (λ b. b || (any_link f x e es (drop p2 xs) || any_link f y e es (drop q2 ys))) (list_any-append (λ l. edge_eq l.edge e && at_path f ms l.number es) links (record { edge = edge; number = n } ∷ [])
      ∙ ap (λ b. b || ((edge_eq edge e && at_path f ms n es) || false)) (any_same f ns ms at e es links u.down (λ j i m. same_walk f ns ms at (λ i _ m. k i m) u.closed es j (omega (arith, i)) m))
      ∙ ap (λ b. any_link f ns e es links || ((edge_eq edge e && b) || false)) (w es))
      ∙ shuffle (any_link f ns e es links) (edge_eq edge e) (at_path f x left es) (at_path f y right es) (any_link f x e es (drop p2 xs)) (any_link f y e es (drop q2 ys))
      ∙ sym (ap (λ b. any_link f ns e es links || (b || any_link f y e es (drop q ys))) (taken f x xs p edge left p2 h t e es)
      ∙ ap (λ b. any_link f ns e es links || (((edge_eq edge e && at_path f x left es) || any_link f x e es (drop p2 xs)) || b)) (taken f y ys q edge right q2 h v e es))
      ∙ s.all e es;
}

lt_or_ge : (a b : ℕ) → (a < b) ⊎ (b ≤ a)
lt_or_ge a zero = inr (omega arith)
lt_or_ge zero (suc b) = inl (omega arith)
lt_or_ge (suc a) (suc b) = shifted (lt_or_ge a b)
  where
    shifted : (a < b) ⊎ (b ≤ a) → (suc a < suc b) ⊎ (suc b ≤ suc a)
    shifted (inl h) = inl (omega (arith, h))
    shifted (inr h) = inr (omega (arith, h))

links_same : (ns ms : Table) (i : ℕ) → slice_get ms i ≡ slice_get ns i → links_at ms i ≡ links_at ns i
links_same ns ms i h = ap (λ o. option_map_or (λ n. n.links) o []) h

pub next_in : (ls : List Link) (p none : ℕ) (edge : Edge) (number next : ℕ) → p ≤ length ls → TakesLink ls p none edge number next → next ≤ length ls
next_in ls p none edge number next h (inl (same, _)) = omega (arith, h, same)
next_in ls p none edge number next h (inr (lt, same, _)) = omega (arith, lt, same)

pub nodes_step : (at : ℕ) (old ns ms : Table) (links : List Link) (edge : Edge) (n : ℕ) → at < length ns → IsUniting at old ns links → n ≡ length ns → n < length ms → Keeps (length ns) ns ms → IsClosed (length ns) ms → IsTableOrdered (length ns) ms → IsUniting at old ms (links ++ record { edge = edge; number = n } ∷ [])
nodes_step at old ns ms links edge n h u e lt k c o = record {
  kept = λ i j. k i (omega (arith, h, j)) ∙ u.kept i j;
  closed = record { each = λ i j. closed_here i j (lt_or_ge i (length ns)) };
  ordered = record { each = λ i j. ordered_here i j (lt_or_ge i (length ns)) };
  down = all_push (IsBetween at (length ms)) links _ (wider at (length ns) (length ms) (omega (arith, e, lt)) links u.down) (omega (arith, h, e), lt);
}
  where
    closed_here : (i : ℕ) → at ≤ i → (i < length ns) ⊎ (length ns ≤ i) → AllByRecursion (IsBetween i (length ms)) (links_at ms i)
    closed_here i j (inl below) = subst (AllByRecursion (IsBetween i (length ms))) (sym (links_same ns ms i (k i below))) (wider i (length ns) (length ms) (omega (arith, e, lt)) (links_at ns i) (u.closed.each i j))
    closed_here i j (inr above) = c.each i above

    ordered_here : (i : ℕ) → at ≤ i → (i < length ns) ⊎ (length ns ≤ i) → Ascend (links_at ms i)
    ordered_here i j (inl below) = subst Ascend (sym (links_same ns ms i (k i below))) (u.ordered.each i j)
    ordered_here i j (inr above) = o.each i above

set_below : {X : Type 0} (xs : List X) (i j : ℕ) (y : X) → j < i → slice_get (slice_set xs i y) j ≡ slice_get xs j
set_below [] i j y h = refl
set_below (x ∷ xs) zero j y h = absurd (omega (arith, h))
set_below (x ∷ xs) (suc i) zero y h = refl
set_below (x ∷ xs) (suc i) (suc j) y h = set_below xs i j y (omega (arith, h))

pub set_above : {X : Type 0} (xs : List X) (i j : ℕ) (y : X) → i < j → slice_get (slice_set xs i y) j ≡ slice_get xs j
set_above [] i j y h = refl
set_above (x ∷ xs) i zero y h = absurd (omega (arith, h))
set_above (x ∷ xs) zero (suc j) y h = refl
set_above (x ∷ xs) (suc i) (suc j) y h = set_above xs i j y (omega (arith, h))

pub set_here : {X : Type 0} (xs : List X) (i : ℕ) (y : X) → i < length xs → slice_get (slice_set xs i y) i ≡ Some y
set_here [] i y h = absurd (omega (arith, h))
set_here (x ∷ xs) zero y h = refl
set_here (x ∷ xs) (suc i) y h = set_here xs i y (omega (arith, h))

pub set_length : {X : Type 0} (xs : List X) (i : ℕ) (y : X) → length (slice_set xs i y) ≡ length xs
set_length [] i y = refl
set_length (x ∷ xs) zero y = refl
set_length (x ∷ xs) (suc i) y = ap suc (set_length xs i y)

pub kept_at_end : (at : ℕ) (old ns : Table) (links : List Link) (node : NodeData) → IsUniting at old ns links → Keeps at old (slice_set ns at node)
kept_at_end at old ns links node u k h = set_below ns at k node h ∙ u.kept k h

pub closed_at_end : (at : ℕ) (old ns : Table) (node : NodeData) → at < length ns → IsUniting at old ns node.links → IsClosed at (slice_set ns at node)
closed_at_end at old ns node h u = record { each = λ i j. closed_here i j (lt_or_ge at i) }
  where
    closed_here : (i : ℕ) → at ≤ i → (at < i) ⊎ (i ≤ at) → AllByRecursion (IsBetween i (length (slice_set ns at node))) (links_at (slice_set ns at node) i)
    closed_here i j (inl above) =
        rw (set_length ns at node) (rw (links_same ns (slice_set ns at node) i (set_above ns at i node above)) (u.closed.each i j))
    closed_here i j (inr below) =
        let same : i ≡ at = omega (arith, below, j) in
        rw (set_length ns at node) (rw same (rw (ap (λ o. option_map_or (λ n. n.links) o []) (set_here ns at node h)) u.down))

pub ordered_at_end : (at : ℕ) (old ns : Table) (node : NodeData) → at < length ns → IsUniting at old ns node.links → Ascend node.links → IsTableOrdered at (slice_set ns at node)
ordered_at_end at old ns node h u up = record { each = λ i j. ordered_here i j (lt_or_ge at i) }
  where
    ordered_here : (i : ℕ) → at ≤ i → (at < i) ⊎ (i ≤ at) → Ascend (links_at (slice_set ns at node) i)
    ordered_here i j (inl above) = subst Ascend (sym (links_same ns (slice_set ns at node) i (set_above ns at i node above))) (u.ordered.each i j)
    ordered_here i j (inr below) =
        let same : i ≡ at = omega (arith, below, j) in
        rw same (rw (ap (λ o. option_map_or (λ n. n.links) o []) (set_here ns at node h)) up)

dropped : (ls : List Link) (p : ℕ) → length ls ≤ p → drop p ls ≡ []
dropped [] zero h = refl
dropped [] (suc p) h = refl
dropped (l ∷ ls) zero h = absurd (omega (arith, h))
dropped (l ∷ ls) (suc p) h = dropped ls p (omega (arith, h))

pub paths_at_end : (f : Option NodeData → Bool) (at : ℕ) (old ns x y : Table) (node : NodeData) (i j : ℕ) (xs ys : List Link) (p q : ℕ) →
    at < length ns → IsUniting at old ns node.links → xs ≡ links_at x i → ys ≡ links_at y j → length xs ≤ p → length ys ≤ q →
    IsSplit f ns node.links x (drop p xs) xs y (drop q ys) ys →
    f (Some node) ≡ (f (slice_get x i) || f (slice_get y j)) →
    (a : Address) → at_path f (slice_set ns at node) at a ≡ (at_path f x i a || at_path f y j a)
paths_at_end f at old ns x y node i j xs ys p q h u ex ey px qy s m [] = ap f (set_here ns at node h) ∙ m
paths_at_end f at old ns x y node i j xs ys p q h u ex ey px qy s m (e ∷ es) =
    ap (λ o. any_link f (slice_set ns at node) e es (option_map_or (λ n. n.links) o [])) (set_here ns at node h)
    ∙ any_same f ns (slice_set ns at node) at e es node.links u.down (λ k v w. same_walk f ns (slice_set ns at node) (suc at) (λ n a b. set_above ns at n node (omega (arith, a))) (record { each = λ n a. u.closed.each n (omega (arith, a)) }) es k (omega (arith, v)) w)
    ∙ sym (or_false (any_link f ns e es node.links))
    ∙ sym (ap (λ ls. any_link f ns e es node.links || (any_link f x e es ls || any_link f y e es (drop q ys))) (dropped xs p px)
    ∙ ap (λ ls. any_link f ns e es node.links || any_link f y e es ls) (dropped ys q qy))
    ∙ s.all e es
    ∙ ap (λ ls. any_link f x e es ls || any_link f y e es ys) ex
    ∙ ap (λ ls. any_link f x e es (links_at x i) || any_link f y e es ls) ey

pub one_present : (x y : Table) (i j : ℕ) → i + j < length x + length y → j ≤ length y → true ≡ (is_some (slice_get x i) || is_some (slice_get y j))
one_present x y i j h k = here (lt_or_ge i (length x))
  where
    here : (i < length x) ⊎ (length x ≤ i) → true ≡ (is_some (slice_get x i) || is_some (slice_get y j))
    here (inl lt) = sym (ap (λ b. b || is_some (slice_get y j)) (is_some_within x i lt))
    here (inr ge) = sym (ap (λ b. is_some (slice_get x i) || b) (is_some_within y j (omega (arith, h, ge))) ∙ or_true (is_some (slice_get x i)))
