-- Two ascending lists of links, one behind the other by turns.
use Rattle.std.proofs.Common.{◌≡◌, ℕ, zero, suc, ◌<◌, ◌+◌, ◌⊎◌, inl, inr, List, [], ◌∷◌, ◌++◌, refl, sym, subst, ap, ◌∙◌, drop, length, arith, slice_index_or}
use Rattle.std.specs.List.{AllByRecursion}
use Rattle.std.specs.declared.cmp.Ordering.TheVariants.{Less, Equal, Greater}
use Rattle.std.specs.Ordering.{ordering_reverse}
use Rattle.access_tries.specs.EdgeLaws.{edge_total, exact_edge}
use Rattle.access_tries.specs.declared.edge.Edge.{Edge}
use Rattle.access_tries.specs.declared.table.Link.{Link}
use Rattle.access_tries.specs.Edges.{edge_cmp}
use Rattle.access_tries.specs.Table.{Ascend, IsLinkBefore}
use Rattle.access_tries.specs.Walks.{TakesLink, IsBeforeAll}

-- the links so far ascend, and come before what is left of both lists, which ascends too
pub record IsMerging (links left right : List Link) : Type 0 where
  pub up : Ascend links
  pub before_left : AllByRecursion (λ l. IsBeforeAll l.edge left) links
  pub before_right : AllByRecursion (λ l. IsBeforeAll l.edge right) links
  pub left_up : Ascend left
  pub right_up : Ascend right

each_so : {P Q : Link → Type 0} → ((l : Link) → P l → Q l) → (ls : List Link) → AllByRecursion P ls → AllByRecursion Q ls
each_so f [] h = tt
each_so f (l ∷ ls) h = (f l h.0, each_so f ls h.1)

each_more : (P : Link → Type 0) (ls : List Link) (m : Link) → AllByRecursion P ls → P m → AllByRecursion P (ls ++ m ∷ [])
each_more P [] m h k = (k, tt)
each_more P (l ∷ ls) m h k = (h.0, each_more P ls m h.1 k)

pub ascend_more : (ls : List Link) (m : Link) → Ascend ls → AllByRecursion (λ l. IsLinkBefore l m) ls → Ascend (ls ++ m ∷ [])
ascend_more [] m up h = (tt, tt)
ascend_more (l ∷ ls) m up h = (each_more (IsLinkBefore l) ls m up.0 h.0, ascend_more ls m up.1 h.1)

-- the first of what is left
head_next : (ls : List Link) (p : ℕ) (d : Link) → p < length ls → drop p ls ≡ slice_index_or ls p d ∷ drop (suc p) ls
head_next [] p d h = absurd (omega (arith, h))
head_next (l ∷ ls) zero d h = refl
head_next (l ∷ ls) (suc p) d h = head_next ls p d (omega (arith, h))

head_at : (ls : List Link) (p : ℕ) (d : Link) → p < length ls → drop p ls ≡ slice_index_or ls p d ∷ drop (p + 1) ls
head_at ls p d h = let e : suc p ≡ p + 1 = omega arith in head_next ls p d h ∙ ap (λ k. slice_index_or ls p d ∷ drop k ls) e

pub all_behind : (e : Edge) (l : Link) (ls : List Link) → edge_cmp e l.edge ≡ Less → AllByRecursion (IsLinkBefore l) ls → IsBeforeAll e ls
all_behind e l ls h up = each_so (λ m k. edge_total.trans e l.edge m.edge h k) ls up

module _ (ls : List Link) (p : ℕ) (m : Link) (h : p < length ls) (is : m ≡ slice_index_or ls p m) where
  pub head_is : drop p ls ≡ m ∷ drop (p + 1) ls
  head_is = head_at ls p m h ∙ ap (λ l. l ∷ drop (p + 1) ls) (sym is)

  -- the first of what is left comes before the others
  pub before_own : Ascend (drop p ls) → IsBeforeAll m.edge (drop (p + 1) ls)
  before_own up = (subst Ascend head_is up).0

  -- what comes before the first of what is left comes before all of it
  pub before_rest : (e : Edge) → Ascend (drop p ls) → edge_cmp e m.edge ≡ Less → IsBeforeAll e (drop p ls)
  before_rest e up k = subst (IsBeforeAll e) (sym head_is) (k, all_behind e m (drop (p + 1) ls) k (before_own up))

  -- the first of what is left, where it compares equal
  pub takes_equal : (e : Edge) (none : ℕ) → edge_cmp e m.edge ≡ Equal → TakesLink ls p none e m.number (p + 1)
  takes_equal e none k = inr (h, refl, head_is ∙ ap (λ a. record { edge = a; number = m.number } ∷ drop (p + 1) ls) (sym (exact_edge e m.edge k)))

  pub before_equal : (e : Edge) → Ascend (drop p ls) → edge_cmp e m.edge ≡ Equal → IsBeforeAll e (drop (p + 1) ls)
  before_equal e up k = subst (λ a. IsBeforeAll a (drop (p + 1) ls)) (sym (exact_edge e m.edge k)) (before_own up)

pub other_way : (a b : Edge) → edge_cmp a b ≡ Greater → edge_cmp b a ≡ Less
other_way a b h = edge_total.antisymm b a ∙ ap ordering_reverse h

-- what is left after a turn
left_up : (ls : List Link) (p none : ℕ) (e : Edge) (number next : ℕ) → TakesLink ls p none e number next → Ascend (drop p ls) → Ascend (drop next ls)
left_up ls p none e number next (inl t) up = subst (λ k. Ascend (drop k ls)) (sym t.0) up
left_up ls p none e number next (inr t) up = (subst Ascend t.2 up).1

left_before : (ls : List Link) (p none : ℕ) (e : Edge) (number next : ℕ) → TakesLink ls p none e number next → (a : Edge) → IsBeforeAll a (drop p ls) → IsBeforeAll a (drop next ls)
left_before ls p none e number next (inl t) a h = subst (λ k. IsBeforeAll a (drop k ls)) (sym t.0) h
left_before ls p none e number next (inr t) a h = (subst (IsBeforeAll a) t.2 h).1

-- what is taken comes behind the links so far
taken_behind : (ls : List Link) (p none : ℕ) (e : Edge) (number next : ℕ) → TakesLink ls p none e number next → p < next → (a : Edge) → IsBeforeAll a (drop p ls) → edge_cmp a e ≡ Less
taken_behind ls p none e number next (inl t) lt a h = absurd (omega (arith, t.0, lt))
taken_behind ls p none e number next (inr t) lt a h = (subst (IsBeforeAll a) t.2 h).0

further_one : (ls : List Link) (p none : ℕ) (e : Edge) (number next : ℕ) → TakesLink ls p none e number next → (next ≡ p) ⊎ (p < next)
further_one ls p none e number next (inl t) = inl t.0
further_one ls p none e number next (inr t) = inr (omega (arith, t.1))

pub merging_step : (links xs ys : List Link) (p q nx ny left right p2 q2 n : ℕ) (e : Edge) → IsMerging links (drop p xs) (drop q ys) →
    TakesLink xs p nx e left p2 → TakesLink ys q ny e right q2 → p + q < p2 + q2 → IsBeforeAll e (drop p2 xs) → IsBeforeAll e (drop q2 ys) →
    IsMerging (links ++ record { edge = e; number = n } ∷ []) (drop p2 xs) (drop q2 ys)
merging_step links xs ys p q nx ny left right p2 q2 n e m t v lt bx by = record {
  up = ascend_more links (record { edge = e; number = n }) m.up (all_before (further_one xs p nx e left p2 t));
  before_left = each_more (λ l. IsBeforeAll l.edge (drop p2 xs)) links (record { edge = e; number = n }) (each_so (λ l h. left_before xs p nx e left p2 t l.edge h) links m.before_left) bx;
  before_right = each_more (λ l. IsBeforeAll l.edge (drop q2 ys)) links (record { edge = e; number = n }) (each_so (λ l h. left_before ys q ny e right q2 v l.edge h) links m.before_right) by;
  left_up = left_up xs p nx e left p2 t m.left_up;
  right_up = left_up ys q ny e right q2 v m.right_up;
}
  where
    all_before : (p2 ≡ p) ⊎ (p < p2) → AllByRecursion (λ l. edge_cmp l.edge e ≡ Less) links
    all_before (inr more) = each_so (λ l h. taken_behind xs p nx e left p2 t more l.edge h) links m.before_left
    all_before (inl same) = each_so (λ l h. taken_behind ys q ny e right q2 v (omega (arith, same, lt)) l.edge h) links m.before_right
