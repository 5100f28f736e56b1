-- Two nodes that are compared link by link.
use Rattle.std.proofs.Common.{◌≡◌, ℕ, suc, ◌<◌, ◌+◌, Bool, true, false, ◌&&◌, List, [], ◌∷◌, length, drop, slice_index_or, refl, ap, ◌∙◌}
use Rattle.std.specs.Prelude.{slice_get}
use Rattle.std.specs.Bool.{beq}
use Rattle.access_tries.specs.declared.table.Link.{Link}
use Rattle.access_tries.specs.Edges.{edge_eq}
use Rattle.access_tries.specs.Table.{Table, IsClosed, has_mark, links_at}
use Rattle.access_tries.specs.Trees.{Branch, branch, branches_by, branch_at}
use Rattle.access_tries.specs.Same.{same_branch, same_branches}
use Rattle.access_tries.proofs.Branching.{branch_is}
use Rattle.access_tries.proofs.Merging.{head_is}
use Rattle.plain_lemmas.proofs.Booleans.{and_false}

regroup : (e m s r : Bool) → ((e && (m && s)) && r) ≡ (((e && m) && s) && r)
regroup true true s r = refl
regroup true false s r = refl
regroup false m s r = refl

-- as many links
pub other_length : (f g : ℕ → Branch) (xs ys : List Link) → (length xs ≡ length ys → ⊥) → same_branches (branches_by f xs) (branches_by g ys) ≡ false
other_length f g [] [] h = absurd (h refl)
other_length f g [] (y ∷ ys) h = refl
other_length f g (x ∷ xs) [] h = refl
other_length f g (x ∷ xs) (y ∷ ys) h =
    ap (λ b. (edge_eq x.edge y.edge && same_branch (f x.number) (g y.number)) && b) (other_length f g xs ys (λ e. h (ap suc e))) ∙ and_false (edge_eq x.edge y.edge && same_branch (f x.number) (g y.number))

-- whether two links have one edge, and the nodes behind them one mark
abbrev pub looks : Table → Table → Link → Link → Bool
looks a b x y = edge_eq x.edge y.edge && beq (has_mark (slice_get a x.number)) (has_mark (slice_get b y.number))

-- whether links lead to the same
abbrev pub alike : Table → Table → List Link → List Link → Bool
alike a b xs ys = same_branches (branches_by (branch_at a) xs) (branches_by (branch_at b) ys)

module _ (a b : Table) (ca : IsClosed 0 a) (cb : IsClosed 0 b) where
  pub node_alike : (i j : ℕ) → same_branch (branch_at a i) (branch_at b j) ≡ (beq (has_mark (slice_get a i)) (has_mark (slice_get b j)) && alike a b (links_at a i) (links_at b j))
  node_alike i j = ap (λ t. same_branch t (branch_at b j)) (branch_is a ca i) ∙ ap (same_branch (branch (has_mark (slice_get a i)) (branches_by (branch_at a) (links_at a i)))) (branch_is b cb j)

  link_alike : (x y : Link) (xs ys : List Link) → alike a b (x ∷ xs) (y ∷ ys) ≡ ((looks a b x y && alike a b (links_at a x.number) (links_at b y.number)) && alike a b xs ys)
  link_alike x y xs ys =
      ap (λ s. (edge_eq x.edge y.edge && s) && alike a b xs ys) (node_alike x.number y.number)
      ∙ regroup (edge_eq x.edge y.edge) (beq (has_mark (slice_get a x.number)) (has_mark (slice_get b y.number))) (alike a b (links_at a x.number) (links_at b y.number)) (alike a b xs ys)

  -- the first of what is left
  pub step : (xs ys : List Link) (k : ℕ) (x y : Link) → k < length xs → k < length ys → x ≡ slice_index_or xs k x → y ≡ slice_index_or ys k y → alike a b (drop k xs) (drop k ys) ≡ ((looks a b x y && alike a b (links_at a x.number) (links_at b y.number)) && alike a b (drop (k + 1) xs) (drop (k + 1) ys))
  step xs ys k x y i j is was =
      ap (λ l. alike a b l (drop k ys)) (head_is xs k x i is) ∙ ap (alike a b (x ∷ drop (k + 1) xs)) (head_is ys k y j was) ∙ link_alike x y (drop (k + 1) xs) (drop (k + 1) ys)

pub other_differs : (s t : Bool) → t ≡ false → (s && t) ≡ false
other_differs true t h = h
other_differs false t h = refl
