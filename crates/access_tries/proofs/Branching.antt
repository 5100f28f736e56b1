-- A node and where its links lead.
use Rattle.std.proofs.Common.{◌≡◌, ℕ, zero, suc, ◌<◌, ◌≤◌, ◌+◌, Bool, ◌&&◌, ◌||◌, Option, List, [], ◌∷◌, length, refl, sym, ap, ◌∙◌, arith}
use Rattle.std.specs.Prelude.{slice_get}
use Rattle.std.specs.List.{AllByRecursion}
use Rattle.std.specs.Option.{option_map_or}
use Rattle.std.proofs.lemmas.Option.{slice_get_past}
use Rattle.access_tries.specs.declared.edge.Edge.{Edge}
use Rattle.access_tries.specs.declared.table.Link.{Link}
use Rattle.access_tries.specs.Edges.{Address, edge_eq}
use Rattle.access_tries.specs.Table.{Table, NodeData, links_at, has_mark, at_path, IsClosed}
use Rattle.access_tries.specs.Walks.{any_link}
use Rattle.access_tries.specs.Trees.{Branch, branch, leading, branches_by, branch_within, branch_at, passes, some_passes}

same_branches : (f g : ℕ → Branch) (k n : ℕ) (ls : List Link) → AllByRecursion (λ l. (k < l.number) × (l.number < n)) ls → ((j : ℕ) → k < j → f j ≡ g j) → branches_by f ls ≡ branches_by g ls
same_branches f g k n [] a h = refl
same_branches f g k n (l ∷ ls) a h =
    ap (λ b. leading l.edge b (branches_by f ls)) (h l.number a.0.0) ∙ ap (leading l.edge (g l.number)) (same_branches f g k n ls a.1 h)

-- one more level shows nothing more
pub deep_enough : (ns : Table) → IsClosed 0 ns → (k i : ℕ) → length ns ≤ i + k → branch_within (suc k) ns i ≡ branch_within k ns i
deep_enough ns c zero i h =
    ap (λ o. branch (has_mark o) (branches_by (branch_within zero ns) (option_map_or (λ n. n.links) o []))) (slice_get_past ns i (omega (arith, h)))
deep_enough ns c (suc k) i h =
    ap (branch (has_mark (slice_get ns i))) (same_branches (branch_within (suc k) ns) (branch_within k ns) i (length ns) (links_at ns i) (c.each i (omega arith)) (λ j u. deep_enough ns c k j (omega (arith, h, u))))

-- a node is its mark and where its links lead
pub branch_is : (ns : Table) → IsClosed 0 ns → (i : ℕ) → branch_at ns i ≡ branch (has_mark (slice_get ns i)) (branches_by (branch_at ns) (links_at ns i))
unfolding branch_at
branch_is ns c i = sym (deep_enough ns c (length ns) i (omega arith))

some_same : (f : Option NodeData → Bool) (g : Bool → Bool) (ns : Table) (e : Edge) (es : Address) → ((j : ℕ) → j < length ns → at_path f ns j es ≡ passes g (branch_at ns j) es) → (i : ℕ) (ls : List Link) → AllByRecursion (λ l. (i < l.number) × (l.number < length ns)) ls → any_link f ns e es ls ≡ some_passes g (branches_by (branch_at ns) ls) e es
some_same f g ns e es h i [] a = refl
some_same f g ns e es h i (l ∷ ls) a =
    ap (λ b. (edge_eq l.edge e && b) || any_link f ns e es ls) (h l.number a.0.1)
    ∙ ap (λ b. (edge_eq l.edge e && passes g (branch_at ns l.number) es) || b) (some_same f g ns e es h i ls a.1)

-- where edges lead in the table, they lead in the tree
pub same_paths : (f : Option NodeData → Bool) (g : Bool → Bool) (ns : Table) → IsClosed 0 ns → ((i : ℕ) → i < length ns → f (slice_get ns i) ≡ g (has_mark (slice_get ns i))) → (es : Address) (i : ℕ) → i < length ns → at_path f ns i es ≡ passes g (branch_at ns i) es
same_paths f g ns c h [] i u = h i u ∙ sym (ap (λ b. passes g b []) (branch_is ns c i))
same_paths f g ns c h (e ∷ es) i u =
    some_same f g ns e es (same_paths f g ns c h es) i (links_at ns i) (c.each i (omega arith)) ∙ sym (ap (λ b. passes g b (e ∷ es)) (branch_is ns c i))

-- behind the first edge too, whether the node is there or not
pub same_below : (f : Option NodeData → Bool) (g : Bool → Bool) (ns : Table) → IsClosed 0 ns → ((i : ℕ) → i < length ns → f (slice_get ns i) ≡ g (has_mark (slice_get ns i))) → (i : ℕ) (e : Edge) (es : Address) → at_path f ns i (e ∷ es) ≡ some_passes g (branches_by (branch_at ns) (links_at ns i)) e es
same_below f g ns c h i e es = some_same f g ns e es (same_paths f g ns c h es) i (links_at ns i) (c.each i (omega arith))
