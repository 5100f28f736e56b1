-- A node that is made link by link, each after the nodes below it.
use Rattle.std.proofs.Common.{◌≡◌, ℕ, suc, ◌<◌, Bool, ◌&&◌, ◌||◌, List, [], ◌∷◌, ◌++◌, Option, Some, length, ap, ◌∙◌, arith}
use Rattle.std.specs.Prelude.{slice_set}
use Rattle.std.specs.Option.{option_map_or}
use Rattle.std.proofs.lemmas.List.Folds.{list_any-append}
use Rattle.access_tries.specs.declared.edge.Edge.{Edge}
use Rattle.access_tries.specs.declared.table.Link.{Link}
use Rattle.access_tries.specs.Edges.{Address, edge_eq}
use Rattle.access_tries.specs.Table.{Table, NodeData, at_path}
use Rattle.access_tries.specs.Walks.{any_link, Keeps}
use Rattle.access_tries.proofs.Unions.{IsUniting, any_same, same_walk, set_here, set_above}
use Rattle.plain_lemmas.proofs.Booleans.{or_false}

-- one more link: where it leads besides
pub any_more : (f : Option NodeData → Bool) (at : ℕ) (old ns ms : Table) (links : List Link) (edge : Edge) (n : ℕ) → IsUniting at old ns links → Keeps (length ns) ns ms → (e : Edge) (es : Address) →
    any_link f ms e es (links ++ record { edge = edge; number = n } ∷ []) ≡ (any_link f ns e es links || (edge_eq edge e && at_path f ms n es))
any_more f at old ns ms links edge n u k e es =
    list_any-append (λ l. edge_eq l.edge e && at_path f ms l.number es) links (record { edge = edge; number = n } ∷ [])
    ∙ ap (λ b. any_link f ms e es links || b) (or_false (edge_eq edge e && at_path f ms n es))
    ∙ ap (λ b. b || (edge_eq edge e && at_path f ms n es)) (any_same f ns ms at e es links u.down (λ j i m. same_walk f ns ms at (λ i _ m. k i m) u.closed es j (omega (arith, i)) m))

module _ (f : Option NodeData → Bool) (at : ℕ) (old ns : Table) (node : NodeData) (h : at < length ns) (u : IsUniting at old ns node.links) where
  -- what the node itself is, and where it leads, once it stands in its place
  pub here_at_end : at_path f (slice_set ns at node) at [] ≡ f (Some node)
  here_at_end = ap f (set_here ns at node h)

  pub below_at_end : (e : Edge) (es : Address) → at_path f (slice_set ns at node) at (e ∷ es) ≡ any_link f ns e es node.links
  below_at_end e es =
      ap (λ o. any_link f (slice_set ns at node) e es (option_map_or (λ n. n.links) o [])) (set_here ns at node h)
      ∙ any_same f ns (slice_set ns at node) at e es node.links u.down (λ k v w. same_walk f ns (slice_set ns at node) (suc at) (λ n a b. set_above ns at n node (omega (arith, a))) (record { each = λ n a. u.closed.each n (omega (arith, a)) }) es k (omega (arith, v)) w)
