-- What leads somewhere leads somewhere at each prefix.
use Rattle.std.proofs.Common.{◌≡◌, ℕ, Bool, true, false, ◌&&◌, Option, Some, None, is_some, [], ◌∷◌, ◌++◌, refl}
use Rattle.std.specs.Prelude.{slice_get}
use Rattle.std.specs.List.{list_any}
use Rattle.std.specs.Option.{option_map_or}
use Rattle.std.proofs.lemmas.Bool.{and_parts, and_from}
use Rattle.access_tries.specs.Edges.{Address, edge_eq}
use Rattle.access_tries.specs.Table.{Table, NodeData, links_at, at_path}
use Rattle.reads_spec.proofs.Lists.{any_in}
use Rattle.reads_spec.proofs.Words.{any_out}

-- for a test that nothing passes where there is no node
module _ (f : Option NodeData → Bool) (none : f None ≡ false) (ns : Table) where
  -- the node from which something leads is there
  there : (i : ℕ) (a : Address) → at_path f ns i a ≡ true → is_some (slice_get ns i) ≡ true
  there i [] h = by (slice_get ns i) h
    where
      by : (o : Option NodeData) → f o ≡ true → is_some o ≡ true
      by None g = absurd (cc)
      by (Some n) g = refl
  there i (e ∷ es) h = by (slice_get ns i) h
    where
      by : (o : Option NodeData) → list_any (λ l. edge_eq l.edge e && at_path f ns l.number es) (option_map_or (λ n. n.links) o []) ≡ true
          → is_some o ≡ true
      by None g = absurd (cc)
      by (Some n) g = refl

  -- a prefix of what leads to a node that passes the test leads to a node
  pub prefix_leads : (es a : Address) (i : ℕ) → at_path f ns i (es ++ a) ≡ true → at_path is_some ns i es ≡ true
  prefix_leads [] a i h = there i a h
  prefix_leads (e ∷ es) a i h =
      let l = any_out (λ l. edge_eq l.edge e && at_path f ns l.number (es ++ a)) (links_at ns i) h in
      let b = and_parts (edge_eq l.0.edge e) (at_path f ns l.0.number (es ++ a)) l.2 in
      any_in (λ l. edge_eq l.edge e && at_path is_some ns l.number es) l.0 (links_at ns i) l.1
      (and_from (edge_eq l.0.edge e) (at_path is_some ns l.0.number es) b.0 (prefix_leads es a l.0.number b.1))
