-- Each trie is of its own paths and demands.
use Rattle.std.proofs.Common.{◌≡◌, ℕ, zero, suc, ◌+◌, ◌≤◌, ◌<◌, Bool, true, ◌&&◌, Option, is_some, List, [], ◌∷◌, map, length, refl, sym, ap, ◌∙◌, subst, inl, inr, arith}
use Rattle.std.specs.Prelude.{filter}
use Rattle.std.specs.List.{flat_map, AllByRecursion}
use Rattle.std.proofs.lemmas.Bool.{and_parts}
use Rattle.access_tries.specs.declared.edge.Edge.{Edge}
use Rattle.access_tries.specs.declared.edge.Edge.TheVariants.{Root}
use Rattle.access_tries.specs.declared.table.Link.{Link}
use Rattle.access_tries.specs.Edges.{Address, edge_eq}
use Rattle.access_tries.specs.Paths.{edge_of, address_of, demand_of, has_path, asks}
use Rattle.access_tries.specs.Table.{Table, NodeData, IsTable, IsClosed, links_at, has_mark, at_path, leads}
use Rattle.reads_spec.specs.Paths.{AccessPath, Demand, beyond}
use Rattle.reads_spec.specs.Among.{IsIn, IsPrefixOfRead}
use Rattle.reads_spec.proofs.Lists.{in_map, in_filter, in_flat_map}
use Rattle.reads_spec.proofs.Words.{any_out}
use Rattle.entity_loading.specs.Tries.{IsTrieOf, EveryTrieIsOfSome}
use Rattle.entity_loading.proofs.Prefixes.{prefix_leads}
use Rattle.entity_loading.proofs.LeastSteps.{first_path, behind_first, first_then, rest_then, path_alone, demand, map_append, in_filter_out, whole_path}
use Rattle.access_tries.specs.SameLaws.{edge_is}

-- ---- addresses along links

-- all addresses along links from the node, to this depth
abbrev addresses : ℕ → Table → ℕ → List Address
addresses zero ns i = [] ∷ []
addresses (suc k) ns i = [] ∷ flat_map (λ l. map (λ es. l.edge ∷ es) (addresses k ns l.number)) (links_at ns i)

each_of : {A : Type 0} (P : A → Type 0) (x : A) (xs : List A) → AllByRecursion P xs → IsIn x xs → P x
each_of P x [] h i = absurd i
each_of P x (y ∷ ys) h (inl same) = subst P same h.0
each_of P x (y ∷ ys) h (inr i) = each_of P x ys h.1 i

-- the first link of a way, and the way behind it
record Begins (f : Option NodeData → Bool) (ns : Table) (i : ℕ) (e : Edge) (es : Address) : Type 0 where
  link : Link
  among : IsIn link (links_at ns i)
  same : link.edge ≡ e
  on : at_path f ns link.number es ≡ true
  later : (i < link.number) × (link.number < length ns)

begins : (f : Option NodeData → Bool) (ns : Table) → IsClosed 0 ns → (i : ℕ) (e : Edge) (es : Address) → at_path f ns i (e ∷ es) ≡ true
    → Begins f ns i e es
begins f ns c i e es h =
    let a = any_out (λ l. edge_eq l.edge e && at_path f ns l.number es) (links_at ns i) h in
    let b = and_parts (edge_eq a.0.edge e) (at_path f ns a.0.number es) a.2 in
    record {
      link = a.0;
      among = a.1;
      same = edge_is a.0.edge e b.0;
      on = b.1;
      later = each_of (λ l. (i < l.number) × (l.number < length ns)) a.0 (links_at ns i) (c.each i (omega arith)) a.1;
    }

-- all that leads from the node is among these, if they go as deep as there are nodes
listed : (f : Option NodeData → Bool) (ns : Table) → IsClosed 0 ns → (k i : ℕ) → length ns ≤ i + k → (es : Address) → at_path f ns i es ≡ true
    → IsIn es (addresses k ns i)
listed f ns c zero i u [] h = inl refl
listed f ns c (suc k) i u [] h = inl refl
listed f ns c zero i u (e ∷ es) h = let b = begins f ns c i e es h in absurd (omega (arith, b.later.0, b.later.1, u))
listed f ns c (suc k) i u (e ∷ es) h =
    let b = begins f ns c i e es h in
    let rest = listed f ns c k b.link.number (omega (arith, b.later.0, u)) es b.on in
    inr (in_flat_map (λ l. map (λ a. l.edge ∷ a) (addresses k ns l.number)) b.link (e ∷ es) (links_at ns i) b.among
    (subst (λ d. IsIn (d ∷ es) (map (λ a. b.link.edge ∷ a) (addresses k ns b.link.number))) b.same
    (in_map (λ a. b.link.edge ∷ a) es (addresses k ns b.link.number) rest)))

-- ---- paths and demands

abbrev both_paths : Address → Demand
both_paths a = demand (first_path a) (first_path (behind_first a))

both_then : (p r : AccessPath) → both_paths (demand_of (p, r)) ≡ demand p r
both_then p r i = demand (first_then p r i) ((ap first_path (rest_then p r) ∙ path_alone r) i)

module _ (t : Table) where
  abbrev all_addresses : List Address
  all_addresses = addresses (length t) t 0

  abbrev asked : Demand → Bool
  asked d = asks t d.0 d.1

  -- the paths that the trie has, and what it asks
  abbrev all_reads : List AccessPath
  all_reads = filter (has_path t) (map first_path all_addresses)

  abbrev all_demands : List Demand
  all_demands = filter asked (map both_paths all_addresses)

  module _ (table : IsTable t) where
    to_read : (p : AccessPath) → has_path t p ≡ true → IsPrefixOfRead all_reads p
    to_read p h =
        let i = in_map first_path (address_of p) all_addresses (listed is_some t table.closed (length t) 0 (omega arith) (address_of p) h) in
        let j = in_filter (has_path t) p (map first_path all_addresses) (subst (λ z. IsIn z (map first_path all_addresses)) (path_alone p) i) h in
        record { rest = []; among = subst (λ z. IsIn z all_reads) (sym (whole_path p)) j }

    from_read : (p : AccessPath) → IsPrefixOfRead all_reads p → has_path t p ≡ true
    from_read p r =
        let f = in_filter_out (has_path t) (beyond p r.rest) (map first_path all_addresses) r.among in
        prefix_leads is_some refl t (address_of p) (map edge_of r.rest) 0 (subst (λ es. leads t (Root p.root ∷ es) ≡ true) (map_append p.steps r.rest) f.1)

    to_demand : (p r : AccessPath) → asks t p r ≡ true → IsIn (demand p r) all_demands
    to_demand p r h =
        let i = in_map both_paths (demand_of (p, r)) all_addresses (listed has_mark t table.closed (length t) 0 (omega arith) (demand_of (p, r)) h) in
        in_filter asked (demand p r) (map both_paths all_addresses) (subst (λ d. IsIn d (map both_paths all_addresses)) (both_then p r) i) h

    from_demand : (p r : AccessPath) → IsIn (demand p r) all_demands → asks t p r ≡ true
    from_demand p r i = (in_filter_out asked (demand p r) (map both_paths all_addresses) i).1

    of_own : IsTrieOf all_reads all_demands t
    of_own = record { paths = λ p. (to_read p, from_read p); asks = λ p r. (to_demand p r, from_demand p r) }

pub every_trie : EveryTrieIsOfSome
every_trie t table = (all_reads t, all_demands t, of_own t table)
