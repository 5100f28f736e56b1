-- Fields and roots of a node, one by one.
use Rattle.std.proofs.Common.{◌≡◌, ℕ, cond, List, [], ◌∷◌, map, Some, sym, ap, ◌∙◌, arith}
use Rattle.std.specs.Prelude.{option_map, find}
use Rattle.std.specs.Ordering.{is_eq}
use Rattle.std.specs.Cmp.{tied_itself}
use Rattle.std.specs.declared.cmp.Ordering.TheVariants.{Less}
use Rattle.std.specs.List.{AllByRecursion}
use Rattle.std.specs.List.Sorted.{IsStrictlySortedBy}
use Rattle.policy_values.specs.Uid.{text_cmp}
use Rattle.access_tries.specs.declared.edge.EntityRoot.{EntityRoot}
use Rattle.access_tries.specs.declared.edge.Edge.{Edge}
use Rattle.access_tries.specs.declared.edge.Edge.TheVariants.{Field, AnyTag, Root}
use Rattle.access_tries.specs.declared.table.Link.{Link}
use Rattle.access_tries.specs.Edges.{edge_cmp, edge_eq, root_cmp}
use Rattle.access_tries.specs.Table.{Table, IsTable, IsLinkBefore, Ascend, links_at}
use Rattle.access_tries.specs.Views.{ViewData, LeadsTo, number_at, with_child, with_root, children_in, roots_in, children_of, roots_of, AreChildren, AreRoots}
use Rattle.access_tries.proofs.Behind.{found}
use Rattle.access_tries.specs.EdgeLaws.{edge_total, then_end}
use Rattle.plain_lemmas.proofs.Lists.{all_weaker}

-- each link is the one that is found by its edge
pub all_found : (ls : List Link) → Ascend ls → AllByRecursion (λ m. number_at m.edge ls ≡ Some m.number) ls
all_found [] up = tt
all_found (l ∷ ls) up = (
  ap (λ b. option_map (λ m. m.number) (cond b (Some l) (find (λ m. edge_eq m.edge l.edge) ls))) (ap is_eq (tied_itself edge_total l.edge)),
  behind ls ls up.0 (all_found ls up.1),
)
  where
    behind : (ms ns : List Link) → AllByRecursion (IsLinkBefore l) ms → AllByRecursion (λ m. number_at m.edge ns ≡ Some m.number) ms → AllByRecursion (λ m. number_at m.edge (l ∷ ns) ≡ Some m.number) ms
    behind [] ns before h = tt
    behind (m ∷ ms) ns before h = (ap (λ b. option_map (λ m. m.number) (cond b (Some l) (find (λ k. edge_eq k.edge m.edge) ns))) (ap is_eq before.0) ∙ h.0, behind ms ns before.1 h.1)

each_leads : (v : ViewData) → IsTable v.nodes → AllByRecursion (λ l. LeadsTo l.edge v (record { nodes = v.nodes; number = l.number })) (links_at v.nodes v.number)
each_leads v t = all_weaker (λ l h. found v.nodes v.number l.edge l.number t h) (links_at v.nodes v.number) (all_found (links_at v.nodes v.number) (t.ordered.each v.number (omega arith)))

one_child : (v : ViewData) (e : Edge) (w : ViewData) (cs : List (List ℕ × ViewData)) → LeadsTo e v w → AreChildren v cs → AreChildren v (with_child e w cs)
one_child v (Field n) w cs h all = (h, all)
one_child v AnyTag w cs h all = all
one_child v (Root r) w cs h all = all

one_root : (v : ViewData) (e : Edge) (w : ViewData) (rs : List (EntityRoot × ViewData)) → LeadsTo e v w → AreRoots v rs → AreRoots v (with_root e w rs)
one_root v (Field n) w rs h all = all
one_root v AnyTag w rs h all = all
one_root v (Root r) w rs h all = (h, all)

children_lead_in : (v : ViewData) (ls : List Link) → AllByRecursion (λ l. LeadsTo l.edge v (record { nodes = v.nodes; number = l.number })) ls → AreChildren v (children_in v.nodes ls)
children_lead_in v [] h = tt
children_lead_in v (l ∷ ls) h = one_child v l.edge _ _ h.0 (children_lead_in v ls h.1)

roots_lead_in : (v : ViewData) (ls : List Link) → AllByRecursion (λ l. LeadsTo l.edge v (record { nodes = v.nodes; number = l.number })) ls → AreRoots v (roots_in v.nodes ls)
roots_lead_in v [] h = tt
roots_lead_in v (l ∷ ls) h = one_root v l.edge _ _ h.0 (roots_lead_in v ls h.1)

pub children_lead : (v : ViewData) → IsTable v.nodes → AreChildren v (children_of v)
children_lead v t = children_lead_in v (links_at v.nodes v.number) (each_leads v t)

pub roots_lead : (v : ViewData) → IsTable v.nodes → AreRoots v (roots_of v)
roots_lead v t = roots_lead_in v (links_at v.nodes v.number) (each_leads v t)

-- what comes before each link comes before each name, each root, of them
name_behind : (n : List ℕ) (e : Edge) (w : ViewData) (cs : List (List ℕ × ViewData)) → edge_cmp (Field n) e ≡ Less → AllByRecursion (λ y. text_cmp n y ≡ Less) (map (λ c. c.0) cs) → AllByRecursion (λ y. text_cmp n y ≡ Less) (map (λ c. c.0) (with_child e w cs))
name_behind n (Field m) w cs h all = (sym (then_end (text_cmp n m)) ∙ h, all)
name_behind n AnyTag w cs h all = all
name_behind n (Root r) w cs h all = all

names_behind : (n : List ℕ) (ns : Table) (ls : List Link) → AllByRecursion (λ m. edge_cmp (Field n) m.edge ≡ Less) ls → AllByRecursion (λ y. text_cmp n y ≡ Less) (map (λ c. c.0) (children_in ns ls))
names_behind n ns [] h = tt
names_behind n ns (l ∷ ls) h = name_behind n l.edge _ _ h.0 (names_behind n ns ls h.1)

root_behind : (q : EntityRoot) (e : Edge) (w : ViewData) (rs : List (EntityRoot × ViewData)) → edge_cmp (Root q) e ≡ Less → AllByRecursion (λ y. root_cmp q y ≡ Less) (map (λ c. c.0) rs) → AllByRecursion (λ y. root_cmp q y ≡ Less) (map (λ c. c.0) (with_root e w rs))
root_behind q (Field m) w rs h all = all
root_behind q AnyTag w rs h all = all
root_behind q (Root r) w rs h all = (h, all)

roots_behind : (q : EntityRoot) (ns : Table) (ls : List Link) → AllByRecursion (λ m. edge_cmp (Root q) m.edge ≡ Less) ls → AllByRecursion (λ y. root_cmp q y ≡ Less) (map (λ c. c.0) (roots_in ns ls))
roots_behind q ns [] h = tt
roots_behind q ns (l ∷ ls) h = root_behind q l.edge _ _ h.0 (roots_behind q ns ls h.1)

name_ascends : (e : Edge) (w : ViewData) (ns : Table) (ls : List Link) → AllByRecursion (λ m. edge_cmp e m.edge ≡ Less) ls → IsStrictlySortedBy text_cmp (map (λ c. c.0) (children_in ns ls)) → IsStrictlySortedBy text_cmp (map (λ c. c.0) (with_child e w (children_in ns ls)))
unfolding IsStrictlySortedBy
name_ascends (Field n) w ns ls before up = (names_behind n ns ls before, up)
name_ascends AnyTag w ns ls before up = up
name_ascends (Root r) w ns ls before up = up

root_ascends : (e : Edge) (w : ViewData) (ns : Table) (ls : List Link) → AllByRecursion (λ m. edge_cmp e m.edge ≡ Less) ls → IsStrictlySortedBy root_cmp (map (λ c. c.0) (roots_in ns ls)) → IsStrictlySortedBy root_cmp (map (λ c. c.0) (with_root e w (roots_in ns ls)))
unfolding IsStrictlySortedBy
root_ascends (Field n) w ns ls before up = up
root_ascends AnyTag w ns ls before up = up
root_ascends (Root r) w ns ls before up = (roots_behind r ns ls before, up)

children_ascend_in : (ns : Table) (ls : List Link) → Ascend ls → IsStrictlySortedBy text_cmp (map (λ c. c.0) (children_in ns ls))
unfolding IsStrictlySortedBy
children_ascend_in ns [] up = tt
children_ascend_in ns (l ∷ ls) up = name_ascends l.edge (record { nodes = ns; number = l.number }) ns ls up.0 (children_ascend_in ns ls up.1)

roots_ascend_in : (ns : Table) (ls : List Link) → Ascend ls → IsStrictlySortedBy root_cmp (map (λ c. c.0) (roots_in ns ls))
unfolding IsStrictlySortedBy
roots_ascend_in ns [] up = tt
roots_ascend_in ns (l ∷ ls) up = root_ascends l.edge (record { nodes = ns; number = l.number }) ns ls up.0 (roots_ascend_in ns ls up.1)

pub children_ascend : (v : ViewData) → IsTable v.nodes → IsStrictlySortedBy text_cmp (map (λ c. c.0) (children_of v))
children_ascend v t = children_ascend_in v.nodes (links_at v.nodes v.number) (t.ordered.each v.number (omega arith))

pub roots_ascend : (v : ViewData) → IsTable v.nodes → IsStrictlySortedBy root_cmp (map (λ c. c.0) (roots_of v))
roots_ascend v t = roots_ascend_in v.nodes (links_at v.nodes v.number) (t.ordered.each v.number (omega arith))
