-- An edge leads to the node of the one link that has it.
use Rattle.std.proofs.Common.{◌≡◌, ℕ, ◌<◌, length, Bool, true, false, ◌&&◌, ◌||◌, cond, List, [], ◌∷◌, Option, Some, None, is_some, refl, ap, ◌∙◌, subst, arith}
use Rattle.std.specs.Prelude.{option_map, find}
use Rattle.std.specs.Option.{option_map_or}
use Rattle.std.specs.List.{AllByRecursion}
use Rattle.std.specs.Ordering.{is_eq, ordering_reverse}
use Rattle.std.specs.declared.cmp.Ordering.TheVariants.{Less}
use Rattle.policy_values.specs.Ties.{equal_of}
use Rattle.access_tries.specs.declared.edge.Edge.{Edge}
use Rattle.access_tries.specs.declared.table.Link.{Link}
use Rattle.access_tries.specs.Edges.{Address, edge_cmp, edge_eq}
use Rattle.access_tries.specs.Table.{Table, NodeData, at_path, has_mark, links_at, IsLinkBefore, Ascend, IsTable}
use Rattle.access_tries.specs.Views.{LeadsNowhere, LeadsTo, number_at}
use Rattle.access_tries.specs.Walks.{any_link}
use Rattle.access_tries.specs.EdgeLaws.{edge_total, exact_edge}
use Rattle.plain_lemmas.proofs.Lists.{is_some_within}
use Rattle.plain_lemmas.proofs.Booleans.{or_false}

-- behind an edge there is no other link with it
other : (e : Edge) (l m : Link) → edge_eq l.edge e ≡ true → IsLinkBefore l m → edge_eq m.edge e ≡ false
other e l m same before =
    let is : l.edge ≡ e = exact_edge l.edge e (equal_of (edge_cmp l.edge e) same) in
    ap is_eq (edge_total.antisymm m.edge e ∙ ap ordering_reverse (subst (λ a. edge_cmp a m.edge ≡ Less) is before))

pub none_behind : (f : Option NodeData → Bool) (ns : Table) (e : Edge) (es : Address) (l : Link) (ls : List Link) → edge_eq l.edge e ≡ true → AllByRecursion (IsLinkBefore l) ls → any_link f ns e es ls ≡ false
none_behind f ns e es l [] same all = refl
none_behind f ns e es l (m ∷ ms) same all =
    ap (λ b. (b && at_path f ns m.number es) || any_link f ns e es ms) (other e l m same all.0) ∙ none_behind f ns e es l ms same all.1

pub by_number : (f : Option NodeData → Bool) (ns : Table) (e : Edge) (es : Address) (ls : List Link) → Ascend ls → any_link f ns e es ls ≡ option_map_or (λ n. at_path f ns n es) (number_at e ls) false
by_number f ns e es [] up = refl
by_number f ns e es (l ∷ ls) up = by (edge_eq l.edge e) refl (by_number f ns e es ls up.1) where
  by : (b : Bool) → edge_eq l.edge e ≡ b → any_link f ns e es ls ≡ option_map_or (λ n. at_path f ns n es) (number_at e ls) false →
      ((b && at_path f ns l.number es) || any_link f ns e es ls) ≡ option_map_or (λ n. at_path f ns n es) (option_map (λ m. m.number) (cond b (Some l) (find (λ m. edge_eq m.edge e) ls))) false
  by true same later = ap (λ b. at_path f ns l.number es || b) (none_behind f ns e es l ls same up.0) ∙ or_false (at_path f ns l.number es)
  by false same later = later

-- what holds of the numbers of all links holds of the one that is found
number_of : (P : ℕ → Type 0) (e : Edge) (n : ℕ) (ls : List Link) → AllByRecursion (λ l. P l.number) ls → number_at e ls ≡ Some n → P n
number_of P e n [] all is = cc
number_of P e n (l ∷ ls) all is = by (edge_eq l.edge e) is (number_of P e n ls all.1) where
  by : (b : Bool) → option_map (λ m. m.number) (cond b (Some l) (find (λ m. edge_eq m.edge e) ls)) ≡ Some n → (number_at e ls ≡ Some n → P n) → P n
  by true h later = let same : l.number ≡ n = cc in subst P same all.0
  by false h later = later h

-- the number that is found is that of a later node
number_within : (ns : Table) (i : ℕ) (e : Edge) (n : ℕ) → IsTable ns → number_at e (links_at ns i) ≡ Some n → (i < n) × (n < length ns)
number_within ns i e n table is = number_of (λ m. (i < m) × (m < length ns)) e n (links_at ns i) (table.closed.each i (omega arith)) is

pub found : (ns : Table) (i : ℕ) (e : Edge) (n : ℕ) → IsTable ns → number_at e (links_at ns i) ≡ Some n → LeadsTo e (record { nodes = ns; number = i }) (record { nodes = ns; number = n })
found ns i e n table is = record {
  there = is_some_within ns n (number_within ns i e n table is).1;
  table = refl;
  later = (number_within ns i e n table is).0;
  paths = λ es. by_number is_some ns e es (links_at ns i) (table.ordered.each i (omega arith)) ∙ ap (λ o. option_map_or (λ n. at_path is_some ns n es) o false) is;
  marks = λ es. by_number has_mark ns e es (links_at ns i) (table.ordered.each i (omega arith)) ∙ ap (λ o. option_map_or (λ n. at_path has_mark ns n es) o false) is;
}

pub not_found : (ns : Table) (i : ℕ) (e : Edge) → IsTable ns → number_at e (links_at ns i) ≡ None → LeadsNowhere e (record { nodes = ns; number = i })
not_found ns i e table is = λ es. by_number is_some ns e es (links_at ns i) (table.ordered.each i (omega arith)) ∙ ap (λ o. option_map_or (λ n. at_path is_some ns n es) o false) is
