-- Where the links of a node lead.
use Rattle.std.proofs.Common.{◌≡◌, ℕ, zero, suc, ◌<◌, Bool, true, ◌&&◌, List, [], ◌∷◌, length, map, get_or, refl, sym, ap, ◌∙◌, arith, is_some}
use Rattle.std.specs.List.{AllByRecursion}
use Rattle.std.specs.Cmp.{nat_cmp_total}
use Rattle.std.proofs.lemmas.Bool.{and_from}
use Rattle.std.proofs.lemmas.Cmp.{tied_itself, nat_list_cmp_total}
use Rattle.std.proofs.lemmas.List.Folds.{list_any_at}
use Rattle.access_tries.specs.declared.edge.Edge.{Edge}
use Rattle.access_tries.specs.declared.edge.Edge.TheVariants.{Field, AnyTag, Root}
use Rattle.access_tries.specs.declared.edge.EntityRoot.{EntityRoot}
use Rattle.access_tries.specs.declared.table.Link.{Link}
use Rattle.access_tries.specs.Edges.{Address, rank, first_text, second_text, edge_eq}
use Rattle.access_tries.specs.Paths.{edge_of}
use Rattle.access_tries.specs.Table.{Table, NodeData, at_path, has_mark, links_at, IsTable}
use Rattle.std.specs.declared.option.Option.{Option}
use Rattle.reads_spec.specs.Paths.{Step, along, any_tag}
use Rattle.entity_loading.specs.CannotGoOn.{tests_of, is_step, GoesOn, MarksSome, Demands}
use Rattle.plain_lemmas.proofs.Lists.{is_some_within}

pub edge_self : (e : Edge) → edge_eq e e ≡ true
edge_self e = rw (tied_itself nat_cmp_total (rank e), tied_itself nat_list_cmp_total (first_text e), tied_itself nat_list_cmp_total (second_text e)) refl

all_at : {X : Type 0} (P : X → Type 0) (xs : List X) (i : ℕ) (d : X) → i < length xs → AllByRecursion P xs → P (get_or xs i d)
all_at P [] i d h a = absurd (omega (arith, h))
all_at P (x ∷ xs) zero d h a = a.0
all_at P (x ∷ xs) (suc i) d h a = all_at P xs i d (omega (arith, h)) a.1

step_of : (e : Edge) → is_step e ≡ true → (n : Step) × (edge_of n ≡ e)
step_of (Field n) h = (along n, refl)
step_of AnyTag h = (any_tag, refl)
step_of (Root r) h = cc

module _ (ns : Table) (i k : ℕ) (l : Link) (t : IsTable ns) (links : List Link) (all : links ≡ links_at ns i) (in_links : k < length links) (at : l ≡ get_or links k l) where
  h : k < length (links_at ns i)
  h = rw (sym all) in_links

  is : l ≡ get_or (links_at ns i) k l
  is = at ∙ ap (λ ls. get_or ls k l) all

  pub number_in : (i < l.number) × (l.number < length ns)
  number_in = rw is (all_at (λ m. (i < m.number) × (m.number < length ns)) (links_at ns i) k l h (t.closed.each i (omega arith)))

  pub link_leads : (f : Option NodeData → Bool) (es : Address) → at_path f ns l.number es ≡ true → at_path f ns i (l.edge ∷ es) ≡ true
  link_leads f es p =
      list_any_at (λ m. edge_eq m.edge l.edge && at_path f ns m.number es) (links_at ns i) k l h
      (ap (λ m. edge_eq m.edge l.edge && at_path f ns m.number es) (sym is) ∙ and_from (edge_eq l.edge l.edge) (at_path f ns l.number es) (edge_self l.edge) p)

  pub link_goes_on : is_step l.edge ≡ true → GoesOn (tests_of (record { nodes = ns; number = i }))
  link_goes_on s = let n = step_of l.edge s in (n.0, ap (λ e. at_path is_some ns i (e ∷ [])) n.1 ∙ link_leads is_some [] (is_some_within ns l.number number_in.1))

  pub link_marks : is_step l.edge ≡ true → MarksSome (tests_of (record { nodes = ns; number = l.number })) → MarksSome (tests_of (record { nodes = ns; number = i }))
  link_marks s m = let n = step_of l.edge s in (n.0 ∷ m.0, ap (λ e. at_path has_mark ns i (e ∷ map edge_of m.0)) n.1 ∙ link_leads has_mark (map edge_of m.0) m.1)

  pub link_demands : (r : EntityRoot) → l.edge ≡ Root r → MarksSome (tests_of (record { nodes = ns; number = l.number })) → Demands (tests_of (record { nodes = ns; number = i }))
  link_demands r e m = (r, m.0, ap (λ d. at_path has_mark ns i (d ∷ map edge_of m.0)) (sym e) ∙ link_leads has_mark (map edge_of m.0) m.1)
