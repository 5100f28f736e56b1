-- What rows are asked for is at least what the trie asks for: a path leads on only where its first step does.
use Rattle.std.proofs.Common.{◌≡◌, ℕ, Bool, true, false, ◌&&◌, ◌||◌, List, [], ◌∷◌, map, Option, Some, None, is_some, refl, ap}
use Rattle.std.specs.Prelude.{slice_get}
use Rattle.std.specs.List.{list_any}
use Rattle.std.specs.Option.{option_map_or}
use Rattle.plain_lemmas.proofs.Booleans.{or_right_true}
use Rattle.access_tries.specs.declared.edge.Edge.{Edge}
use Rattle.access_tries.specs.declared.table.Link.{Link}
use Rattle.access_tries.specs.Edges.{Address, edge_eq}
use Rattle.access_tries.specs.Paths.{edge_of}
use Rattle.access_tries.specs.Table.{Table, NodeData, at_path, links_at}
use Rattle.access_tries.specs.Views.{ViewData, view_leads}
use Rattle.policy_values.specs.declared.entity_uid.EntityUID.{EntityUID}
use Rattle.reads_spec.specs.Paths.{Chain, steps_of, along, any_tag}
use Rattle.entity_loader.specs.Asked.{asked}
use Rattle.table_loader.specs.Answers.{attributes_asked, tags_asked, by_rows, RowAnswersAreHonest}

-- a node from which a path leads on is there
is_some_of_at_path : (ns : Table) (i : ℕ) (es : Address) → at_path is_some ns i es ≡ true → is_some (slice_get ns i) ≡ true
is_some_of_at_path ns i [] h = h
is_some_of_at_path ns i (e ∷ es) h = by (slice_get ns i) h
  where
    by : (o : Option NodeData) → list_any (λ l. edge_eq l.edge e && at_path is_some ns l.number es) (option_map_or (λ n. n.links) o []) ≡ true → is_some o ≡ true
    by None k = absurd (cc)
    by (Some n) k = refl

-- among links a path leads on only where its first edge does
any_first : (ns : Table) (e : Edge) (es : Address) (ls : List Link) →
    list_any (λ l. edge_eq l.edge e && at_path is_some ns l.number es) ls ≡ true →
    list_any (λ l. edge_eq l.edge e && is_some (slice_get ns l.number)) ls ≡ true
any_first ns e es [] h = h
any_first ns e es (l ∷ ls) h = by (edge_eq l.edge e) (at_path is_some ns l.number es) (is_some_of_at_path ns l.number es) h (any_first ns e es ls)
  where
    by : (a b : Bool) → (b ≡ true → is_some (slice_get ns l.number) ≡ true) →
        ((a && b) || list_any (λ m. edge_eq m.edge e && at_path is_some ns m.number es) ls) ≡ true →
        (list_any (λ m. edge_eq m.edge e && at_path is_some ns m.number es) ls ≡ true → list_any (λ m. edge_eq m.edge e && is_some (slice_get ns m.number)) ls ≡ true) →
        ((a && is_some (slice_get ns l.number)) || list_any (λ m. edge_eq m.edge e && is_some (slice_get ns m.number)) ls) ≡ true
    by true true there k rest = ap (λ c. c || list_any (λ m. edge_eq m.edge e && is_some (slice_get ns m.number)) ls) (there refl)
    by true false there k rest = or_right_true (is_some (slice_get ns l.number)) (list_any (λ m. edge_eq m.edge e && is_some (slice_get ns m.number)) ls) (rest k)
    by false b there k rest = rest k

first_step_leads : (v : ViewData) (e : Edge) (es : Address) → view_leads v (e ∷ es) ≡ true → view_leads v (e ∷ []) ≡ true
first_step_leads v e es h = any_first v.nodes e es (links_at v.nodes v.number) h

pub attributes_enough : (v : ViewData) (uid : EntityUID) (c : Chain) → (asked v).chains uid c ≡ true → attributes_asked v c ≡ true
attributes_enough v uid [] h = refl
attributes_enough v uid (n ∷ c) h = first_step_leads v (edge_of (along n)) (map edge_of (steps_of c)) h

pub tags_enough : (v : ViewData) (uid : EntityUID) (c : Chain) → (asked v).tags uid c ≡ true → tags_asked v c ≡ true
tags_enough v uid [] h = h
tags_enough v uid (k ∷ c) h = first_step_leads v (edge_of any_tag) (map edge_of (steps_of c)) h

pub honest : RowAnswersAreHonest
honest s r e at = record {
  stored = e;
  at = at;
  keep = by_rows r.access_trie;
  is = refl;
  chains = attributes_enough r.access_trie e.uid;
  tags = tags_enough r.access_trie e.uid;
  exactly = λ no. absurd (cc);
}
