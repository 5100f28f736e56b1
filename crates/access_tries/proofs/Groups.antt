-- A node that is made group by group of addresses in their order.
use Rattle.std.proofs.Common.{◌≡◌, ℕ, zero, suc, ◌<◌, ◌≤◌, Bool, true, false, ◌&&◌, ◌||◌, List, [], ◌∷◌, ◌++◌, Option, Some, None, Bor, map, drop, length, get_or, refl, sym, ap, ◌∙◌, arith}
use Rattle.std.specs.Prelude.{slice_get, slice_set}
use Rattle.std.specs.List.{AllByRecursion, list_any}
use Rattle.access_tries.specs.declared.edge.Edge.{Edge}
use Rattle.access_tries.specs.declared.table.Link.{Link}
use Rattle.access_tries.specs.Edges.{Address, edge_eq}
use Rattle.access_tries.specs.Table.{Table, NodeData, Ascend, at_path, links_at}
use Rattle.access_tries.specs.Paths.{is_prefix_of, is_same}
use Rattle.access_tries.specs.Tails.{tails, Rise, run}
use Rattle.access_tries.specs.Walks.{any_link, Keeps}
use Rattle.access_tries.proofs.Making.{any_more, here_at_end, below_at_end}
use Rattle.access_tries.proofs.Merging.{ascend_more}
use Rattle.access_tries.proofs.Tails.{IsBeyond, IsParted, rises_after, all_after, beyond_group, open_after_ends, rises_after_ends, same_after_ends}
use Rattle.access_tries.proofs.Unions.{IsUniting}
use Rattle.plain_lemmas.proofs.Booleans.{or_assoc, or_assoc_left, or_false, and_false}
use Rattle.plain_lemmas.proofs.Lists.{all_weaker, all_push}

slot_before : (old : Table) (n : NodeData) (k : ℕ) → k < length old → slice_get (old ++ n ∷ []) k ≡ slice_get old k
slot_before [] n k h = absurd (omega (arith, h))
slot_before (o ∷ os) n zero h = refl
slot_before (o ∷ os) n (suc k) h = slot_before os n k (omega (arith, h))

-- the new node leads nowhere yet, and behind it there is none
no_links : (old : Table) (n : NodeData) → n.links ≡ [] → (k : ℕ) → length old ≤ k → links_at (old ++ n ∷ []) k ≡ []
no_links [] n l zero h = l
no_links [] n l (suc k) h = refl
no_links (o ∷ os) n l zero h = absurd (omega (arith, h))
no_links (o ∷ os) n l (suc k) h = no_links os n l k (omega (arith, h))

pub uniting_start : (old : Table) (n : NodeData) → n.links ≡ [] → IsUniting (length old) old (old ++ n ∷ []) []
uniting_start old n l = record {
  kept = λ k h. slot_before old n k h;
  closed = record { each = λ i h. rw (no_links old n l i h) tt };
  ordered = record { each = λ i h. rw (no_links old n l i h) tt };
  down = tt;
}

-- whether one of the addresses goes on from these edges, and whether one is these edges and is marked
abbrev pub any_prefix : Address → List Address → Bool
any_prefix a ts = list_any (is_prefix_of a) ts

abbrev pub any_marked : Bool → Address → List Address → Bool
any_marked mark a ts = mark && list_any (is_same a) ts

-- what is searched along an edge is searched behind it in the addresses that begin with it
pub record IsSearch (h : Address → List Address → Bool) : Type 0 where
  pub none : (e : Edge) (es : Address) → h (e ∷ es) [] ≡ false
  pub ends : (e : Edge) (es : Address) (ts : List Address) → h (e ∷ es) (drop (run None ts) ts) ≡ h (e ∷ es) ts
  pub grouped : (x e : Edge) (es : Address) (below after : List Address) → h (x ∷ es) (map (λ t. e ∷ t) below ++ after) ≡ ((edge_eq e x && h es below) || h (x ∷ es) after)

spread : (e p l a : Bool) → ((e && p) || ((e && l) || a)) ≡ ((e && (p || l)) || a)
spread true p l a = or_assoc_left p l a
spread false p l a = refl

any_grouped : (p : Address → Address → Bool) (x e : Edge) (es : Address) → ((t : Address) → p (x ∷ es) (e ∷ t) ≡ (edge_eq e x && p es t)) →
    (below after : List Address) → list_any (p (x ∷ es)) (map (λ t. e ∷ t) below ++ after) ≡ ((edge_eq e x && list_any (p es) below) || list_any (p (x ∷ es)) after)
any_grouped p x e es h [] after = sym (ap (λ b. b || list_any (p (x ∷ es)) after) (and_false (edge_eq e x)))
any_grouped p x e es h (t ∷ ts) after =
    (λ i. h t i || any_grouped p x e es h ts after i) ∙ spread (edge_eq e x) (p es t) (list_any (p es) ts) (list_any (p (x ∷ es)) after)

pub searches_prefixes : IsSearch any_prefix
searches_prefixes = record {
  none = λ e es. refl;
  ends = λ e es ts. same_after_ends is_prefix_of e es refl ts;
  grouped = λ x e es below after. any_grouped is_prefix_of x e es (λ t. refl) below after;
}

pub searches_marked : (mark : Bool) → IsSearch (any_marked mark)
searches_marked true = record {
  none = λ e es. refl;
  ends = λ e es ts. same_after_ends is_same e es refl ts;
  grouped = λ x e es below after. any_grouped is_same x e es (λ t. refl) below after;
}
searches_marked false = record {
  none = λ e es. refl;
  ends = λ e es ts. refl;
  grouped = λ x e es below after. sym (or_false (edge_eq e x && false) ∙ and_false (edge_eq e x));
}

-- where the links lead, with what is left of the addresses, is what all say
pub record IsGathered (f : Option NodeData → Bool) (h : Address → List Address → Bool) (ns : Table) (links : List Link) (left all : List Address) : Type 0 where
  pub each : (e : Edge) (es : Address) → (any_link f ns e es links || h (e ∷ es) left) ≡ h (e ∷ es) all

pub gather_start : (f : Option NodeData → Bool) (h : Address → List Address → Bool) (ns : Table) (all : List Address) → IsSearch h → IsGathered f h ns [] (drop (run None all) all) all
gather_start f h ns all s = record { each = λ e es. s.ends e es all }

pub gather_step : (f : Option NodeData → Bool) (h : Address → List Address → Bool) (at : ℕ) (old ns ms : Table) (links : List Link) (edge : Edge) (n : ℕ) (below after left all : List Address) →
    IsSearch h → IsUniting at old ns links → Keeps (length ns) ns ms → IsParted edge below after left → ((a : Address) → at_path f ms n a ≡ h a below) →
    IsGathered f h ns links left all → IsGathered f h ms (links ++ record { edge = edge; number = n } ∷ []) after all
gather_step f h at old ns ms links edge n below after left all s u k p w g = record {
  each = λ e es.
      ap (λ b. b || h (e ∷ es) after) (any_more f at old ns ms links edge n u k e es ∙ ap (λ b. any_link f ns e es links || (edge_eq edge e && b)) (w es))
      ∙ or_assoc (any_link f ns e es links) (edge_eq edge e && h es below) (h (e ∷ es) after)
      ∙ ap (λ b. any_link f ns e es links || b) (sym (ap (h (e ∷ es)) p.parts ∙ s.grouped e edge es below after))
      ∙ g.each e es;
}

pub gather_end : (f : Option NodeData → Bool) (h : Address → List Address → Bool) (at : ℕ) (old ns : Table) (node : NodeData) (all : List Address) → at < length ns → IsSearch h → IsUniting at old ns node.links →
    IsGathered f h ns node.links [] all → f (Some node) ≡ h [] all → (a : Address) → at_path f (slice_set ns at node) at a ≡ h a all
gather_end f h at old ns node all lt s u g m [] = here_at_end f at old ns node lt u ∙ m
gather_end f h at old ns node all lt s u g m (e ∷ es) =
    below_at_end f at old ns node lt u e es ∙ sym (or_false (any_link f ns e es node.links))
    ∙ ap (λ b. any_link f ns e es node.links || b) (sym (s.none e es)) ∙ g.each e es

-- the links so far ascend, and come before what is left, which is in order and goes on
pub record IsGrouping (links : List Link) (left : List Address) : Type 0 where
  pub up : Ascend links
  pub before : AllByRecursion (λ l. AllByRecursion (IsBeyond l.edge) left) links
  pub rise : Rise left
  pub further : AllByRecursion (λ t. 0 < length t) left

pub grouping_start : (ts : List Address) → Rise ts → IsGrouping [] (drop (run None ts) ts)
grouping_start ts r = record { up = tt; before = tt; rise = rises_after_ends ts r; further = open_after_ends ts r }

pub grouping_step : (links : List Link) (e : Edge) (n : ℕ) (below after left : List Address) → 0 < length below → IsParted e below after left → IsGrouping links left → IsGrouping (links ++ record { edge = e; number = n } ∷ []) after
grouping_step links e n below after left some p g = record {
  up = ascend_more links (record { edge = e; number = n }) g.up (all_weaker (λ l h. beyond_group e below after left p l.edge some h) links g.before);
  before = all_push (λ l. AllByRecursion (IsBeyond l.edge) after) links (record { edge = e; number = n }) (all_weaker (λ l h. all_after e below after left p (IsBeyond l.edge) h) links g.before) p.beyond;
  rise = rises_after e below after left p g.rise;
  further = all_after e below after left p (λ t. 0 < length t) g.further;
}

nothing_dropped : {X : Type 0} (d : ℕ) (xs : List X) → length xs < 1 → 0 < length (drop d xs) → ⊥
nothing_dropped zero xs k h = omega (arith, h, k)
nothing_dropped (suc d) [] k h = omega (arith, h)
nothing_dropped (suc d) (x ∷ xs) k h = omega (arith, k)

within_of_drop : {X : Type 0} (d : ℕ) (xs : List X) → 0 < length (drop d xs) → d < length xs
within_of_drop d [] h = absurd (nothing_dropped d [] (omega arith) h)
within_of_drop zero (x ∷ xs) h = h
within_of_drop (suc d) (x ∷ xs) h = omega (arith, within_of_drop d xs h)

-- the first of what is left has an edge there
pub first_further : (d : ℕ) (rest : List (Bor Address)) (a : Bor Address) → 0 < length rest → a ≡ get_or rest 0 a → AllByRecursion (λ t. 0 < length t) (tails d rest) → d < length a.now
first_further d [] a some is h = absurd (omega (arith, some))
first_further d (b ∷ bs) a some is h = rw is (within_of_drop d b.now h.0)
