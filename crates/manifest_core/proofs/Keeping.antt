-- Links that are kept of a node, one by one.
use Rattle.std.proofs.Common.{◌≡◌, ℕ, zero, suc, is_some, ◌≤◌, ◌+◌, ◌<◌, inl, inr, Bool, true, false, ◌&&◌, ◌||◌, List, [], ◌∷◌, ◌++◌, Option, Some, length, drop, get_or, refl, sym, subst, ap, ◌∙◌, arith, drop-cons}
use Rattle.std.specs.Prelude.{slice_set, slice_get}
use Rattle.std.specs.List.{AllByRecursion}
use Rattle.policy_values.specs.Ties.{equal_of}
use Rattle.access_tries.specs.declared.edge.Edge.{Edge}
use Rattle.access_tries.specs.declared.table.Link.{Link}
use Rattle.access_tries.specs.Edges.{Address, edge_cmp, edge_eq}
use Rattle.entity_store.specs.declared.request.RequestType.{RequestType}
use Rattle.schema_types.specs.Ty.{never}
use Rattle.schema_core.specs.Schema.{SchemaData}
use Rattle.access_tries.specs.Table.{Table, NodeData, at_path, leads, is_marked, links_at, Ascend}
use Rattle.manifest_core.specs.Mismatches.{is_declared_address, KeepsDeclared}
use Rattle.access_tries.specs.Walks.{any_link, Keeps, IsBeforeAll}
use Rattle.access_tries.specs.EdgeLaws.{exact_edge}
use Rattle.access_tries.proofs.Unions.{IsUniting}
use Rattle.access_tries.proofs.Merging.{IsMerging, merging_step, before_own}
use Rattle.access_tries.proofs.Making.{any_more, here_at_end, below_at_end}
use Rattle.plain_lemmas.proofs.Booleans.{and_false, or_false}
use Rattle.access_tries.specs.SameLaws.{edge_is}

-- what the links lead to, and what is left of the others, is what all lead to, as far as the test passes
pub record IsKept (f : Option NodeData → Bool) (d : Address → Bool) (ns : Table) (links : List Link) (x : Table) (left xs : List Link) : Type 0 where
  pub all : (e : Edge) (es : Address) → (any_link f ns e es links || (any_link f x e es left && d (e ∷ es))) ≡ (any_link f x e es xs && d (e ∷ es))

-- the first of what is left
pub next_is : (xs : List Link) (p : ℕ) (l : Link) → p < length xs → l ≡ get_or xs p l → drop p xs ≡ l ∷ drop (p + 1) xs
next_is xs p l h is = let e : suc p ≡ p + 1 = omega arith in drop-cons xs p l h ∙ ap (λ m. m ∷ drop (suc p) xs) (sym is) ∙ ap (λ k. l ∷ drop k xs) e

skipped : (c p r d : Bool) → (c ≡ true → d ≡ false) → (((c && p) || r) && d) ≡ (r && d)
skipped false p r d h = refl
skipped true p r d h = ap (λ b. (p || r) && b) (h refl) ∙ and_false (p || r) ∙ sym (ap (λ b. r && b) (h refl) ∙ and_false r)

once : (p r d : Bool) → ((p && d) || (r && d)) ≡ ((p || r) && d)
once false r d = refl
once true r true = refl
once true true false = refl
once true false false = refl

taken : (a c p q r d u : Bool) → q ≡ (p && u) → (c ≡ true → d ≡ u) → ((a || (c && q)) || (r && d)) ≡ (a || (((c && p) || r) && d))
taken true c p q r d u e h = refl
taken false false p q r d u e h = refl
taken false true p q r d u e h = ap (λ b. b || (r && d)) (e ∙ sym (ap (λ b. p && b) (h refl))) ∙ once p r d

module _ (f : Option NodeData → Bool) (d : Address → Bool) (x : Table) (xs : List Link) (p : ℕ) (l : Link) (lt : p < length xs) (is : l ≡ get_or xs p l) where
  -- a link that is not kept: nothing behind its edge passes
  pub kept_without : (ns : Table) (links : List Link) → ((es : Address) → d (l.edge ∷ es) ≡ false) → IsKept f d ns links x (drop p xs) xs → IsKept f d ns links x (drop (p + 1) xs) xs
  kept_without ns links none k = record {
    all = λ e es.
        sym (ap (λ ls. any_link f ns e es links || (any_link f x e es ls && d (e ∷ es))) (next_is xs p l lt is)
        ∙ ap (λ b. any_link f ns e es links || b) (skipped (edge_eq l.edge e) (at_path f x l.number es) (any_link f x e es (drop (p + 1) xs)) (d (e ∷ es)) (λ s. subst (λ a. d (a ∷ es) ≡ false) (edge_is l.edge e s) (none es))))
        ∙ k.all e es;
  }

  -- a link that is kept, with what passes behind it
  pub kept_with : (at : ℕ) (old ns ms : Table) (links : List Link) (n : ℕ) (u : Address → Bool) → IsUniting at old ns links → Keeps (length ns) ns ms → ((es : Address) → at_path f ms n es ≡ (at_path f x l.number es && u es)) → ((es : Address) → d (l.edge ∷ es) ≡ u es) →
      IsKept f d ns links x (drop p xs) xs → IsKept f d ms (links ++ record { edge = l.edge; number = n } ∷ []) x (drop (p + 1) xs) xs
  kept_with at old ns ms links n u uniting keeps below behind k = record {
    all = λ e es.
        ap (λ b. b || (any_link f x e es (drop (p + 1) xs) && d (e ∷ es))) (any_more f at old ns ms links l.edge n uniting keeps e es)
        ∙ taken (any_link f ns e es links) (edge_eq l.edge e) (at_path f x l.number es) (at_path f ms n es) (any_link f x e es (drop (p + 1) xs)) (d (e ∷ es)) (u es) (below es) (λ s. subst (λ a. d (a ∷ es) ≡ u es) (edge_is l.edge e s) (behind es))
        ∙ sym (ap (λ ls. any_link f ns e es links || (any_link f x e es ls && d (e ∷ es))) (next_is xs p l lt is))
        ∙ k.all e es;
  }

-- the node in its place, once no link is left
pub kept_in_place : (f : Option NodeData → Bool) (d : Address → Bool) (at : ℕ) (old ns x : Table) (node : NodeData) (i : ℕ) (xs left : List Link) →
    at < length ns → IsUniting at old ns node.links → IsKept f d ns node.links x left xs → left ≡ [] → xs ≡ links_at x i → f (Some node) ≡ f (slice_get x i) → d [] ≡ true →
    (a : Address) → at_path f (slice_set ns at node) at a ≡ (at_path f x i a && d a)
kept_in_place f d at old ns x node i xs left h u k none is here start [] = here_at_end f at old ns node h u ∙ here ∙ sym (ap (λ b. f (slice_get x i) && b) start ∙ and_true (f (slice_get x i)))
  where
    and_true : (a : Bool) → (a && true) ≡ a
    and_true true = refl
    and_true false = refl
kept_in_place f d at old ns x node i xs left h u k none is here start (e ∷ es) =
    below_at_end f at old ns node h u e es
    ∙ sym (ap (λ ls. any_link f ns e es node.links || (any_link f x e es ls && d (e ∷ es))) none ∙ or_false (any_link f ns e es node.links))
    ∙ k.all e es
    ∙ ap (λ ls. any_link f x e es ls && d (e ∷ es)) is

-- the links so far stay in order before what is left, whether the next one is kept or not
module _ (links xs : List Link) (p : ℕ) (l : Link) (lt : p < length xs) (is : l ≡ get_or xs p l) where
  each_so : {P Q : Link → Type 0} → ((m : Link) → P m → Q m) → (ls : List Link) → AllByRecursion P ls → AllByRecursion Q ls
  each_so f [] h = tt
  each_so f (m ∷ ls) h = (f m h.0, each_so f ls h.1)

  pub order_without : IsMerging links (drop p xs) [] → IsMerging links (drop (p + 1) xs) []
  order_without m = record {
    up = m.up;
    before_left = each_so (λ k h. (subst (IsBeforeAll k.edge) (next_is xs p l lt is) h).1) links m.before_left;
    before_right = m.before_right;
    left_up = (subst Ascend (next_is xs p l lt is) m.left_up).1;
    right_up = m.right_up;
  }

  pub order_with : (n : ℕ) → IsMerging links (drop p xs) [] → IsMerging (links ++ record { edge = l.edge; number = n } ∷ []) (drop (p + 1) xs) []
  order_with n m = merging_step links xs [] p 0 0 0 l.number 0 (p + 1) 0 n l.edge m (inr (lt, refl, next_is xs p l lt is)) (inl (refl, refl)) (omega arith) (before_own xs p l lt is m.left_up) tt

pub none_left : (xs : List Link) (p : ℕ) → length xs ≤ p → drop p xs ≡ []
none_left [] zero h = refl
none_left [] (suc p) h = refl
none_left (x ∷ xs) zero h = absurd (omega (arith, h))
none_left (x ∷ xs) (suc p) h = none_left xs p (omega (arith, h))

pub is_there : (ns : Table) (i : ℕ) → i < length ns → true ≡ is_some (slice_get ns i)
is_there [] i h = absurd (omega (arith, h))
is_there (n ∷ ns) zero h = refl
is_there (n ∷ ns) (suc i) h = is_there ns i (omega (arith, h))

pub no_nodes : (ns : Table) → length ns ≡ 0 → ns ≡ []
no_nodes [] h = refl
no_nodes (n ∷ ns) h = absurd (omega (arith, h))

pub none_typed : (s : SchemaData) (t : RequestType) → KeepsDeclared s t [] []
none_typed s t = record { paths = nowhere; marks = unmarked }
  where
    nowhere : (es : Address) → leads [] es ≡ (leads [] es && is_declared_address s t never es)
    nowhere [] = refl
    nowhere (e ∷ es) = refl

    unmarked : (es : Address) → is_marked [] es ≡ (is_marked [] es && is_declared_address s t never es)
    unmarked [] = refl
    unmarked (e ∷ es) = refl
