-- The entities of the rows, and what a look-up finds among them.
use Rattle.std.proofs.Common.{◌≡◌, List, [], ◌∷◌, map, length, Bool, true, false, cond, if◌then◌else◌, Option, Some, None, refl, sym, ap, ◌∙◌, subst, arith}
use Rattle.std.specs.Prelude.{filter, IsPermutation, option_and_then, IfSome}
use Rattle.std.specs.Ordering.{is_eq}
use Rattle.std.proofs.lemmas.List.Sorted.{length_permutation}
use Rattle.std.proofs.ByRecursion.{all_shuffled}
use Rattle.std.specs.List.{AllByRecursion}
use Rattle.sqlite.specs.Order.{Row, column}
use Rattle.policy_values.specs.declared.entity_uid.EntityUID.{EntityUID}
use Rattle.policy_values.specs.Uid.{uid_cmp}
use Rattle.entity_store.specs.Store.{StoredEntity, entity_at, is_named}
use Rattle.entity_files.specs.Table.{is_of, cell, AreCells}
use Rattle.entity_files.specs.Rows.{cell_entity, row_entity, with_row, row_entities, IsRowFound}
use Rattle.entity_files.proofs.Placed.{same_id, itself}

pub named : (u : EntityUID) (e : StoredEntity) → e.uid ≡ u → is_named u e ≡ true
named u e id = ap (λ y. is_eq (uid_cmp u y)) id ∙ ap is_eq (itself u)

-- ---- rows that are and are not of an id

pub row_is : (r : Row) (e : StoredEntity) → row_entity r ≡ Some e → is_of e.uid.entity_type e.uid.eid r ≡ true
row_is r e h = by (cell_entity (column r 4)) h
  where
    inner : (f : StoredEntity) (b : Bool) → is_of f.uid.entity_type f.uid.eid r ≡ b → (if b then Some f else None) ≡ Some e → is_of e.uid.entity_type e.uid.eid r ≡ true
    inner f true is k = let same : f ≡ e = cc in subst (λ g. is_of g.uid.entity_type g.uid.eid r ≡ true) same is
    inner f false is k = absurd (cc)

    by : (o : Option StoredEntity) → option_and_then (λ f. if is_of f.uid.entity_type f.uid.eid r then Some f else None) o ≡ Some e → is_of e.uid.entity_type e.uid.eid r ≡ true
    by None k = absurd (cc)
    by (Some f) k = inner f (is_of f.uid.entity_type f.uid.eid r) refl k

entity_is : (r : Row) (e : StoredEntity) (u : EntityUID) → cell_entity (column r 4) ≡ Some e → e.uid ≡ u → is_of u.entity_type u.eid r ≡ true → row_entity r ≡ Some e
entity_is r e u spelled id of =
    ap (option_and_then (λ f. if is_of f.uid.entity_type f.uid.eid r then Some f else None)) spelled
    ∙ ap (λ b. if b then Some e else None) (subst (λ v. is_of v.entity_type v.eid r ≡ true) (sym id) of)

skip : (u : EntityUID) (r : Row) → is_of u.entity_type u.eid r ≡ false → (s : List StoredEntity) → entity_at (with_row (row_entity r) s) u ≡ entity_at s u
skip u r not s = by_row (row_entity r) refl
  where
    other : (e : StoredEntity) → row_entity r ≡ Some e → (b : Bool) → is_named u e ≡ b → cond b (Some e) (entity_at s u) ≡ entity_at s u
    other e is true n =
        let of : is_of u.entity_type u.eid r ≡ true = subst (λ v. is_of v.entity_type v.eid r ≡ true) (sym (same_id u e.uid n)) (row_is r e is) in
        let both : true ≡ false = sym of ∙ not in absurd (cc)
    other e is false n = refl

    by_row : (o : Option StoredEntity) → row_entity r ≡ o → entity_at (with_row o s) u ≡ entity_at s u
    by_row None is = refl
    by_row (Some e) is = other e is (is_named u e) refl

pub nothing : (u : EntityUID) (rs : List Row) → filter (is_of u.entity_type u.eid) rs ≡ [] → entity_at (row_entities rs) u ≡ None
nothing u [] h = refl
nothing u (r ∷ rs) h = by (is_of u.entity_type u.eid r) refl h (nothing u rs)
  where
    by : (b : Bool) → is_of u.entity_type u.eid r ≡ b → cond b (r ∷ filter (is_of u.entity_type u.eid) rs) (filter (is_of u.entity_type u.eid) rs) ≡ []
        → (filter (is_of u.entity_type u.eid) rs ≡ [] → entity_at (row_entities rs) u ≡ None) → entity_at (with_row (row_entity r) (row_entities rs)) u ≡ None
    by true is k rest = absurd (cc)
    by false is k rest = skip u r is (row_entities rs) ∙ rest k

pub one : (u : EntityUID) (rs : List Row) (r : Row) (e : StoredEntity) → filter (is_of u.entity_type u.eid) rs ≡ r ∷ [] → cell_entity (column r 4) ≡ Some e → e.uid ≡ u
    → entity_at (row_entities rs) u ≡ Some e
one u [] r e h spelled id = absurd (cc)
one u (x ∷ xs) r e h spelled id = by (is_of u.entity_type u.eid x) refl h (λ k. one u xs r e k spelled id)
  where
    by : (b : Bool) → is_of u.entity_type u.eid x ≡ b → cond b (x ∷ filter (is_of u.entity_type u.eid) xs) (filter (is_of u.entity_type u.eid) xs) ≡ r ∷ []
        → (filter (is_of u.entity_type u.eid) xs ≡ r ∷ [] → entity_at (row_entities xs) u ≡ Some e) → entity_at (with_row (row_entity x) (row_entities xs)) u ≡ Some e
    by true is k rest =
        let same : x ≡ r = cc in
        let here : row_entity x ≡ Some e = entity_is x e u (ap (λ y. cell_entity (column y 4)) same ∙ spelled) id is in
        ap (λ o. entity_at (with_row o (row_entities xs)) u) here ∙ ap (λ b. cond b (Some e) (entity_at (row_entities xs) u)) (named u e id)
    by false is k rest = skip u x is (row_entities xs) ∙ rest k

-- ---- what a look-up shows

no_cells : (rs : List Row) (shown : List Row) → IsPermutation (map cell rs) shown → shown ≡ [] → rs ≡ []
no_cells [] shown p is = refl
no_cells (r ∷ rs) shown p is = let long = length_permutation (map cell (r ∷ rs)) shown p in let clash : 0 ≡ length (map cell (r ∷ rs)) = ap length (sym is) ∙ long in absurd (omega (arith, clash))

one_cell : (rs : List Row) (shown : List Row) (c : Row) → IsPermutation (map cell rs) shown → shown ≡ c ∷ [] → (r : Row) × (rs ≡ r ∷ []) × (c ≡ cell r)
one_cell [] shown c p is = let clash : 1 ≡ 0 = ap length (sym is) ∙ length_permutation [] shown p in absurd (omega (arith, clash))
one_cell (r ∷ []) shown c p is =
    let all : AllByRecursion (λ y. y ≡ cell r) shown = all_shuffled (λ y. y ≡ cell r) (cell r ∷ []) shown p (refl, tt) in
    (r, refl, (subst (AllByRecursion (λ y. y ≡ cell r)) is all).0)
one_cell (r ∷ x ∷ rs) shown c p is =
    let clash : 1 ≡ length (map cell (r ∷ x ∷ rs)) = ap length (sym is) ∙ length_permutation (map cell (r ∷ x ∷ rs)) shown p in absurd (omega (arith, clash))

-- what was found by an id is the entity of the rows
pub found_is : (rs : List Row) (u : EntityUID) (shown : List Row) (o : Option StoredEntity) → AreCells rs u.entity_type u.eid shown → IsRowFound shown u o → o ≡ entity_at (row_entities rs) u
found_is rs u shown None p h = sym (nothing u rs (no_cells (filter (is_of u.entity_type u.eid) rs) shown p h))
found_is rs u shown (Some e) p h =
    let at = one_cell (filter (is_of u.entity_type u.eid) rs) shown h.0 p h.1 in
    sym (one u rs at.0 e at.1 (subst (λ c. cell_entity (column c 0) ≡ Some e) at.2 h.2) h.3)

pub found_id : (u : EntityUID) (shown : List Row) (o : Option StoredEntity) → IsRowFound shown u o → IfSome o (λ e. e.uid ≡ u)
found_id u shown None h = tt
found_id u shown (Some e) h = h.3
