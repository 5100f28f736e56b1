-- What the look-up means.
use Rattle.std.proofs.Common.{◌≡◌, List, [], ◌∷◌, ◌++◌, map, ℕ, pos, negsuc, codes, refl, sym, ap, subst, ◌∙◌, Bool, true, false, if◌then◌else◌, ◌&&◌, None, Some, Option, Result, Ok, Err, IfOk, IfErr, IsTrue, inl, inr, Vec, Global, arith}
use Rattle.sqlite.specs.Command.TheVariants.{Select}
use Rattle.std.specs.Prelude.{filter, flat_map, IsPermutation, option_map}
use Rattle.std.proofs.lemmas.List.Sorted.{IsPermutation-map}
use Rattle.sqlite.specs.declared.types.Value.TheVariants.{Null, Int, Text}
use Rattle.sqlite.specs.Term.{lit, col, op2}
use Rattle.sqlite.specs.Collation.TheVariants.{Binary}
use Rattle.sqlite_sql.specs.declared.ops.BinaryOp.TheVariants.{Compare}
use Rattle.sqlite_sql.specs.declared.ops.CompareOp.TheVariants.{Eq}
use Rattle.sqlite.specs.Query.{Query, inner, end, IsAnswer, output, Output}
use Rattle.sqlite_sql.specs.Term.{Env}
use Rattle.sqlite.specs.Order.{Row}
use Rattle.sqlite.specs.Effect.{Database}
use Rattle.sqlite.specs.Compile.{table_defined_by}
use Rattle.sqlite_trees.specs.View.{doubt}
use Rattle.sqlite_resolve.specs.declared.compiled.Compiled.{Compiled}
use Rattle.sqlite_schema.specs.declared.command.Returning.{Returning}
use Rattle.sqlite.specs.declared.error.Error.{Error}
use Rattle.sqlite.specs.Program.{overlay}
use Rattle.sqlite.specs.Tree.{Trees}
use Rattle.sqlite.specs.State.{State, HasCleanDisk, Shown, ShowsRows, FailsToQuery, FailsToShow, IsNotRun, IsUnchanged, Fails, Survives}
use Rattle.sqlite_tied.specs.Compute.{everything}
use Rattle.sqlite.specs.Listing.{understood, reads_listing}
use Rattle.sqlite.proofs.Callers.{IsPlain, command_of, reads_as}
use Rattle.entity_files.specs.Table.{entity, entity_schema, is_of, cell, cells, AreCells, AreAllCells, IsConnectionSound, IsReady, RowsStay, known_rows, Continues}
use Rattle.entity_files.specs.Rows.{row_entities, known_entities, IsRowFound}
use Rattle.policy_values.specs.declared.entity_uid.EntityUID.{EntityUID}
use Rattle.entity_store.specs.Store.{StoredEntity, entity_at}
use Rattle.entity_files.proofs.Stores.{found_is}

abbrev pub select_text : List ℕ
select_text = codes "SELECT json FROM entity WHERE type = ?1 AND eid = ?2"

abbrev create_text : List ℕ
create_text = codes "CREATE TABLE entity (number INTEGER PRIMARY KEY, type TEXT NOT NULL, eid TEXT NOT NULL, json TEXT NOT NULL, UNIQUE (type, eid)) STRICT"

create_is : table_defined_by create_text ≡ Ok entity
unfolding understood everything
create_is = refl

abbrev query : Query
query = record {
  from = inner 0 end;
  filter = op2 (Compare Eq Binary) (col 1 2) (col 0 0) ∷ op2 (Compare Eq Binary) (col 1 3) (col 0 1) ∷ [];
  group = None;
  project = col 1 4 ∷ [];
  distinct = false;
  collations = [];
  order = [];
  limit = lit (Int (negsuc 0));
  offset = lit (Int (pos 0));
}

select_is : (command_of (understood entity_schema select_text) ≡ Select (record { lets = []; body = query }) (codes "json" ∷ [])) × (reads_listing entity_schema select_text ≡ false)
unfolding understood everything
select_is = (refl, refl)

select_plain : IsPlain (understood entity_schema select_text)
unfolding understood everything
select_plain = (refl, refl)

abbrev pub given : List ℕ → List ℕ → Row
given kind eid = Text kind ∷ Text eid ∷ []

-- a row that passes, behind the parameters
abbrev passed : List ℕ → List ℕ → Row → List Env
passed kind eid r = if is_of kind eid r then (given kind eid ∷ r ∷ []) ∷ [] else []

-- the rows that pass show their texts
shows : (kind eid : List ℕ) (table : List Row) → map (λ (o : Output). o.1) (map (output query) (flat_map (passed kind eid) table)) ≡ map cell (filter (is_of kind eid) table)
shows kind eid [] = refl
shows kind eid (r ∷ table) = by_case (shows kind eid table) (is_of kind eid r)
  where
    by_case : map (λ (o : Output). o.1) (map (output query) (flat_map (passed kind eid) table)) ≡ map cell (filter (is_of kind eid) table)
        → (b : Bool) → map (λ (o : Output). o.1) (map (output query) ((if b then (given kind eid ∷ r ∷ []) ∷ [] else []) ++ flat_map (passed kind eid) table)) ≡ map cell (if b then r ∷ filter (is_of kind eid) table else filter (is_of kind eid) table)
    by_case same true = ap (λ xs. cell r ∷ xs) same
    by_case same false = same

pub finds : (old new : State) (kind eid : List ℕ) (rows : List Row) → old.now.schema ≡ entity_schema → Shown select_text (given kind eid) old new rows
    → AreCells (old.now.trees 0) kind eid rows
finds old new kind eid rows has h =
    let got = reads_as select_text (given kind eid) old new entity_schema has _ select_is.0 select_plain select_is.1 rows h in
    let a : IsAnswer query (overlay old.now.trees []) (given kind eid) rows = got.answer Null in
    let kept : a.kept ≡ map (output query) (flat_map (passed kind eid) (old.now.trees 0)) = a.distinct ∙ ap (map (output query)) a.grouped in
    let seconds = IsPermutation-map (λ (o : Output). o.1) a.kept a.ordered a.same in
    let same : map (λ (o : Output). o.1) a.kept ≡ map cell (filter (is_of kind eid) (old.now.trees 0)) = ap (map (λ (o : Output). o.1)) kept ∙ shows kind eid (old.now.trees 0) in
    subst (λ xs. IsPermutation xs rows) same (subst (IsPermutation (map (λ (o : Output). o.1) a.kept)) (sym a.shown) seconds)

pub if_ok : {X E : Type 0} (r : Result X E) (P Q : X → Type 0) → ((x : X) → P x → Q x) → IfOk r P → IfOk r Q
if_ok (Ok x) P Q f h = f x h
if_ok (Err e) P Q f h = tt

pub finds_if : (old new : State) (kind eid : List ℕ) (r : Result (Vec Row Global) Error) → old.now.schema ≡ entity_schema
    → IfOk r (λ rows. Shown select_text (given kind eid) old new rows.items) → IfOk r (λ rows. AreCells (old.now.trees 0) kind eid rows.items)
finds_if old new kind eid (Ok rows) has h = finds old new kind eid rows.items has h
finds_if old new kind eid (Err e) has h = tt

-- ---- all rows

abbrev pub all_text : List ℕ
all_text = codes "SELECT type, eid, json FROM entity"

abbrev all_query : Query
all_query = record query { filter = []; project = col 1 2 ∷ col 1 3 ∷ col 1 4 ∷ [] }

all_is : (command_of (understood entity_schema all_text) ≡ Select (record { lets = []; body = all_query }) (codes "type" ∷ codes "eid" ∷ codes "json" ∷ [])) × (reads_listing entity_schema all_text ≡ false)
unfolding understood everything
all_is = (refl, refl)

all_plain : IsPlain (understood entity_schema all_text)
unfolding understood everything
all_plain = (refl, refl)

-- each row shows its type, its eid and its text
shows_all : (table : List Row) → map (λ (o : Output). o.1) (map (output all_query) (flat_map (λ r. ([] ∷ r ∷ []) ∷ []) table)) ≡ map cells table
shows_all [] = refl
shows_all (r ∷ table) = ap (λ xs. cells r ∷ xs) (shows_all table)

finds_all : (old new : State) (rows : List Row) → old.now.schema ≡ entity_schema → Shown all_text [] old new rows → AreAllCells (old.now.trees 0) rows
finds_all old new rows has h =
    let got = reads_as all_text [] old new entity_schema has _ all_is.0 all_plain all_is.1 rows h in
    let a : IsAnswer all_query (overlay old.now.trees []) [] rows = got.answer Null in
    let kept : a.kept ≡ map (output all_query) (flat_map (λ r. ([] ∷ r ∷ []) ∷ []) (old.now.trees 0)) = a.distinct ∙ ap (map (output all_query)) a.grouped in
    let seconds = IsPermutation-map (λ (o : Output). o.1) a.kept a.ordered a.same in
    let same : map (λ (o : Output). o.1) a.kept ≡ map cells (old.now.trees 0) = ap (map (λ (o : Output). o.1)) kept ∙ shows_all (old.now.trees 0) in
    subst (λ xs. IsPermutation xs rows) same (subst (IsPermutation (map (λ (o : Output). o.1) a.kept)) (sym a.shown) seconds)

finds_all_if : (old new : State) (r : Result (Vec Row Global) Error) → old.now.schema ≡ entity_schema
    → IfOk r (λ rows. Shown all_text [] old new rows.items) → IfOk r (λ rows. AreAllCells (old.now.trees 0) rows.items)
finds_all_if old new (Ok rows) has h = finds_all old new rows.items has h
finds_all_if old new (Err e) has h = tt

-- what a call that only reads leaves: all as it was, or all as it was committed
abbrev Leaves : State → State → Type 0
Leaves old new = IsTrue new.is_open → IsTrue old.is_open × (IsReady old → HasCleanDisk old → (new.now ≡ old.now) × (new.committed ≡ old.now))

unchanged : (old new : State) → IsUnchanged old new → Leaves old new
unchanged old new same is = (same.0.was_open, λ ready clean. let it = ready (clean, same.0.was_open) in (same.0.now_is, same.0.committed_is ∙ it.1))

failed : (old new : State) (too_big : Type 0) (e : Error) → Fails old new too_big e → Leaves old new
failed old new too_big e h is =
    let back = h.3 in
    let was = back.was_open is in
    (was, λ ready clean. let it = ready (clean, was) in ((back.undone is).0 ∙ it.1, (back.undone is).1 ∙ it.1))

shows_leaves : (old new : State) (sql : List ℕ) (c : Compiled) (params : Row) (rows : List Row) (k : Option Returning) → (IsReady old → IsConnectionSound old → k ≡ None) → ShowsRows old new sql c params rows k → Leaves old new
shows_leaves old new sql c params rows None plain h is = unchanged old new h.3 is
shows_leaves old new sql c params rows (Some what) plain h is = let was = h.1.shown.was_open in (was, λ ready clean. absurd (let e = plain ready (clean, was) in cc))

fails_leaves : (old new : State) (sql : List ℕ) (c : Compiled) (params : Row) (e : Error) (k : Option Returning) → FailsToShow old new sql c params e k → Leaves old new
fails_leaves old new sql c params e None h is = unchanged old new h.3 is
fails_leaves old new sql c params e (Some what) (inl h) is = unchanged old new h.1 is
fails_leaves old new sql c params e (Some what) (inr h) is = failed old new _ e h is

was_clean : (old new : State) (C : Trees → Type 0) → Survives old new C → HasCleanDisk new → HasCleanDisk old
was_clean old new C h clean = omega (arith, h.clean, clean)

-- a query that only reads, of the table of entities
module _ (sql : List ℕ) (plain : IsPlain (understood entity_schema sql)) where
  plain_of : (old : State) (c : Compiled) → understood old.now.schema sql ≡ Ok c → IsReady old → IsConnectionSound old → c.returning ≡ None
  plain_of old c is ready told = (subst IsPlain (sym (ap (λ s. understood s sql) (ready told).0) ∙ is) plain).0

  leaves : (old new : State) (params : Row) (r : Result (Vec Row Global) Error) → IfOk r (λ rows. Shown sql params old new rows.items) → IfErr r (FailsToQuery sql params old new) → Leaves old new
  unfolding Shown FailsToQuery IsNotRun
  leaves old new params (Ok rows) h none is = shows_leaves old new sql h.0 _ rows.items h.0.returning (plain_of old h.0 h.1.is) h.2 is
  leaves old new params (Err e) none (inl (inl h)) is = unchanged old new h.1 is
  leaves old new params (Err e) none (inl (inr h)) is = failed old new ⊥ e h is
  leaves old new params (Err e) none (inr h) is = fails_leaves old new sql h.0 _ e h.0.returning h.2 is

  -- what it keeps and shows, where its clauses hold
  pub reads : (Shows : Database → List Row → Type 0) (old new : State) (params : Row) (r : Result (Vec Row Global) Error) (C : Trees → Type 0)
      → (old.now.schema ≡ entity_schema → IfOk r (λ rows. Shown sql params old new rows.items) → IfOk r (λ rows. Shows old.now rows.items)) → IsReady old → Survives old new C
      → (HasCleanDisk new → IfOk r (λ rows. Shown sql params old new rows.items)) → (HasCleanDisk new → IfErr r (FailsToQuery sql params old new))
      → IsReady new × RowsStay old new × (IsConnectionSound new → IfOk r (λ rows. Shows new.now rows.items))
  reads Shows old new params r C means ready survives ok err =
      let before = λ (t : IsConnectionSound new). was_clean old new C survives t.0 in
      let left = λ (t : IsConnectionSound new). leaves old new params r (ok t.0) (err t.0) t.1 in
      let kept = λ (t : IsConnectionSound new). (left t).1 ready (before t) in
      let was = λ (t : IsConnectionSound new). ready (before t, (left t).0) in (
        λ t. (ap (λ (d : Database). d.schema) (kept t).0 ∙ (was t).0, (kept t).1 ∙ sym (kept t).0),
        λ t. ((before t, (left t).0), ap (λ (d : Database). d.trees 0) (kept t).0),
        λ t. subst (λ (d : Database). IfOk r (λ rows. Shows d rows.items)) (sym (kept t).0) (means (was t).0 (ok t.0)),
      )

-- what a look-up keeps and says
pub told : (old new : State) (kind eid : List ℕ) (r : Result (Vec Row Global) Error) (C : Trees → Type 0) → IsReady old → Survives old new C
    → (HasCleanDisk new → IfOk r (λ rows. Shown select_text (given kind eid) old new rows.items)) → (HasCleanDisk new → IfErr r (FailsToQuery select_text (given kind eid) old new))
    → IsReady new × RowsStay old new × (IsConnectionSound new → IfOk r (λ rows. AreCells (new.now.trees 0) kind eid rows.items))
told old new kind eid r C = reads select_text select_plain (λ d rows. AreCells (d.trees 0) kind eid rows) old new (given kind eid) r C (finds_if old new kind eid r)

-- what the query of all rows keeps and says
pub told_all : (old new : State) (r : Result (Vec Row Global) Error) (C : Trees → Type 0) → IsReady old → Survives old new C
    → (HasCleanDisk new → IfOk r (λ rows. Shown all_text [] old new rows.items)) → (HasCleanDisk new → IfErr r (FailsToQuery all_text [] old new))
    → IsReady new × RowsStay old new × (IsConnectionSound new → IfOk r (λ rows. AreAllCells (new.now.trees 0) rows.items))
told_all old new r C = reads all_text all_plain (λ d rows. AreAllCells (d.trees 0) rows) old new [] r C (finds_all_if old new r)

by_bools : {A : Type 0} (a b : Bool) (x t : A) → (if a && b then Some x else None) ≡ Some t → (a ≡ true) × (b ≡ true) × (x ≡ t)
by_bools true true x t e = (refl, refl, cc)
by_bools true false x t e = absurd cc
by_bools false b x t e = absurd cc

clean_is : (b : Bool) → b ≡ true → doubt b ≡ 0
unfolding doubt
clean_is true e = refl
clean_is false e = absurd cc

is_clean : (b : Bool) → doubt b ≡ 0 → b ≡ true
unfolding doubt
is_clean true e = refl
is_clean false e = absurd (omega (arith, e))

pub reported_of : (s : State) (t : List Row) → known_rows s ≡ Some t → IsConnectionSound s × (s.now.trees 0 ≡ t)
reported_of s t e = let h = by_bools s.is_clean s.is_open (s.now.trees 0) t e in ((clean_is s.is_clean h.0, h.1), h.2)

map_some : {X Y : Type 0} (f : X → Y) (o : Option X) (y : Y) → option_map f o ≡ Some y → (x : X) × (o ≡ Some x) × (f x ≡ y)
map_some f None y h = absurd (cc)
map_some f (Some x) y h = (x, refl, cc)

-- the entities that are known are those of the rows, while the connection is open and clean
sound_of : (s : State) (es : List StoredEntity) → known_entities s ≡ Some es → IsConnectionSound s × (row_entities (s.now.trees 0) ≡ es)
sound_of s es h =
    let some = map_some row_entities (known_rows s) es h in
    let told = reported_of s some.0 some.1 in
    (told.0, ap row_entities told.1 ∙ some.2)

pub entities_go_on : (old new : State) → RowsStay old new → Continues (known_entities old) (known_entities new)
entities_go_on old new goes es h =
    let now = sound_of new es h in
    let was = goes now.0 in
    rw (is_clean old.is_clean was.0.0, was.0.1) (ap Some (ap row_entities (sym was.1) ∙ now.1))

found_known : (new : State) (u : EntityUID) (shown : List Row) (o : Option StoredEntity) → (IsConnectionSound new → AreCells (new.now.trees 0) u.entity_type u.eid shown) → IsRowFound shown u o
    → (es : List StoredEntity) → known_entities new ≡ Some es → o ≡ entity_at es u
found_known new u shown o cells found es h =
    let now = sound_of new es h in
    subst (λ s. o ≡ entity_at s u) now.1 (found_is (new.now.trees 0) u shown o (cells now.0) found)

pub found_if : {E : Type 0} (new : State) (u : EntityUID) (kind eid : List ℕ) (shown : List Row) (r : Result (Option StoredEntity) E) → kind ≡ u.entity_type → eid ≡ u.eid
    → (IsConnectionSound new → AreCells (new.now.trees 0) kind eid shown) → IfOk r (IsRowFound shown u) → (es : List StoredEntity) → known_entities new ≡ Some es → IfOk r (λ o. o ≡ entity_at es u)
found_if new u kind eid shown (Ok o) is_kind is_eid cells found es h =
    found_known new u shown o (λ sound. subst (λ k. AreCells (new.now.trees 0) k u.eid shown) is_kind (subst (λ e. AreCells (new.now.trees 0) kind e shown) is_eid (cells sound))) found es h
found_if new u kind eid shown (Err e) is_kind is_eid cells found es h = tt
