-- The table of entities, and what a connection says of it.
use Rattle.sqlite.specs.Collation.TheVariants.{Binary}
use Rattle.std.specs.Prelude.{◌≡◌, ◌&&◌, if◌then◌else◌, Option, None, IsTrue, true, false, [], ◌∷◌, Some, codes, List, ℕ, filter, map, Bool, IsPermutation}
use Rattle.std.specs.List.{list_all}
use Rattle.sqlite_sql.specs.Ops.{binary, is_true}
use Rattle.sqlite_sql.specs.declared.ops.BinaryOp.TheVariants.{Compare}
use Rattle.sqlite_sql.specs.declared.ops.CompareOp.TheVariants.{Eq}
use Rattle.sqlite.specs.declared.types.Value.{Value}
use Rattle.sqlite.specs.declared.types.Value.TheVariants.{Null, Text as Words}
use Rattle.sqlite.specs.Order.{Row, column}
use Rattle.sqlite.specs.State.{State, HasCleanDisk}
use Rattle.sqlite.specs.Table.{Table}
use Rattle.sqlite.specs.Schema.{Schema}
use Rattle.sqlite.specs.Kind.{Kind}
use Rattle.sqlite.specs.Kind.TheVariants.{Integer, Text}
use Rattle.sqlite_schema.specs.declared.schema.Column.{Column}
use Rattle.sqlite_schema.specs.declared.schema.Index.{Index}

-- a column of a STRICT table, without a default
abbrev pub column_of : List ℕ → Kind → Bool → Column
column_of name kind not_null = record {
  name = name;
  kind = kind;
  is_strict = true;
  not_null = not_null;
  default = Null;
  collation = Binary;
}

-- a row for each entity: a number, the type, the eid, and the entity in JSON
abbrev pub entity : Table
entity = record {
  name = codes "entity";
  tree = 0;
  columns = column_of (codes "number") Integer false ∷ column_of (codes "type") Text true ∷
      column_of (codes "eid") Text true ∷ column_of (codes "json") Text true ∷ [];
  key = Some 0;
  primary = 0 ∷ [];
  uniques = (2 ∷ 3 ∷ []) ∷ [];
  orders = record { digits = 0 } ∷ [];
  checks = [];
  references = [];
  computed = [];
  stamps = record { places = []; terms = []; formats = [] };
  is_counted = false;
}

-- the index of its pairs of type and eid
abbrev pub entity_index : Index
entity_index = record {
  name = codes "sqlite_autoindex_entity_1";
  tree = 1;
  table = 0;
  columns = 2 ∷ 3 ∷ [];
  order = record { digits = 0 };
  is_unique = true;
}

-- that table with its index, and nothing else
abbrev pub entity_schema : Schema
entity_schema = record { tables = entity ∷ []; indexes = entity_index ∷ []; views = [] }

-- SQL's equality of two values, neither of which is NULL
abbrev pub equals : Value → Value → Bool
equals a b = is_true (binary (Compare Eq Binary) a b)

-- the row is of this type and this eid
abbrev pub is_of : List ℕ → List ℕ → Row → Bool
is_of kind eid r =
    list_all (λ (p : Value × Value). equals p.0 p.1) ((column r 2, Words kind) ∷ (column r 3, Words eid) ∷ [])

-- what a look-up shows of the row: its text
abbrev pub cell : Row → Row
cell r = column r 4 ∷ []

-- what a query of all rows shows of the row: its type, its eid and its text
abbrev pub cells : Row → Row
cells r = column r 2 ∷ column r 3 ∷ column r 4 ∷ []

-- what it shows of each of the table's rows, in some order
abbrev pub AreAllCells : List Row → List Row → Type 0
AreAllCells table rows = IsPermutation (map cells table) rows

-- the texts of the table's rows for the type and the eid, in some order
abbrev pub AreCells : List Row → List ℕ → List ℕ → List Row → Type 0
AreCells table kind eid rows = IsPermutation (map cell (filter (is_of kind eid) table)) rows

-- the connection is open, and the disk has returned what was written
abbrev pub IsConnectionSound : State → Type 0
IsConnectionSound s = HasCleanDisk s × IsTrue s.is_open

-- as long as that is so, the database is the table, and all of it is committed
abbrev pub IsReady : State → Type 0
IsReady s = IsConnectionSound s → (s.now.schema ≡ entity_schema) × (s.committed ≡ s.now)

-- where it is so after a call it was so before, and the rows are the same
abbrev pub RowsStay : State → State → Type 0
RowsStay old new = IsConnectionSound new → IsConnectionSound old × (new.now.trees 0 ≡ old.now.trees 0)

-- the rows, where they are known: while the connection is open and clean
abbrev pub known_rows : State → Option (List Row)
known_rows s = if s.is_clean && s.is_open then Some (s.now.trees 0) else None

-- what is known after a call was known before it, and is the same
abbrev pub Continues : {X : Type 0} → Option X → Option X → Type 0
Continues {X} old new = (x : X) → new ≡ Some x → old ≡ Some x
