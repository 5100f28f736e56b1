-- Rows of the table as entities, and the store of the rows.
use Rattle.std.specs.Prelude.{◌≡◌, ⊤, List, [], ◌∷◌, Bool, map, if◌then◌else◌, Option, Some, None, IsSome, Result, Ok, Err, option_map, option_and_then}
use Rattle.std.specs.List.{AllByRecursion, list_all}
use Rattle.std.specs.declared.alloc.Global.{Global}
use Rattle.std.specs.declared.vec.Vec.{Vec}
use Rattle.sqlite.specs.declared.types.Value.{Value}
use Rattle.sqlite.specs.declared.types.Value.TheVariants.{Null, Int, Real, Text, Blob}
use Rattle.conformance.specs.StoreRules.{first_store_fault}
use Rattle.schema_core.specs.Schema.{SchemaData}
use Rattle.sqlite.specs.Order.{Row, column}
use Rattle.sqlite.specs.State.{State}
use Rattle.policy_values.specs.declared.entity_uid.EntityUID.{EntityUID}
use Rattle.entity_store.specs.FromParents.{IsFromParents}
use Rattle.entity_store.specs.Store.{StoredEntity, Store}
use Rattle.entity_files.specs.declared.fault.FileError.{FileError}
use Rattle.entity_files.specs.declared.fault.FileError.TheVariants as fault
use Rattle.entity_files.specs.Entities.{entity_in}
use Rattle.entity_files.specs.Made.{made_of}
use Rattle.entity_files.specs.Table.{equals, is_of, known_rows}

-- the entity that a value spells: a text alone spells one
abbrev pub cell_entity : Value → Option StoredEntity
cell_entity (Text t) = entity_in t
cell_entity Null = None
cell_entity (Int n) = None
cell_entity (Real x) = None
cell_entity (Blob b) = None

-- the entity that the row's text spells, where its id is the row's type and eid
abbrev pub row_entity : Row → Option StoredEntity
row_entity r = option_and_then (λ e. if is_of e.uid.entity_type e.uid.eid r then Some e else None)
    (cell_entity (column r 4))

-- the type and the eid that a query of all rows shows are those of the id
abbrev pub is_shown : EntityUID → Row → Bool
is_shown u c = list_all (λ (p : Value × Value). equals p.0 p.1)
    ((column c 0, Text u.entity_type) ∷ (column c 1, Text u.eid) ∷ [])

-- the entity of a row that the query shows
abbrev pub shown_entity : Row → Option StoredEntity
shown_entity c = option_and_then (λ e. if is_shown e.uid c then Some e else None) (cell_entity (column c 2))

-- the entities with one more in front, where there is one
abbrev pub with_row : Option StoredEntity → List StoredEntity → List StoredEntity
with_row None es = es
with_row (Some e) es = e ∷ es

-- the entities of the rows, with their parents
abbrev pub row_entities : List Row → List StoredEntity
row_entities [] = []
row_entities (r ∷ rs) = with_row (row_entity r) (row_entities rs)

-- the entities of the rows with their parents, where the rows are known
abbrev pub known_entities : State → Option (List StoredEntity)
known_entities s = option_map row_entities (known_rows s)

-- the store that is made of them
abbrev pub known_store : State → Option Store
known_store s = option_and_then made_of (known_entities s)

-- each row spells the entity with its id, and the store is made of all of these
pub record AreAll (rows : List Row) (w : Store) : Type 0 where
  pub spelled : AllByRecursion (λ r. IsSome (row_entity r)) rows
  pub made : IsFromParents (row_entities rows) w

-- the store of all rows breaks no rule of the schema
abbrev pub RowsConform : SchemaData → List Row → Type 0
RowsConform schema rows = (w : Store) × AreAll rows w × (first_store_fault schema w ≡ None)

-- the database failed, or memory ran out
abbrev pub IsDatabaseError : FileError → Type 0
IsDatabaseError (fault.Database text) = ⊤
IsDatabaseError fault.OutOfMemory = ⊤
IsDatabaseError e = ⊥

-- a store is refused, or memory ran out
abbrev pub IsStoreError : FileError → Type 0
IsStoreError (fault.Refused text) = ⊤
IsStoreError fault.OutOfMemory = ⊤
IsStoreError e = ⊥

-- neither a store nor a row is refused
abbrev pub IsOpeningError : FileError → Type 0
IsOpeningError (fault.Refused text) = ⊥
IsOpeningError (fault.Row text) = ⊥
IsOpeningError e = ⊤

-- what is made is right; where a store or a row is refused, nothing is
abbrev pub IsRight : {X : Type 0} → (X → Type 0) → Result X FileError → Type 0
IsRight P (Ok x) = P x
IsRight {X} P (Err (fault.Refused text)) = (x : X) → ¬ P x
IsRight {X} P (Err (fault.Row text)) = (x : X) → ¬ P x
IsRight P (Err e) = ⊤

-- the entities that are read are those of what is shown of rows, in their order
abbrev pub AreRead : List Row → Result (Vec StoredEntity Global) FileError → Type 0
AreRead cs (Ok es) = map shown_entity cs ≡ map Some es.items
AreRead cs (Err e) = IsRight (λ (es : List StoredEntity). map shown_entity cs ≡ map Some es) (Err e)

-- each of what is shown of rows spells an entity, and the store is made of all of these
abbrev pub AreAllShown : List Row → Store → Type 0
AreAllShown cs w = (es : List StoredEntity) × (map shown_entity cs ≡ map Some es) × IsFromParents es w

-- it is so of the rows that are known
abbrev pub OfRows : State → (List Row → Type 0) → Type 0
OfRows s P = (rows : List Row) → known_rows s ≡ Some rows → P rows

-- what was found by an id: no row, or one, whose text spells the entity with this id
abbrev pub IsRowFound : List Row → EntityUID → Option StoredEntity → Type 0
IsRowFound rows u None = rows ≡ []
IsRowFound rows u (Some e) = (c : Row) × (rows ≡ c ∷ []) × (cell_entity (column c 0) ≡ Some e) × (e.uid ≡ u)
