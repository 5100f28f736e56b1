-- What one question to rows came to.
use Rattle.std.specs.Prelude.{◌≡◌, ℕ, List, Contains, Option, Result, Err, if◌then◌else◌}
use Rattle.std.specs.BTreeMap.{BTreeMap, get}
use Rattle.std.specs.Option.{option_or}
use Rattle.std.specs.Ordering.{is_eq}
use Rattle.byte_streams.specs.Steps.{Rose}
use Rattle.policy_values.specs.declared.entity_uid.EntityUID.{EntityUID}
use Rattle.policy_values.specs.Uid.{text_cmp}
use Rattle.policy_values.specs.Value.{Val}
use Rattle.entity_loader.specs.declared.loader.LoadError.{LoadError}
use Rattle.entity_loader.specs.declared.loader.LoadError.TheVariants.{Failed}
use Rattle.table_loader.specs.RowsState.{RowsState, TablesHaveAncestor}
use Rattle.table_loader.specs.Tables.{Tables}

-- a failure is one that the rows counted
abbrev pub IsCause : {X : Type 0} → Result X LoadError → RowsState → RowsState → Type 0
IsCause (Err Failed) old new = Rose old.faults new.faults
IsCause r old new = Unit {0}

-- the new attributes are the old ones, and under the key the value, where there is one
abbrev pub PutsIfAny : BTreeMap (List ℕ) Val → BTreeMap (List ℕ) Val → List ℕ → Option Val → Type 0
PutsIfAny old new key value =
    (k : List ℕ) →
    get text_cmp new k ≡
    (if is_eq (text_cmp key k) then option_or value (get text_cmp old k) else get text_cmp old k)

-- of the ids, those that are ancestors of the entity in the store of the tables
pub record AreFound (t : Tables) (u : EntityUID) (ids found : List EntityUID) : Type 0 where
  pub enough : (y : EntityUID) → Contains ids y → TablesHaveAncestor t u y → Contains found y
  pub given : (y : EntityUID) → Contains found y → TablesHaveAncestor t u y
