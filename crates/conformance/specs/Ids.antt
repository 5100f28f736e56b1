-- Ids of enumerated types that their types do not list.
use Rattle.std.specs.Prelude.{Option, Some, None, if◌then◌else◌}
use Rattle.std.specs.Option.{option_or}
use Rattle.policy_values.specs.declared.entity_uid.EntityUID.{EntityUID}
use Rattle.policy_values.specs.Value.{Val, entity, set, rec, Vals, no_vals, val, Fields, no_fields, field}
use Rattle.schema_core.specs.Schema.{SchemaData}
use Rattle.typing_spec.specs.Conforms.{is_listed}

module _ (schema : SchemaData) where
  -- the first id in a value that its type does not list, in the order of elements and keys
  abbrev mutual
    pub unlisted_in : Val → Option EntityUID
    unlisted_in (entity u) = if is_listed schema u then None else Some u
    unlisted_in (set vs) = unlisted_in_all vs
    unlisted_in (rec fs) = unlisted_in_fields fs
    unlisted_in v = None

    pub unlisted_in_all : Vals → Option EntityUID
    unlisted_in_all no_vals = None
    unlisted_in_all (val v vs) = option_or (unlisted_in v) (unlisted_in_all vs)

    pub unlisted_in_fields : Fields → Option EntityUID
    unlisted_in_fields no_fields = None
    unlisted_in_fields (field k v fs) = option_or (unlisted_in v) (unlisted_in_fields fs)
