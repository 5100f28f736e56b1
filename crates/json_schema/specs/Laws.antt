-- Faults that no document has.
use Rattle.std.specs.Prelude.{◌≡◌, Bool, true, false, IsTrue, Some}
use Rattle.schema_core.specs.Declarations.{IsRefused}
use Rattle.schema_core.specs.Entries.{Declarations}
use Rattle.schema_core.specs.declared.fault.SchemaFault.{SchemaFault}
use Rattle.schema_core.specs.declared.fault.SchemaFault.TheVariants.{EnumHasAncestor, NotClosed, ActionNotClosed, BadType, BadContext, UnknownExtension}
use Rattle.serde_json.specs.Data.{Data}
use Rattle.json_schema.specs.Schema.{schema_of}

-- a fault of enumerated types, descendants or types inside
abbrev pub is_never_read : SchemaFault → Bool
is_never_read (EnumHasAncestor _) = true
is_never_read (NotClosed _) = true
is_never_read (ActionNotClosed _) = true
is_never_read (BadType _) = true
is_never_read (BadContext _) = true
is_never_read (UnknownExtension _) = true
is_never_read _ = false

-- what a JSON value declares has no such fault
abbrev pub NoneIsRead : Type 0
NoneIsRead = (v : Data) (d : Declarations) → schema_of v ≡ Some d →
    (f : SchemaFault) → IsTrue (is_never_read f) → ¬ IsRefused d f
