-- What a fault of a schema is called.
use Rattle.std.specs.Prelude.{ℕ, List, codes}
use Rattle.schema_core.specs.declared.fault.SchemaFault.{SchemaFault}
use Rattle.schema_core.specs.declared.fault.SchemaFault.TheVariants.{DuplicateAction, ActionTypeDeclared, EmptyEnum, NotAnAction, UndeclaredType, UndeclaredAction, ActionCycle, EnumHasAncestor, NotClosed, ActionNotClosed, BadType, BadContext, UnknownExtension, OutOfMemory}

abbrev pub fault_text : SchemaFault → List ℕ
fault_text (DuplicateAction _) = codes "duplicate action"
fault_text (ActionTypeDeclared _) = codes "declared type has basename Action"
fault_text (EmptyEnum _) = codes "no listed id"
fault_text (NotAnAction _) = codes "action type has another basename"
fault_text (UndeclaredType _) = codes "type is not declared"
fault_text (UndeclaredAction _) = codes "action is not declared"
fault_text (ActionCycle _) = codes "action is its own member"
fault_text (EnumHasAncestor _) = codes "enumerated type is a descendant"
fault_text (NotClosed _) = codes "descendants of a type are not transitive"
fault_text (ActionNotClosed _) = codes "descendants of an action are not transitive"
fault_text (BadType _) = codes "attributes or tags hold a type that no schema has"
fault_text (BadContext _) = codes "context holds a type that no schema has"
fault_text (UnknownExtension _) = codes "extension type is unknown"
fault_text OutOfMemory = codes "out of memory"
