-- The kind of an entity type as plain data.
use Rattle.schema_core.specs.Kinds.{Kind, standard, enumerated}
use Rattle.schema_core.specs.declared.kind.ValidatorEntityTypeKind.{ValidatorEntityTypeKind}
use Rattle.schema_core.specs.declared.kind.ValidatorEntityTypeKind.TheVariants.{Standard, Enum}

abbrev pub kind_of : ValidatorEntityTypeKind → Kind
kind_of (Standard xs t) = standard xs t
kind_of (Enum ids) = enumerated ids
