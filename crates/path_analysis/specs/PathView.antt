-- The types of paths in code.
use Rattle.schema_types.specs.declared.kinds.OpenTag.TheVariants.{ClosedAttributes}
use Rattle.schema_types.specs.Ty.{Ty, record_of}
use Rattle.path_analysis.specs.declared.path_type.PathType.{PathType}
use Rattle.path_analysis.specs.declared.path_type.PathType.TheVariants.{Held, Context, Made}

abbrev pub type_in : PathType → Ty
type_in (Held t) = t.now
type_in (Context xs) = record_of xs.now ClosedAttributes
type_in (Made t) = t
