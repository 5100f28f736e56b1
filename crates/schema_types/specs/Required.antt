-- Attributes that have to be there.
use Rattle.std.specs.Prelude.{ℕ, true, List, map}
use Rattle.schema_types.specs.Ty.{Ty, Attrs}
use Rattle.schema_types.specs.TyView.{attrs_of}
use Rattle.schema_types.specs.declared.ty.AttributeType.{AttributeType}

abbrev pub required : List ℕ × Ty → List ℕ × AttributeType
required e = (e.0, record { attr_type = e.1; is_required = true })

-- attributes of the types that stand under the keys, all of which have to be there
abbrev pub required_attrs : List (List ℕ × Ty) → Attrs
required_attrs es = attrs_of (map required es)
