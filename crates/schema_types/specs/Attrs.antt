-- Attributes under their keys.
use Rattle.std.specs.Prelude.{ℕ, List, Option, Some, None, cond}
use Rattle.std.specs.Ordering.{is_eq}
use Rattle.policy_values.specs.Uid.{text_cmp}
use Rattle.schema_types.specs.Ty.{Attrs, no_attrs, attr}
use Rattle.schema_types.specs.declared.ty.AttributeType.{AttributeType}

-- the attribute under a key, where there is one
abbrev pub attr_at : Attrs → List ℕ → Option AttributeType
attr_at no_attrs n = None
attr_at (attr k t q xs) n =
    cond (is_eq (text_cmp n k)) (Some (record { attr_type = t; is_required = q })) (attr_at xs n)
