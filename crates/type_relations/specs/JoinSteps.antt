-- What one attribute of both records adds to their permissive join.
use Rattle.std.specs.Prelude.{ℕ, Bool, List, [], ◌∷◌, Result, Ok, Err}
use Rattle.schema_types.specs.Ty.{Ty}
use Rattle.schema_types.specs.declared.kinds.LubHelp.{LubHelp}
use Rattle.schema_types.specs.declared.ty.AttributeType.{AttributeType}

-- the attribute, where its types have a join
abbrev pub kept_entry : List ℕ → Bool → Result Ty LubHelp → List (List ℕ × AttributeType)
kept_entry k q (Ok t) = (k, record { attr_type = t; is_required = q }) ∷ []
kept_entry k q (Err h) = []
