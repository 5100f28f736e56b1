use Rattle.std.proofs.Common.{◌≤◌, ◌+◌, ◌*◌}
use Rattle.schema_types.specs.Ty.{size_of, size_of_attrs}
use Rattle.schema_types.specs.TyView.{attrs_of, kind_of}
use Rattle.edit_witnesses.proofs.defaults.+default_value.Given as goal

abbrev pub decreases-default_value : goal.decreases-default_value
decreases-default_value l = 3 * size_of l.ty.now + 2

abbrev pub decreases-default_of_kind : goal.decreases-default_of_kind
decreases-default_of_kind l = 3 * size_of (kind_of l.kind.now) + 1

abbrev pub decreases-default_fields : goal.decreases-default_fields
decreases-default_fields l = 3 * size_of_attrs l.attrs.now + 2

-- what is left
abbrev pub invariant-default_fields-loop-key : goal.invariant-default_fields-loop-key
invariant-default_fields-loop-key l = size_of_attrs (attrs_of l.key-iterator) ≤ size_of_attrs l.attrs
