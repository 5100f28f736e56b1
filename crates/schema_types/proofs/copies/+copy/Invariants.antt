use Rattle.std.proofs.Common.{◌+◌, ◌*◌}
use Rattle.schema_types.specs.Ty.{size_of}
use Rattle.schema_types.specs.TyView.{ty_of}
use Rattle.schema_types.proofs.copies.+copy.Given as goal

abbrev pub decreases-copy_of : goal.decreases-copy_of
decreases-copy_of l = 2 * size_of l.t.now + 1

abbrev pub decreases-copy_of_type_kind : goal.decreases-copy_of_type_kind
decreases-copy_of_type_kind l = 2 * size_of (ty_of l.k.now)
