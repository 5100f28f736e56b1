use Rattle.std.proofs.Common.{◌+◌, ◌*◌, ◌≤◌}
use Rattle.std.specs.Fmt.{IsPlainFormatter}
use Rattle.schema_types.specs.Ty.{size_of, size_of_attrs}
use Rattle.schema_types.specs.TyView.{kind_of, attrs_of}
use Rattle.schema_types.specs.TyText.{attrs_text}
use Rattle.schema_types.proofs.ShowSteps.{IsLeft}
use Rattle.schema_types.proofs.show.+show.Given as goal

abbrev pub decreases-show : goal.decreases-show
decreases-show g l = 3 * size_of l.t.now + 1

abbrev pub decreases-show_kind : goal.decreases-show_kind
decreases-show_kind g l = 3 * size_of (kind_of l.k.now)

abbrev pub decreases-show_attributes : goal.decreases-show_attributes
decreases-show_attributes g l = 3 * size_of_attrs l.a.now + 2

abbrev pub decreases-show_attribute : goal.decreases-show_attribute
decreases-show_attribute g l = 3 * size_of l.x.now.attr_type + 2

-- what is left is still to be written
abbrev pub invariant-show_attributes-loop-key : goal.invariant-show_attributes-loop-key
invariant-show_attributes-loop-key g l = record {
  left : IsPlainFormatter l.fn.f → IsLeft g.W.Write.write_str_gives l.fn.f (attrs_text l.a) (attrs_text (attrs_of l.key-iterator)) l.f;
  size : size_of_attrs (attrs_of l.key-iterator) ≤ size_of_attrs l.a;
}
