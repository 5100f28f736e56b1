use Rattle.std.proofs.Common.{◌≡◌, ◌+◌, ◌*◌, ◌≤◌}
use Rattle.std.specs.Prelude.{fold}
use Rattle.schema_types.specs.Ty.{size_of, size_of_attrs}
use Rattle.schema_types.specs.TyView.{ty_of, kind_of, attrs_of}
use Rattle.schema_types.specs.TyHash.{attrs_fed}
use Rattle.schema_types.proofs.hash.+feed.Given as goal

abbrev pub decreases-feed : goal.decreases-feed
decreases-feed g l = 4 * size_of l.t.now + 2

abbrev pub decreases-feed_type_kind : goal.decreases-feed_type_kind
decreases-feed_type_kind g l = 4 * size_of (ty_of l.k.now) + 1

abbrev pub decreases-feed_kind : goal.decreases-feed_kind
decreases-feed_kind g l = 4 * size_of (kind_of l.k.now)

abbrev pub decreases-feed_attributes : goal.decreases-feed_attributes
decreases-feed_attributes g l = 4 * size_of_attrs l.a.now + 3

-- what is left is still to be written
abbrev pub invariant-feed_attributes-loop-key : goal.invariant-feed_attributes-loop-key
invariant-feed_attributes-loop-key g l = record {
  left : fold g.H.Hasher.write l.state (attrs_fed (attrs_of l.key-iterator)) ≡ fold g.H.Hasher.write l.fn.state (attrs_fed l.a);
  size : size_of_attrs (attrs_of l.key-iterator) ≤ size_of_attrs l.a;
}
