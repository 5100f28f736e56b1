use Rattle.std.proofs.Common.{◌≡◌, ◌+◌, ◌*◌, ◌≤◌, drop}
use Rattle.std.specs.Prelude.{fold}
use Rattle.policy_values.specs.Value.{size_of, size_of_all, size_of_fields, vals_of, fields_of}
use Rattle.policy_values.specs.ValueHash.{vals_fed, fields_fed}
use Rattle.policy_values.proofs.hash.+feed.Given as goal

abbrev pub decreases-feed : goal.decreases-feed
decreases-feed g l = 2 * size_of l.v.now

abbrev pub decreases-feed_all : goal.decreases-feed_all
decreases-feed_all g l = 2 * size_of_all (vals_of l.items.now.items) + 1

abbrev pub decreases-feed_fields : goal.decreases-feed_fields
decreases-feed_fields g l = 2 * size_of_fields (fields_of l.fields.now.entries) + 1

-- what is left is still to be written
abbrev pub invariant-feed_all-loop-item : goal.invariant-feed_all-loop-item
invariant-feed_all-loop-item g l = record {
  left : fold g.H.Hasher.write l.state (vals_fed (vals_of (drop l.item-index l.items.items))) ≡ fold g.H.Hasher.write l.fn.state (vals_fed (vals_of l.items.items));
  size : size_of_all (vals_of (drop l.item-index l.items.items)) ≤ size_of_all (vals_of l.items.items);
}

abbrev pub invariant-feed_fields-loop-key : goal.invariant-feed_fields-loop-key
invariant-feed_fields-loop-key g l = record {
  left : fold g.H.Hasher.write l.state (fields_fed (fields_of l.key-iterator)) ≡ fold g.H.Hasher.write l.fn.state (fields_fed (fields_of l.fields.entries));
  size : size_of_fields (fields_of l.key-iterator) ≤ size_of_fields (fields_of l.fields.entries);
}
