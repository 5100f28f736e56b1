use Rattle.std.proofs.Common.{◌≡◌, ◌+◌, ◌<◌, length, map}
use Rattle.std.specs.Prelude.{◌^◌}
use Rattle.std.specs.Vec.Iter.{into_iter_items, into_iter_len}
use Rattle.live_manifest.specs.Edits.{after_edits}
use Rattle.policy_gate.specs.Live.{edit_for, first_refused}
use Rattle.policy_gate.proofs.live.make_all.Given as goal

-- behind the edits so far, what is left gives all
abbrev pub invariant-loop-edit : goal.invariant-loop-edit
invariant-loop-edit g l = record {
  schema : l.live.schema ≡ l.fn.live.schema;
  refused : first_refused l.live.schema l.number l.live.policies (map edit_for (into_iter_items l.edit-iterator)) ≡ first_refused l.fn.live.schema 0 l.fn.live.policies (map edit_for l.fn.edits.items);
  made : after_edits l.live.schema l.live.policies (map edit_for (into_iter_items l.edit-iterator)) ≡ after_edits l.fn.live.schema l.fn.live.policies (map edit_for l.fn.edits.items);
  len : into_iter_len l.edit-iterator ≡ length (into_iter_items l.edit-iterator);
  fits : l.number + into_iter_len l.edit-iterator < 2 ^ 64;
}
