use Rattle.std.proofs.Common.{◌≡◌, ◌+◌, ◌*◌, ◌≤◌, drop}
use Rattle.policy_values.specs.Value.{size_of, size_of_all, size_of_fields, vals_of, fields_of}
use Rattle.conformance.specs.Misfits.{knows, misfit_all, misfit_fields}
use Rattle.conformance.proofs.misfits.+walk.Given as goal

abbrev pub decreases-misfit_of : goal.decreases-misfit_of
decreases-misfit_of l = 5 * size_of l.v.now + 1

abbrev pub decreases-kind_misfit : goal.decreases-kind_misfit
decreases-kind_misfit l = 5 * size_of l.v.now

abbrev pub decreases-misfit_in_set : goal.decreases-misfit_in_set
decreases-misfit_in_set l = 5 * size_of_all (vals_of l.items.now.items) + 2

abbrev pub decreases-record_misfit : goal.decreases-record_misfit
decreases-record_misfit l = 5 * size_of_fields (fields_of l.fields.now.entries) + 4

abbrev pub decreases-misfit_in_fields : goal.decreases-misfit_in_fields
decreases-misfit_in_fields l = 5 * size_of_fields (fields_of l.fields.now.entries) + 3

abbrev pub decreases-field_misfit : goal.decreases-field_misfit
decreases-field_misfit l = 5 * size_of l.v.now + 2

-- what is left decides
abbrev pub invariant-misfit_in_set-loop-item : goal.invariant-misfit_in_set-loop-item
invariant-misfit_in_set-loop-item l = misfit_all (knows l.extensions) l.t (vals_of l.items.items) ≡ misfit_all (knows l.extensions) l.t (vals_of (drop l.item-index l.items.items))

abbrev pub invariant-misfit_in_fields-loop-key : goal.invariant-misfit_in_fields-loop-key
invariant-misfit_in_fields-loop-key l = record {
  left : misfit_fields (knows l.extensions) l.tag l.attrs (fields_of l.fields.entries) ≡ misfit_fields (knows l.extensions) l.tag l.attrs (fields_of l.key-iterator);
  size : size_of_fields (fields_of l.key-iterator) ≤ size_of_fields (fields_of l.fields.entries);
}
