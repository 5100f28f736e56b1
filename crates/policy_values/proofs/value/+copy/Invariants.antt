use Rattle.std.proofs.Common.{◌≡◌, ◌+◌, ◌*◌, ◌++◌, take}
use Rattle.policy_values.specs.Value.{size_of, size_of_all, size_of_fields, vals_of, fields_of}
use Rattle.policy_values.proofs.value.+copy.Given as goal

abbrev pub decreases-copy_of : goal.decreases-copy_of
decreases-copy_of l = 2 * size_of l.v.now

abbrev pub decreases-copy_of_all : goal.decreases-copy_of_all
decreases-copy_of_all l = 2 * size_of_all (vals_of l.items.now.items) + 1

abbrev pub decreases-try_clone_fields : goal.decreases-try_clone_fields
decreases-try_clone_fields l = 2 * size_of_fields (fields_of l.fields.now.entries) + 1

abbrev pub invariant-copy_of_all-loop-item : goal.invariant-copy_of_all-loop-item
invariant-copy_of_all-loop-item l = l.copies.items ≡ take l.item-index l.items.items

abbrev pub invariant-try_clone_fields-loop-name : goal.invariant-try_clone_fields-loop-name
invariant-try_clone_fields-loop-name l = l.fields.entries ≡ l.copies.entries ++ l.name-iterator
