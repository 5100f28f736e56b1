use Rattle.std.proofs.Common.{◌<◌, length, sym}
use Rattle.policy_values.proofs.SetSteps.{found_here, found_nowhere, answers_rise}
use Rattle.policy_values.proofs.value.is_among.Goals as goal

pub returns-in-Ok : goal.returns-in-Ok
returns-in-Ok c =
    let items = c.args.items.now.items in
    let lt : c.in-Ok.field-0 < length items = rw c.deref.ensures.value at c.in-Ok.ensures.bound in
    sym (found_here c.args.element.now items c.in-Ok.field-0 c.args.element.now lt (rw c.deref.ensures.value at (c.in-Ok.ensures.position c.args.element.now)))

pub returns-in-Err : goal.returns-in-Err
returns-in-Err c =
    let items = c.args.items.now.items in
    let parts = rw c.deref.ensures.value at c.in-Err.ensures.position in
    sym (found_nowhere c.args.element.now items c.in-Err.field-0 (parts (answers_rise c.args.element.now items c.requires)))
