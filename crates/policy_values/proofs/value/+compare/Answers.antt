use Rattle.std.proofs.Common.{arith, sym, ◌∙◌, ap}
use Rattle.policy_values.specs.Value.{size_of, size_of_all, size_of_fields, vals_of, fields_of}
use Rattle.policy_values.proofs.Sizes.{size_of-get_or}
use Rattle.policy_values.proofs.ValueSteps.{vals_cmp-over}
use Rattle.policy_values.proofs.value.+compare.Goals as goal

pub compare_all-compare-first-requires : goal.compare_all-compare-first-requires
compare_all-compare-first-requires t c =
    let items = c.deref-x-items.result.now in
    let whole = ap (λ xs. size_of_all (vals_of xs)) c.deref-x-items.ensures.value in
    (omega (arith, ap size_of c.x-item.is, size_of-get_or items c.loop-i.i c.x-item.result (omega arith), whole), tt)

pub compare_all-returns-then-len : goal.compare_all-returns-then-len
compare_all-returns-then-len t c =
    sym (vals_cmp-over c.args.a.now.items c.args.b.now.items c.loop-i.i (omega arith) (omega arith)) ∙ c.loop-i.invariant

pub compare_fields-compare-requires : goal.compare_fields-compare-requires
compare_fields-compare-requires t c =
    (omega (arith, ap (λ es. size_of_fields (fields_of es)) c.in-Some.ensures.steps), tt)
