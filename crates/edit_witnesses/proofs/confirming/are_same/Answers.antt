use Rattle.std.proofs.Common.{ap, ◌∙◌, sym}
use Rattle.policy_values.specs.Ties.{equal_of}
use Rattle.schema_types.specs.Ty.{Ty, record_of, Attrs, no_attrs}
use Rattle.edit_witnesses.proofs.confirming.are_same.Goals as goal

-- the attributes of a type of records
abbrev attributes_of : Ty → Attrs
attributes_of (record_of xs o) = xs
attributes_of t = no_attrs

pub returns : goal.returns
returns c = λ h.
    let same = (c.order_is_exact.ensures c.record-one.result c.record-other.result).0 (equal_of _ (sym c.eq.ensures ∙ h)) in
    sym (ap attributes_of c.record-one.ensures ∙ c.in_ok-try_clone.ensures) ∙ ap attributes_of same
    ∙ (ap attributes_of c.record-other.ensures ∙ c.in_ok-try_clone-2.ensures)
