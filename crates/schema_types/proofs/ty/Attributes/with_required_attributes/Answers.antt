use Rattle.std.proofs.Common.{◌++◌, ap, ◌∙◌, subst}
use Rattle.std.specs.List.Sorted.{IsStrictlySortedBy}
use Rattle.std.specs.Map.{keys_of}
use Rattle.policy_values.specs.Uid.{text_cmp}
use Rattle.policy_values.proofs.MapSteps.{next-seam}
use Rattle.schema_types.proofs.ty.Attributes.with_required_attributes.Goals as goal

pub push_entry-requires : goal.push_entry-requires
push_entry-requires c =
    let done = keys_of c.loop-key.made.entries in
    let keys = c.loop-key.invariant.keys ∙ ap (λ es. done ++ keys_of es) c.in-Some.ensures.steps in
    next-seam done c.in-Some.key (keys_of c.next.new.self) (subst (IsStrictlySortedBy text_cmp) keys c.into_iter-key-iterator.ensures.into_iter_gives.5)
