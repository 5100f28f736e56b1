use Rattle.std.proofs.Common.{ap, ◌∙◌, ◌++◌, subst, sym}
use Rattle.std.specs.List.Sorted.{IsStrictlySortedBy}
use Rattle.std.specs.Map.{keys_of}
use Rattle.policy_values.specs.Uid.{text_cmp}
use Rattle.policy_values.specs.Maps.{IsNext}
use Rattle.policy_values.proofs.MapSteps.{next-seam}
use Rattle.policy_expressions.proofs.fill.+fill.Goals as goal

pub fill_named-push_entry-requires : goal.fill_named-push_entry-requires
fill_named-push_entry-requires g t c =
    let done = keys_of c.loop-name.copies.entries in
    let keys = c.loop-name.invariant.keys ∙ ap (λ es. done ++ keys_of es) c.in-Some.ensures.steps in
    let next = next-seam done c.in-Some.name.now (keys_of c.next.new.self) (subst (IsStrictlySortedBy text_cmp) keys c.iter-name-items.ensures.ordered) in
    subst (λ k. IsNext k done) (sym c.in_ok-name.ensures) next
