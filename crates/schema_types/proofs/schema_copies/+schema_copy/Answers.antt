use Rattle.std.proofs.Common.{◌∷◌, ◌++◌, ap, ◌∙◌, subst, sym}
use Rattle.std.specs.List.Sorted.{IsStrictlySortedBy}
use Rattle.std.specs.Map.{keys_of}
use Rattle.policy_values.specs.Uid.{text_cmp}
use Rattle.policy_values.specs.Maps.{IsNext}
use Rattle.policy_values.proofs.MapSteps.{next-seam, keys_of-append}
use Rattle.schema_types.proofs.schema_copies.+schema_copy.Goals as goal

pub schema_copy_of_entries-push_entry-requires : goal.schema_copy_of_entries-push_entry-requires
schema_copy_of_entries-push_entry-requires t c =
    let done = c.loop-key.copies.entries in
    let all = c.loop-key.invariant.all ∙ ap (λ es. done ++ es) c.in-Some.ensures.steps in
    let keys = ap keys_of all ∙ keys_of-append done ((c.in-Some.key.now, c.in-Some.x.now) ∷ c.next.new.self) in
    let next = next-seam (keys_of done) c.in-Some.key.now (keys_of c.next.new.self) (subst (IsStrictlySortedBy text_cmp) keys c.iter-key-items.ensures.ordered) in
    subst (λ k. IsNext k (keys_of done)) (sym c.in_ok-key.ensures) next
