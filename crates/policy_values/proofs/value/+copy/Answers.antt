use Rattle.std.proofs.Common.{◌∷◌, ◌++◌, arith, ap, ◌∙◌, subst, sym}
use Rattle.std.specs.List.Sorted.{IsStrictlySortedBy}
use Rattle.std.specs.Map.{keys_of}
use Rattle.policy_values.specs.Value.{size_of, size_of_all, size_of_fields, vals_of, fields_of}
use Rattle.policy_values.specs.Uid.{text_cmp}
use Rattle.policy_values.specs.Maps.{IsNext}
use Rattle.policy_values.proofs.Sizes.{size_of-get_or, size_of-seam}
use Rattle.policy_values.proofs.MapSteps.{next-seam, keys_of-append}
use Rattle.policy_values.proofs.value.+copy.Goals as goal

pub copy_of_all-copy_of-requires : goal.copy_of_all-copy_of-requires
copy_of_all-copy_of-requires t c =
    let items = c.deref-item-items.result.now in
    let whole = ap (λ xs. size_of_all (vals_of xs)) c.deref-item-items.ensures.value in
    (omega (arith, ap size_of c.item-item.is, size_of-get_or items c.loop-item.item-index c.item-item.result (omega arith), whole), tt)

pub try_clone_fields-copy_of-requires : goal.try_clone_fields-copy_of-requires
try_clone_fields-copy_of-requires t c =
    let done = c.loop-name.copies.entries in
    let all = c.loop-name.invariant ∙ ap (λ es. done ++ es) c.in-Some.ensures.steps in
    (omega (arith, ap (λ es. size_of_fields (fields_of es)) all, size_of-seam done (c.in-Some.name.now, c.in-Some.item.now) c.next.new.self), tt)

pub try_clone_fields-push_entry-requires : goal.try_clone_fields-push_entry-requires
try_clone_fields-push_entry-requires t c =
    let done = c.loop-name.copies.entries in
    let all = c.loop-name.invariant ∙ ap (λ es. done ++ es) c.in-Some.ensures.steps in
    let keys = ap keys_of all ∙ keys_of-append done ((c.in-Some.name.now, c.in-Some.item.now) ∷ c.next.new.self) in
    let next = next-seam (keys_of done) c.in-Some.name.now (keys_of c.next.new.self) (subst (IsStrictlySortedBy text_cmp) keys c.iter-name-items.ensures.ordered) in
    subst (λ k. IsNext k (keys_of done)) (sym c.in_ok-name.ensures) next
