use Rattle.std.proofs.Common.{◌∙◌}
use Rattle.std.specs.BTreeMap.{get}
use Rattle.policy_values.specs.Uid.{uid_cmp}
use Rattle.entity_store.proofs.Linking.{least_own, store_made}
use Rattle.entity_store.proofs.Placed.{ids_linked, linked_at}
use Rattle.entity_store.proofs.entities.Entities.from_parents.Goals as goal

pub returns-in-Some : goal.returns-in-Some
returns-in-Some c = rw (c.in-Some.is, c.deref.ensures.value) at c.in_ok-uid.ensures

pub parents_of-requires : goal.parents_of-requires
parents_of-requires c = rw c.deref-2.ensures.value (rw (c.in_default.is, c.deref.ensures.value) at c.in_ok-uid.ensures)

pub returns-in-Some-first_own : goal.returns-in-Some-first_own
returns-in-Some-first_own c =
    let once = rw (c.in_default.is, c.deref.ensures.value) at c.in_ok-uid.ensures in
    let placed = rw c.deref-2.ensures.value at c.in_ok-parents.ensures in
    (once, rw c.in_ok-try_clone.ensures (least_own c.args.entities.items c.in_ok-parents.parents.entries c.in_ok-ancestors.ancestors.entries placed c.in_ok-ancestors.ensures c.in-Some-first_own.uid.now c.in-Some-first_own.ensures))

pub under_ids-requires : goal.under_ids-requires
under_ids-requires c =
    let once = rw (c.in_default.is, c.deref.ensures.value) at c.in_ok-uid.ensures in
    rw (c.in_ok-entities.ensures, ids_linked (get uid_cmp c.in_ok-ancestors.ancestors) c.args.entities.items) once

pub returns : goal.returns
returns c =
    let once = rw (c.in_default.is, c.deref.ensures.value) at c.in_ok-uid.ensures in
    let placed = rw c.deref-2.ensures.value at c.in_ok-parents.ensures in
    let links = get uid_cmp c.in_ok-ancestors.ancestors in
    store_made c.args.entities.items c.in_ok-parents.parents.entries c.in_ok-ancestors.ancestors.entries placed c.in_ok-ancestors.ensures c.in_ok-under_ids.field-0 once c.in_default-first_own.ensures
    c.in_ok-under_ids.ensures.ordered
    (λ q. rw c.in_ok-entities.ensures at (c.in_ok-under_ids.ensures.kept q) ∙ linked_at links c.args.entities.items q)
    c.in_ok-under_ids.ensures.ascending
