use Rattle.std.proofs.Common.{◌∷◌, ◌++◌, ap, ◌∙◌, subst, sym, arith, []}
use Rattle.std.specs.List.Sorted.{IsStrictlySortedBy}
use Rattle.std.specs.Map.{keys_of}
use Rattle.policy_values.specs.Uid.{text_cmp}
use Rattle.policy_values.specs.Maps.{IsNext}
use Rattle.schema_types.specs.Ty.{size_of_attrs}
use Rattle.schema_types.specs.TyView.{attrs_of}
use Rattle.type_relations.specs.Join.{join_attrs, shared}
use Rattle.type_relations.proofs.JoinSteps.{join_turn, keys_turn}
use Rattle.policy_values.proofs.MapSteps.{next-seam}
use Rattle.type_relations.proofs.Pending.{pending, pending_next}
use Rattle.type_relations.proofs.MergeSteps.{merge_next, merge_less, merge_both, merge_over_left, merge_over_right}
use Rattle.type_relations.proofs.join.+join.Goals as goal

pub join_entries-push_entry-requires : goal.join_entries-push_entry-requires
join_entries-push_entry-requires t c =
    let done = keys_of c.loop-key.joined.entries in
    let keys = c.loop-key.invariant.keys ∙ ap (λ es. done ++ keys_of es) c.in-Some.ensures.steps in
    let next = next-seam done c.in-Some.key.now (keys_of c.next.new.self) (subst (IsStrictlySortedBy text_cmp) keys c.iter-key-items.ensures.ordered) in
    subst (λ k. IsNext k done) (sym c.in_ok-key-in-Ok.ensures) next

pub join_entries-loop-key-preserved : goal.join_entries-loop-key-preserved
join_entries-loop-key-preserved t c =
    let done = c.loop-key.joined.entries in
    let made = c.in_ok-push_entry-in-Ok.ensures.added ∙ ap (λ k. done ++ (k, record { attr_type = c.in-Ok.attr_type; is_required = c.in-Some.x.now.is_required }) ∷ []) c.in_ok-key-in-Ok.ensures in
    record {
      left = join_turn (join_attrs (attrs_of c.args.a.now.entries) (attrs_of c.args.b.now.entries)) done c.push_entry.new.map.entries c.loop-key.key-iterator c.loop-key.rest c.next.new.self c.next-in-loop-key.new.self
          c.in-Some.key.now c.in-Some-next.field-0-0.now c.in-Some.x.now c.in-Some-next.y.now c.in-Ok.attr_type
          c.loop-key.invariant.left c.in-Some.ensures.steps c.in-Some-next.ensures.steps (sym (sym c.in-Ok.is ∙ c.in_ok-help-in-Some-next.ensures)) (sym c.bool_eq.ensures ∙ c.if-not-bool_eq.false) made;
      keys = c.loop-key.invariant.keys ∙ ap (λ es. keys_of done ++ keys_of es) c.in-Some.ensures.steps ∙ keys_turn done (c.in-Some.key.now, record { attr_type = c.in-Ok.attr_type; is_required = c.in-Some.x.now.is_required }) c.next.new.self ∙ ap (λ es. keys_of es ++ keys_of c.next.new.self) (sym made);
      size = omega (arith, c.loop-key.invariant.size, ap (λ es. size_of_attrs (attrs_of es)) c.in-Some.ensures.steps);
    }

-- the two lists of what is still to come, where both begin with an entry
pub shared_entries-keep_shared-requires : goal.shared_entries-keep_shared-requires
shared_entries-keep_shared-requires t c =
    let first = ap (λ o. pending o c.merge.left) c.in-Some-Some.is-0 in (
      omega (arith, c.merge.invariant.size, ap (λ es. size_of_attrs (attrs_of es)) first),
      merge_next (shared (attrs_of c.args.a.now.entries) (attrs_of c.args.b.now.entries)) (attrs_of c.args.a.now.entries) c.merge.kept.entries (pending c.merge.first c.merge.left) (pending c.merge.second c.merge.right) c.merge.left c.merge.right c.in-Some-Some.key.now c.in-Some-Some.other.now c.in-Some-Some.x.now c.in-Some-Some.y.now c.merge.invariant first,
    )

pub shared_entries-merge-preserved-in-Less : goal.shared_entries-merge-preserved-in-Less
shared_entries-merge-preserved-in-Less t c =
    let first = ap (λ o. pending o c.merge.left) c.in-Some-Some.is-0 in
    let second = ap (λ o. pending o c.merge.right) c.in-Some-Some.is-1 in
    merge_less (shared (attrs_of c.args.a.now.entries) (attrs_of c.args.b.now.entries)) (attrs_of c.args.a.now.entries) c.merge.kept.entries (pending c.merge.first c.merge.left) (pending c.merge.second c.merge.right) c.merge.left c.merge.right c.in-Some-Some.key.now c.in-Some-Some.other.now c.in-Some-Some.x.now c.in-Some-Some.y.now c.merge.invariant first second
    (pending c.next-first-in-Less.result c.next-first-in-Less.new.self) (sym c.cmp.ensures ∙ c.in-Less.is) (pending_next c.next-first-in-Less.result c.merge.left c.next-first-in-Less.new.self c.next-first-in-Less.ensures.steps)

pub shared_entries-merge-preserved-in-Equal : goal.shared_entries-merge-preserved-in-Equal
shared_entries-merge-preserved-in-Equal t c =
    let first = ap (λ o. pending o c.merge.left) c.in-Some-Some.is-0 in
    let second = ap (λ o. pending o c.merge.right) c.in-Some-Some.is-1 in
    merge_both (shared (attrs_of c.args.a.now.entries) (attrs_of c.args.b.now.entries)) (attrs_of c.args.a.now.entries) c.merge.kept.entries (pending c.merge.first c.merge.left) (pending c.merge.second c.merge.right) c.merge.left c.merge.right c.in-Some-Some.key.now c.in-Some-Some.other.now c.in-Some-Some.x.now c.in-Some-Some.y.now c.merge.invariant first second
    c.keep_shared.new.kept.entries (pending c.next-first-in-Equal.result c.next-first-in-Equal.new.self) (pending c.next-second-in-Equal.result c.next-second-in-Equal.new.self) (sym c.cmp.ensures ∙ c.in-Equal.is) c.in_ok-keep_shared-in-Equal.ensures
    (pending_next c.next-first-in-Equal.result c.merge.left c.next-first-in-Equal.new.self c.next-first-in-Equal.ensures.steps) (pending_next c.next-second-in-Equal.result c.merge.right c.next-second-in-Equal.new.self c.next-second-in-Equal.ensures.steps)

pub shared_entries-returns-in-None-default : goal.shared_entries-returns-in-None-default
shared_entries-returns-in-None-default t c =
    merge_over_left (shared (attrs_of c.args.a.now.entries) (attrs_of c.args.b.now.entries)) (attrs_of c.args.a.now.entries) c.merge.kept.entries (pending c.merge.first c.merge.left) (pending c.merge.second c.merge.right) c.merge.invariant (ap (λ o. pending o c.merge.left) c.in-None-default.is-0)

pub shared_entries-returns-in-Some-None : goal.shared_entries-returns-in-Some-None
shared_entries-returns-in-Some-None t c =
    merge_over_right (shared (attrs_of c.args.a.now.entries) (attrs_of c.args.b.now.entries)) (attrs_of c.args.a.now.entries) c.merge.kept.entries (pending c.merge.first c.merge.left) (pending c.merge.second c.merge.right) c.merge.left c.in-Some-None.field-0-0.0.now c.in-Some-None.field-0-0.1.now c.merge.invariant (ap (λ o. pending o c.merge.left) c.in-Some-None.is-0) (ap (λ o. pending o c.merge.right) c.in-Some-None.is-1)
