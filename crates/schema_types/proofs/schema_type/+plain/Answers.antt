use Rattle.std.proofs.Common.{◌∷◌, ◌++◌, ap, ◌∙◌, subst, sym, arith, []}
use Rattle.std.specs.List.Sorted.{IsStrictlySortedBy}
use Rattle.std.specs.Map.{keys_of}
use Rattle.policy_values.specs.Uid.{text_cmp}
use Rattle.policy_values.specs.Maps.{IsNext}
use Rattle.policy_values.proofs.MapSteps.{next-seam}
use Rattle.schema_types.specs.Ty.{size_of_attrs}
use Rattle.schema_types.specs.TyView.{attrs_of}
use Rattle.schema_types.specs.Plain.{plain_attrs}
use Rattle.schema_types.proofs.PlainSteps.{plain_turn, keys_turn}
use Rattle.schema_types.proofs.schema_type.+plain.Goals as goal

pub schema_entries-push_entry-requires : goal.schema_entries-push_entry-requires
schema_entries-push_entry-requires t c =
    let done = keys_of c.loop-key.made.entries in
    let keys = c.loop-key.invariant.keys ∙ ap (λ es. done ++ keys_of es) c.in-Some.ensures.steps in
    let next = next-seam done c.in-Some.key.now (keys_of c.next.new.self) (subst (IsStrictlySortedBy text_cmp) keys c.iter-key-items.ensures.ordered) in
    subst (λ k. IsNext k done) (sym c.in_ok-key-in-Some-2.ensures) next

pub schema_entries-loop-key-preserved : goal.schema_entries-loop-key-preserved
schema_entries-loop-key-preserved t c =
    let done = c.loop-key.made.entries in
    let made = c.in_ok-push_entry-in-Some-2.ensures.added ∙ ap (λ k. done ++ (k, record { attr_type = c.in-Some-2.attr_type; is_required = c.in-Some.x.now.is_required }) ∷ []) c.in_ok-key-in-Some-2.ensures in
    record {
      left = plain_turn (plain_attrs (attrs_of c.args.entries.now.entries)) done c.push_entry.new.map.entries c.loop-key.key-iterator c.next.new.self c.in-Some.key.now c.in-Some.x.now c.in-Some-2.attr_type
          c.loop-key.invariant.left c.in-Some.ensures.steps (sym (sym c.in-Some-2.is ∙ c.in_ok-schema_type_of.ensures)) made;
      keys = c.loop-key.invariant.keys ∙ ap (λ es. keys_of done ++ keys_of es) c.in-Some.ensures.steps ∙ keys_turn done (c.in-Some.key.now, record { attr_type = c.in-Some-2.attr_type; is_required = c.in-Some.x.now.is_required }) (keys_of c.next.new.self) ∙ ap (λ es. keys_of es ++ keys_of c.next.new.self) (sym made);
      size = omega (arith, c.loop-key.invariant.size, ap (λ es. size_of_attrs (attrs_of es)) c.in-Some.ensures.steps);
    }
