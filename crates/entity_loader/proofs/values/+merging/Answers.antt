use Rattle.std.proofs.Common.{Some, None, sym, ap, ◌∙◌, arith}
use Rattle.policy_values.specs.Value.{size_of_fields, fields_of}
use Rattle.entity_loader.specs.Merged.{merged_with}
use Rattle.entity_loader.proofs.Steps.{merged_step, rest_ascends}
use Rattle.entity_loader.proofs.values.+merging.Goals as goal

pub merge_fields-loop-key-preserved : goal.merge_fields-loop-key-preserved
merge_fields-loop-key-preserved t c =
    let i = c.loop-key.invariant in
    let key = c.in-Some.key.now in
    let other = c.in-Some.other.now in
    record {
      left = rw (c.in_ok-put-in-Some-2.ensures.entries, c.in_ok-try_clone-in-Some-2.ensures)
          (sym (merged_step c.loop-key.merged.entries key other c.next.new.self c.loop-key.key-iterator i.ordered i.ascending c.in-Some.ensures.steps (Some c.in-Some-2.value) (sym c.in-Some-2.is ∙ c.in_ok-value.ensures ∙ ap (λ o. merged_with o other) c.get.ensures.value)) ∙ i.left);
      ordered = c.in_ok-put-in-Some-2.ensures.ordered;
      ascending = rest_ascends c.loop-key.merged.entries key other c.next.new.self c.loop-key.key-iterator i.ordered i.ascending c.in-Some.ensures.steps;
      within = omega (arith, i.within, ap (λ es. size_of_fields (fields_of es)) c.in-Some.ensures.steps);
    }

pub merge_fields-returns-in-None-2 : goal.merge_fields-returns-in-None-2
merge_fields-returns-in-None-2 t c =
    let i = c.loop-key.invariant in
    let other = c.in-Some.other.now in
    sym (merged_step c.loop-key.merged.entries c.in-Some.key.now other c.next.new.self c.loop-key.key-iterator i.ordered i.ascending c.in-Some.ensures.steps None (sym c.in-None-2.is ∙ c.in_ok-value.ensures ∙ ap (λ o. merged_with o other) c.get.ensures.value)) ∙ i.left
