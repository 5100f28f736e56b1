use Rattle.std.proofs.Common.{◌∷◌, sym, subst, ap, ◌∙◌}
use Rattle.std.specs.List.Sorted.{IsStrictlySortedBy}
use Rattle.policy_values.specs.Uid.{uid_cmp}
use Rattle.reads_spec.specs.Merge.{united}
use Rattle.entity_loader.proofs.Steps.{united_more, united_end, later_ids}
use Rattle.entity_loader.proofs.entities.united.Goals as goal

pub loop-other-preserved : goal.loop-other-preserved
loop-other-preserved c =
    let now = c.in-Some.other.now in
    let rest = c.next.new.self in
    let up : IsStrictlySortedBy uid_cmp (now ∷ rest) = subst (IsStrictlySortedBy uid_cmp) c.in-Some.ensures.steps c.loop-other.invariant.ascending in
    record {
      left = rw (c.in_ok-insert.ensures.keys, c.in_ok-try_clone.ensures) (sym (united_more c.loop-other.all.keys now rest up) ∙ ap (united c.loop-other.all.keys) (sym c.in-Some.ensures.steps) ∙ c.loop-other.invariant.left);
      ascending = later_ids now rest up;
    }

pub returns : goal.returns
returns c = sym (united_end c.loop-other.all.keys) ∙ ap (united c.loop-other.all.keys) (sym c.in-None.ensures.steps.0) ∙ c.loop-other.invariant.left
