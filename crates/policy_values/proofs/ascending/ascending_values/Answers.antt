use Rattle.std.proofs.Common.{refl, ◌∙◌}
use Rattle.std.proofs.lemmas.List.Filters.{dedup_is}
use Rattle.policy_values.specs.ValueOrder.{val_cmp}
use Rattle.policy_values.specs.ValueLaws.{val_cmp_total, exact_val}
use Rattle.policy_values.proofs.Sorted.{dedup_sorted}
use Rattle.policy_values.proofs.ascending.ascending_values.Goals as goal

pub returns : goal.returns
returns c =
    dedup_is _ _ _ c.dedup.ensures.filtered
    ∙ dedup_sorted val_cmp val_cmp_total exact_val _ (λ x y. refl) c.args.values.items
    c.sort_unstable.new.self.items c.sort_unstable.ensures.permutation c.sort_unstable.ensures.sorted
