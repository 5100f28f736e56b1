use Rattle.std.proofs.Common.{ap, ◌∙◌, subst}
use Rattle.std.specs.List.Sorted.{IsPermutation}
use Rattle.std.proofs.lemmas.List.Sorted.{IsPermutation-map}
use Rattle.access_tries.specs.Tails.{tails}
use Rattle.access_tries.specs.Walks.{addresses_in}
use Rattle.access_tries.proofs.Tails.{rise_of_sorted, whole}
use Rattle.access_tries.proofs.least.in_order.Goals as goal

pub returns : goal.returns
returns c =
    let ordered = c.sort_unstable.new.self.items in
    record {
      same = subst (λ xs. IsPermutation xs (tails 0 ordered)) (c.loop-edges.invariant ∙ ap addresses_in (whole c.loop-edges.edges-index c.args.addresses.now c.loop-edges-test.false)) (IsPermutation-map (λ a. a.now) _ _ c.sort_unstable.ensures.permutation);
      rise = rise_of_sorted ordered c.sort_unstable.ensures.sorted;
    }
