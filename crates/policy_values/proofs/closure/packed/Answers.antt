use Rattle.std.proofs.Common.{◌∙◌, ap, length}
use Rattle.std.specs.BTreeSet.{IsFromIterResult}
use Rattle.std.proofs.lemmas.Result.{IfOk-weaker}
use Rattle.std.proofs.lemmas.Iterator.Adapters.{YieldsList-from_vec, fact_from_collect}
use Rattle.policy_values.proofs.SameSorted.{made_of_sorted}
use Rattle.policy_values.proofs.closure.packed.Goals as goal

pub returns : goal.returns
returns g c = IfOk-weaker c.collect.result _ _
    (λ made h. made_of_sorted g.K.Ord.cmp g.met.K.Ord.total g.met.K.Key.exact c.args.set.now.keys made c.in_ok-keys.ensures.ordered h)
    (fact_from_collect (IsFromIterResult g.K.Ord.cmp) c.collect.result c.collect.ensures.ran
    (YieldsList-from_vec c.args.set.now.keys (c.into_iter.ensures.rest ∙ c.in_ok-keys.ensures.keys) (c.into_iter.ensures.len ∙ c.in_ok-keys.keys.ok.0 ∙ ap length c.in_ok-keys.ensures.keys)))
