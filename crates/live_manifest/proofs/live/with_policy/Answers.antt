use Rattle.std.proofs.Common.{Some, subst}
use Rattle.std.specs.BTreeMap.{UpdatesBy}
use Rattle.policy_values.specs.Uid.{text_cmp}
use Rattle.live_manifest.specs.Tries.{AreUnited}
use Rattle.live_manifest.proofs.Adding.{adds}
use Rattle.live_manifest.proofs.live.with_policy.Goals as goal

pub returns-in-Ok-clause-added : goal.returns-in-Ok-clause-added
returns-in-Ok-clause-added g c =
    adds c.args.schema.now c.args.policies.now c.args.id.now c.args.tries.now c.insert.new.self c.args.manifest.now c.in_ok-made.made c.in_ok-own.own c.in_ok-all.all.items c.tries_where_accepted.ensures c.in_ok-own.ensures.tries
    (subst (λ us. AreUnited c.args.manifest.now us c.in_ok-all.all.items) c.as_slice.ensures.value c.in_ok-all.ensures) c.in_ok-made.ensures
    (subst (λ k. UpdatesBy text_cmp (text_cmp k) c.args.tries.now c.insert.new.self (Some c.in_ok-own.own)) c.in_ok-key.ensures c.in-Ok.ensures.updates)
