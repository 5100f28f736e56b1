use Rattle.std.proofs.Common.{arith}
use Rattle.live_manifest.specs.Tries.{IsFoundTrie}
use Rattle.live_manifest.proofs.Walking.{one_more}
use Rattle.live_manifest.proofs.entry.own_tries.Goals as goal

pub loop-env-preserved : goal.loop-env-preserved
loop-env-preserved g c = record {
  tries = one_more (IsFoundTrie c.args.schema.now c.args.policy.now) c.deref-env-items.result.now c.loop-env.env-index c.env-item.result c.env-item.is c.loop-env-test.true c.loop-env.tries.items _ _
      c.loop-env.invariant.tries c.in_ok-push.ensures.items c.in_ok-own_trie.ensures;
  steps = omega arith;
}
