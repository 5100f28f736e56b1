use Rattle.manifest_core.proofs.Filling.{one_more}
use Rattle.manifest_core.proofs.read.typed_tries.Goals as goal

pub loop-entry-preserved : goal.loop-entry-preserved
loop-entry-preserved c = one_more c.args.schema.now c.args.entries.items c.loop-entry.left.items c.pop.new.self.items c.in-Some.entry _ _ c.in-Some.ensures.items c.in_ok-put_trie.ensures c.loop-entry.invariant
