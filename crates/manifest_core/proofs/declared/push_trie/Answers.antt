use Rattle.std.proofs.Common.{◌∙◌}
use Rattle.manifest_core.proofs.Entries.{put_next}
use Rattle.manifest_core.proofs.declared.push_trie.Goals as goal

pub returns : goal.returns
returns c = c.in_ok-insert.ensures.entries ∙ put_next c.args.tries.now.entries c.args.request_type c.args.trie c.requires
