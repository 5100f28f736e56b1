use Rattle.std.proofs.Common.{◌≡◌, take}
use Rattle.live_manifest.proofs.uniting.copies.Given as goal

abbrev pub invariant-loop-trie : goal.invariant-loop-trie
invariant-loop-trie l = l.copies.items ≡ take l.trie-index l.tries
