use Rattle.std.proofs.Common.{◌≡◌, take}
use Rattle.access_tries.proofs.table.Node.try_clone.Given as goal

abbrev pub invariant-loop-link : goal.invariant-loop-link
invariant-loop-link l = l.links.items ≡ take l.link-index l.self-inside.links.items
