use Rattle.std.proofs.Common.{◌≡◌, take}
use Rattle.findings.proofs.copies.copied_eids.Given as goal

abbrev pub invariant-loop-eid : goal.invariant-loop-eid
invariant-loop-eid l = l.copies.items ≡ take l.eid-index l.eids
