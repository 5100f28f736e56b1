use Rattle.std.proofs.Common.{◌≡◌, take}
use Rattle.policy_validate.proofs.described.copies_of.Given as goal

abbrev pub invariant-loop-eid : goal.invariant-loop-eid
invariant-loop-eid l = l.copies.items ≡ take l.eid-index l.eids
