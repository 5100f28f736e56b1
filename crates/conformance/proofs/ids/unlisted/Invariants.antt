use Rattle.std.proofs.Common.{◌≡◌, ◌++◌, drop}
use Rattle.conformance.proofs.ids.unlisted.Given as goal

-- the ids so far, and then those that are left
abbrev pub invariant-loop-eid : goal.invariant-loop-eid
invariant-loop-eid l = l.listed.items ++ drop l.eid-index l.choices ≡ l.choices
