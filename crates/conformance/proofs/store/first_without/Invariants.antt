use Rattle.std.proofs.Common.{◌≡◌, find}
use Rattle.conformance.specs.StoreRules.{lacks_it}
use Rattle.conformance.proofs.store.first_without.Given as goal

-- what is left has the answer of the whole
abbrev pub invariant-loop-uid : goal.invariant-loop-uid
invariant-loop-uid l = find (lacks_it l.entities l.action) l.uid-iterator ≡ find (lacks_it l.entities l.action) l.action.descendants
