use Rattle.std.proofs.Common.{map}
use Rattle.std.specs.Map.Iter.{deref}
use Rattle.std.specs.declared.vec.Vec.{Vec}
use Rattle.std.specs.declared.alloc.Global.{Global}
use Rattle.access_tries.specs.Table.{Table}
use Rattle.live_manifest.proofs.Others.{AreTaken}
use Rattle.live_manifest.proofs.rest.others.Given as goal

-- those of the policies so far, and each policy that is left has its tries
abbrev pub invariant-loop-policy : goal.invariant-loop-policy
invariant-loop-policy l = AreTaken l.schema l.tries l.id l.policies.policies l.policy-iterator (map (deref {X = Vec Table Global}) l.others.items)
