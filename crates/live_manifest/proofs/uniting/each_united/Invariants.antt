use Rattle.std.proofs.Common.{◌++◌, List, map}
use Rattle.std.specs.Slice.Iter.{iter_rest}
use Rattle.access_tries.specs.Table.{Table}
use Rattle.live_manifest.specs.Tries.{AreUnionsOf}
use Rattle.live_manifest.proofs.uniting.each_united.Given as goal

-- the unions so far, whatever the others are
abbrev pub invariant-loop-whole : goal.invariant-loop-whole
invariant-loop-whole l = (vs : List Table) → AreUnionsOf l.whole-iterator (iter_rest l.rest) vs → AreUnionsOf (map (λ e. e.1) l.manifest) l.own (l.tries.items ++ vs)
