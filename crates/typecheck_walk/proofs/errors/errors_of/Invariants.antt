use Rattle.std.proofs.Common.{◌≡◌, ◌++◌, map}
use Rattle.std.specs.Vec.Iter.{into_iter_items}
use Rattle.findings.specs.Seen.{error_of}
use Rattle.typecheck_rules.specs.Found.{findings_from}
use Rattle.typecheck_walk.proofs.errors.errors_of.Given as goal

-- the errors so far, and those of the findings that are left
abbrev pub invariant-loop-finding : goal.invariant-loop-finding
invariant-loop-finding l = l.errors.items ++ map (error_of l.id) (findings_from (into_iter_items l.finding-iterator)) ≡ map (error_of l.id) (findings_from l.fn.found.items)
