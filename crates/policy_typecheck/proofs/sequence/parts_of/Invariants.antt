use Rattle.std.proofs.Common.{◌≡◌, ◌++◌, map}
use Rattle.std.specs.Vec.Iter.{into_iter_items}
use Rattle.policy_typecheck.specs.TypecheckAnswer.{part_of}
use Rattle.policy_typecheck.proofs.sequence.parts_of.Given as goal

-- the parts so far, and those of the answers that are left
abbrev pub invariant-loop-answer : goal.invariant-loop-answer
invariant-loop-answer l = l.parts.items ++ map part_of (into_iter_items l.answer-iterator) ≡ map part_of l.fn.answers.items
