use Rattle.std.proofs.Common.{◌≡◌, drop}
use Rattle.std.specs.List.{list_all}
use Rattle.policy_typecheck.specs.TypecheckAnswer.{is_success}
use Rattle.policy_typecheck.proofs.sequence.have_all_types.Given as goal

-- it is so of all exactly where it is so of what is left
abbrev pub invariant-loop-answer : goal.invariant-loop-answer
invariant-loop-answer l = list_all is_success (drop l.answer-index l.answers.items) ≡ list_all is_success l.answers.items
