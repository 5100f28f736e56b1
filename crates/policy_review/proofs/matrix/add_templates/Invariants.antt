use Rattle.std.proofs.Common.{◌≡◌, fold}
use Rattle.policy_review.specs.Found.{with_level}
use Rattle.policy_review.proofs.matrix.add_templates.Given as goal

-- those so far, and then those that are left
abbrev pub invariant-loop-template : goal.invariant-loop-template
invariant-loop-template l = fold (with_level l.schema) l.levels.entries l.template-iterator ≡ fold (with_level l.schema) l.fn.levels.entries l.policies.templates
