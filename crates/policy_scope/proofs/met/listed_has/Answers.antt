use Rattle.std.proofs.Common.{sym, ◌∙◌}
use Rattle.policy_scope.specs.Met.{has_asked}
use Rattle.policy_scope.proofs.MetSteps.{listed, none_listed}
use Rattle.policy_scope.proofs.met.listed_has.Goals as goal

pub returns-then-are_declared : goal.returns-then-are_declared
returns-then-are_declared c =
    let s = c.args.schema.now in
    c.some_listed_has.ensures ∙ sym (listed s (has_asked s c.args.asked.now) c.args.uids.now (sym c.are_declared.ensures ∙ c.if-are_declared.true))

pub returns-else-are_declared : goal.returns-else-are_declared
returns-else-are_declared c =
    let s = c.args.schema.now in
    c.if-are_declared.false ∙ sym (none_listed s (has_asked s c.args.asked.now) c.args.uids.now (sym c.are_declared.ensures ∙ c.if-are_declared.false))
