use Rattle.std.proofs.Common.{◌≡◌, ap}
use Rattle.std.proofs.lemmas.Result.{IfOk-weaker}
use Rattle.access_tries.specs.declared.edge.EntityRoot.TheVariants.{Var}
use Rattle.policy_expressions.specs.declared.kinds.Var.TheVariants.{Context}
use Rattle.policy_values.specs.Value.{rec}
use Rattle.policy_core.specs.Eval.{known_fields}
use Rattle.reads_spec.specs.Restrict.{root_value}
use Rattle.entity_loading.proofs.CannotGoOnSteps.{blocked_root, no_root_blocks}
use Rattle.entity_loading.proofs.blocking.blocked_in_context.Goals as goal

pub returns-in-None : goal.returns-in-None
returns-in-None c = no_root_blocks c.args.trie.now c.args.request.now c.in-None.ensures

pub returns-in-Some-context : goal.returns-in-Some-context
returns-in-Some-context c =
    let is : root_value c.args.request.now (Var Context) ≡ rec c.in-Some-context.context = ap (λ o. rec (known_fields o)) c.in-Some-context.is in
    IfOk-weaker c.blocked_below.result _ _ (λ o h. blocked_root c.args.trie.now c.args.request.now c.in-Some.below c.in-Some-context.context is c.in-Some.ensures o h) c.blocked_below.ensures
