use Rattle.std.proofs.Common.{◌∷◌, [], ◌++◌, sym, ap, ◌∙◌}
use Rattle.std.specs.Option.{option_to_list}
use Rattle.policy_typecheck.specs.Pointed.{pointed}
use Rattle.policy_typecheck.proofs.MetActions.{named_alone}
use Rattle.policy_typecheck.proofs.met.named.Goals as goal

pub returns-in_ok-push-in-Some : goal.returns-in_ok-push-in-Some
returns-in_ok-push-in-Some c =
    ap pointed (c.in_ok-push-in-Some.ensures.items ∙ ap (λ rs. rs ++ c.in-Some.action ∷ []) c.new-met.ensures.items) ∙ ap option_to_list c.in-Some.ensures ∙
    sym (named_alone c.args.uid.now c.args.schema.now.action_ids c.requires.actions_ascend)

pub returns-in-None : goal.returns-in-None
returns-in-None c = ap pointed c.new.ensures.items ∙ ap option_to_list c.in-None.ensures ∙ sym (named_alone c.args.uid.now c.args.schema.now.action_ids c.requires.actions_ascend)
