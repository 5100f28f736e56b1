use Rattle.std.proofs.Common.{false, sym, ap, ◌∙◌}
use Rattle.std.specs.Option.{option_map_or}
use Rattle.policy_scope.specs.Met.{has_asked}
use Rattle.policy_scope.proofs.MetSteps.{named}
use Rattle.policy_scope.proofs.met.named_has.Goals as goal

pub returns-in-Some : goal.returns-in-Some
returns-in-Some c =
    let s = c.args.schema.now in
    let p = has_asked s c.args.asked.now in
    c.has_asked.ensures ∙ ap (λ o. option_map_or p o false) c.in-Some.ensures ∙ sym (named s p c.requires c.args.uid.now)

pub returns-in-None : goal.returns-in-None
returns-in-None c =
    let s = c.args.schema.now in
    let p = has_asked s c.args.asked.now in
    ap (λ o. option_map_or p o false) c.in-None.ensures ∙ sym (named s p c.requires c.args.uid.now)
