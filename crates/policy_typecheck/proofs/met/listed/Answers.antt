use Rattle.std.proofs.Common.{◌≡◌, IfOk, filter, sym, ap, ◌∙◌, subst}
use Rattle.policy_values.specs.Reaches.{has}
use Rattle.policy_values.specs.Uid.{uid_cmp}
use Rattle.schema_core.specs.Schema.{ActionData}
use Rattle.policy_typecheck.specs.Pointed.{pointed}
use Rattle.policy_typecheck.proofs.MetActions.{listed_meet, none_meets}
use Rattle.policy_typecheck.proofs.met.listed.Goals as goal

pub returns-in_ok-ids : goal.returns-in_ok-ids
returns-in_ok-ids c =
    let s = c.args.schema.now in
    let ids = c.in_ok-ids.ids in
    subst (λ z. IfOk c.among.result (λ r. pointed r.items ≡ z))
    (ap (filter (λ (a : ActionData). has uid_cmp ids.keys a.name)) c.action_ids.ensures.value ∙
    listed_meet s c.args.uids.now ids.keys (sym c.are_declared.ensures ∙ c.if-are_declared.true) c.in_ok-ids.ensures)
    c.among.ensures

pub returns-else-are_declared : goal.returns-else-are_declared
returns-else-are_declared c = ap pointed c.new.ensures.items ∙ sym (none_meets c.args.schema.now c.args.uids.now (sym c.are_declared.ensures ∙ c.if-are_declared.false))
