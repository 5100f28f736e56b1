use Rattle.std.proofs.Common.{◌≡◌, ◌++◌, drop}
use Rattle.std.specs.Prelude.{filter}
use Rattle.policy_values.specs.Reaches.{has}
use Rattle.policy_values.specs.Uid.{uid_cmp}
use Rattle.schema_core.specs.Schema.{ActionData}
use Rattle.policy_typecheck.specs.Pointed.{pointed}
use Rattle.policy_typecheck.proofs.met.among.Given as goal

-- those so far, and those of what is left
abbrev pub invariant-loop-action : goal.invariant-loop-action
invariant-loop-action l =
    pointed l.met.items ++ filter (λ (a : ActionData). has uid_cmp l.ids.keys a.name) (drop l.action-index l.actions) ≡
    filter (λ (a : ActionData). has uid_cmp l.ids.keys a.name) l.actions
