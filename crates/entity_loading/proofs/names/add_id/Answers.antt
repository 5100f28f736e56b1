use Rattle.std.proofs.Common.{◌≡◌, true, sym, ap, ◌∙◌, subst}
use Rattle.reads_spec.specs.Restrict.{is_id}
use Rattle.policy_values.specs.Value.{entity}
use Rattle.policy_values.specs.ValueView.{val_of}
use Rattle.entity_loading.specs.Waiting.{Has, Adds}
use Rattle.entity_loading.proofs.NameSteps.{inserted}
use Rattle.entity_loading.proofs.names.add_id.Goals as goal

pub returns-in_ok-insert-in-EntityUID : goal.returns-in_ok-insert-in-EntityUID
returns-in_ok-insert-in-EntityUID c =
    let x = c.in-EntityUID.uid in
    let is : entity x ≡ c.args.value.now = ap val_of (sym c.in-EntityUID.is) ∙ c.kind.ensures.content in
    subst (λ v. Adds (λ y. is_id y v ≡ true) (Has c.args.ids.now) (Has c.insert.new.self)) is
    (inserted x c.args.ids.now c.insert.new.self (rw c.in_ok-try_clone-in-EntityUID.ensures at c.in_ok-insert-in-EntityUID.ensures.updates.0))
