use Rattle.std.proofs.Common.{◌≡◌, true, [], sym, ◌∙◌}
use Rattle.access_tries.specs.Views.{view_marks}
use Rattle.policy_values.specs.Uid.{uid_eq}
use Rattle.entity_loading.specs.Waiting.{Has}
use Rattle.entity_loading.proofs.NameSteps.{inserted, adds_same, both_known}
use Rattle.entity_loading.proofs.names.name_here.Goals as goal

pub returns-in_ok-insert : goal.returns-in_ok-insert
returns-in_ok-insert c =
    let x = c.args.uid.now in
    adds_same (λ y. uid_eq y x ≡ true) (λ y. (view_marks c.args.trie.now [] ≡ true) × (uid_eq y x ≡ true)) (Has c.args.ids.now) (Has c.insert.new.self)
    (both_known (λ y. uid_eq y x ≡ true) (view_marks c.args.trie.now [] ≡ true) (sym c.is_ancestor.ensures ∙ c.if-is_ancestor.true))
    (inserted x c.args.ids.now c.insert.new.self (rw c.in_ok-try_clone.ensures at c.in_ok-insert.ensures.updates.0))
