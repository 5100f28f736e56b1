use Rattle.std.proofs.Common.{◌≡◌, ◌∙◌, ℕ, ap, false, Option, Some, cond}
use Rattle.std.specs.BTreeMap.{get, is_at}
use Rattle.std.specs.BTreeSet.{BTreeSet, contains}
use Rattle.std.specs.List.{list_any}
use Rattle.std.specs.Option.{option_map_or}
use Rattle.std.specs.Ordering.{is_eq, nat_cmp}
use Rattle.policy_values.specs.declared.entity_uid.EntityUID.{EntityUID}
use Rattle.policy_values.specs.Uid.{uid_cmp}
use Rattle.entity_loading.specs.Waiting.{waits}
use Rattle.entity_loading.proofs.WaitSteps.{waits_put, put_over}
use Rattle.entity_loading.proofs.names.wait.Goals as goal
use Rattle.entity_loading.proofs.names.wait.Goals.{in-Some, in-None}

pub returns : goal.returns
returns c =
    let n = c.args.number in
    let x = c.args.uid.now in
    let old = c.args.waiting.now in
    let uids = c.match-remove.uids in
    let put = c.insert.new.self in
    let new = c.insert-2.new.self in
    let before : (y : EntityUID) → contains uid_cmp uids y ≡ waits old n y = λ y. elim c.match-remove.branch [
      | in-Some w ↦ ap (λ (b : BTreeSet EntityUID). contains uid_cmp b y) w.uids-is ∙ ap (λ (o : Option (BTreeSet EntityUID)). option_map_or (λ ids. contains uid_cmp ids y) o false) w.in-Some.ensures.value
      | in-None w ↦ ap (λ (b : BTreeSet EntityUID). contains uid_cmp b y) w.uids-is ∙ ap (λ ks. list_any (is_at (uid_cmp y)) ks) w.new-uids.ensures.empty
          ∙ ap (λ (o : Option (BTreeSet EntityUID)). option_map_or (λ ids. contains uid_cmp ids y) o false) w.in-None.ensures.value
    ] in
    let put_set : (m : ℕ) → get nat_cmp new m ≡ cond (is_eq (nat_cmp n m)) (Some put) (get nat_cmp old m) = λ m.
    c.in_ok-insert-2.ensures.updates.0 m ∙ put_over (is_eq (nat_cmp n m)) (Some put) _ _ (c.remove.ensures.updates.0 m) in
    waits_put n x old new uids put before (rw c.in_ok-try_clone.ensures at c.in_ok-insert.ensures.updates.0) put_set
