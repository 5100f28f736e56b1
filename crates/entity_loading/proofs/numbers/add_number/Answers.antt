use Rattle.std.proofs.Common.{◌≡◌, ◌∙◌, ◌++◌, ◌∷◌, [], ap, Some, cond}
use Rattle.std.specs.Option.{option_map_or}
use Rattle.std.specs.BTreeMap.{get}
use Rattle.std.specs.declared.vec.Vec.{Vec}
use Rattle.std.specs.declared.alloc.Global.{Global}
use Rattle.std.specs.Prelude.{ℕ}
use Rattle.policy_values.specs.declared.entity_uid.EntityUID.{EntityUID}
use Rattle.policy_values.specs.Uid.{uid_cmp, uid_eq}
use Rattle.entity_loading.specs.Kept.{numbers_at}
use Rattle.entity_loading.proofs.SliceKeptSteps.{numbered, put_over}
use Rattle.entity_loading.proofs.numbers.add_number.Goals as goal
use Rattle.entity_loading.proofs.numbers.add_number.Goals.{in-Some, in-None}

pub returns : goal.returns
returns c =
    let x = c.args.uid.now in
    let old = c.args.numbers.now in
    let before : c.match-remove.list.items ≡ numbers_at old x = elim c.match-remove.branch [
      | in-Some w ↦ ap (λ (l : Vec ℕ Global). l.items) w.list-is ∙ ap (λ o. option_map_or (λ (l : Vec ℕ Global). l.items) o []) w.in-Some.ensures.value
      | in-None w ↦ ap (λ (l : Vec ℕ Global). l.items) w.list-is ∙ w.new-list.ensures.items ∙ ap (λ o. option_map_or (λ (l : Vec ℕ Global). l.items) o []) w.in-None.ensures.value
    ] in
    let put : (y : EntityUID) → get uid_cmp c.insert.new.self y ≡ cond (uid_eq x y) (Some c.push.new.self) (get uid_cmp old y) = λ y.
    (rw c.in_ok-try_clone.ensures at (c.in_ok-insert.ensures.updates.0 y)) ∙ put_over (uid_eq x y) (Some c.push.new.self) _ _ (c.remove.ensures.updates.0 y) in
    numbered x c.args.number old c.insert.new.self c.push.new.self (c.in_ok-push.ensures.items ∙ ap (λ is. is ++ c.args.number ∷ []) before) put
