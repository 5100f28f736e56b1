use Rattle.std.proofs.Common.{[], sym, map, ◌≡◌, ◌∙◌, arith}
use Rattle.std.specs.Prelude.{flat_map}
use Rattle.policy_validate.specs.Errors.{condition_in, dereferences_in}
use Rattle.policy_review.proofs.Raising.{all_pass, none_counted, none_needed, needed_raises, some_counted}
use Rattle.policy_review.proofs.levels.raised.Goals as goal

pub loop-errors-preserved : goal.loop-errors-preserved
loop-errors-preserved c =
    let es = c.in_ok-errors.errors in
    let some : es.items ≡ [] → ⊥ = some_counted es.items es.len (omega (arith, es.ok)) (sym c.is_empty.ensures ∙ c.if-is_empty.false) in
    (needed_raises c.args.policy_id.now c.loop-errors.level (flat_map dereferences_in (map condition_in c.args.conditions.now.items)) es.items some c.in_ok-errors.ensures.reported c.in-Some.more
    (sym c.needed_by.ensures ∙ c.in-Some.is)).same ∙ c.loop-errors.invariant

pub loop-errors-smaller : goal.loop-errors-smaller
loop-errors-smaller c =
    let es = c.in_ok-errors.errors in
    let some : es.items ≡ [] → ⊥ = some_counted es.items es.len (omega (arith, es.ok)) (sym c.is_empty.ensures ∙ c.if-is_empty.false) in
    (needed_raises c.args.policy_id.now c.loop-errors.level (flat_map dereferences_in (map condition_in c.args.conditions.now.items)) es.items some c.in_ok-errors.ensures.reported c.in-Some.more
    (sym c.needed_by.ensures ∙ c.in-Some.is)).nearer

pub returns-then-is_empty : goal.returns-then-is_empty
returns-then-is_empty c =
    let es = c.in_ok-errors.errors in
    let none : es.items ≡ [] = none_counted es.items es.len (omega (arith, es.ok)) (sym c.is_empty.ensures ∙ c.if-is_empty.true) in
    sym (all_pass c.loop-errors.level (map condition_in c.args.conditions.now.items) (c.in_ok-errors.ensures.none.0 none)) ∙ c.loop-errors.invariant

pub returns-in-None : goal.returns-in-None
returns-in-None c =
    let es = c.in_ok-errors.errors in
    let some : es.items ≡ [] → ⊥ = some_counted es.items es.len (omega (arith, es.ok)) (sym c.is_empty.ensures ∙ c.if-is_empty.false) in
    sym (none_needed c.args.policy_id.now c.loop-errors.level (flat_map dereferences_in (map condition_in c.args.conditions.now.items)) es.items some c.in_ok-errors.ensures.reported (sym c.needed_by.ensures ∙ c.in-None.is))
    ∙ c.loop-errors.invariant
