use Rattle.std.proofs.Common.{rules, ◌≡◌, None, IsSome, refl, subst, sym, ◌∙◌}
use Rattle.std.specs.Option.{option_copied}
use Rattle.conformance.specs.StoreRules.{entity_fault, first_store_fault}
use Rattle.conformance.proofs.Lacking.{walk_first, known, walk_more, some_first}
use Rattle.conformance.proofs.store.conforms.Goals as goal

pub loop-entity-init : goal.loop-entity-init
loop-entity-init c =
    rw (c.into_iter-entity-iterator.ensures.into_iter_gives, c.iter-entity-items.ensures.rest) (record {
      left = refl;
      walk = walk_first c.args.schema.now c.args.entities.now (option_copied c.least_lacking-lacking.result) c.least_lacking-lacking.ensures c.iter-entity-items.ensures.ascending;
    })

pub broken_rule-requires : goal.broken_rule-requires
broken_rule-requires c =
    known c.args.schema.now c.args.entities.now (option_copied c.least_lacking-lacking.result) c.least_lacking-lacking.ensures c.in-Some.entity.now c.next.new.self
    (rw c.in-Some.ensures.steps at c.loop-entity.invariant.walk) c.is_id-lacks.result (rw c.uid.ensures at c.is_id-lacks.ensures)

pub returns-in_err-rule : goal.returns-in_err-rule
returns-in_err-rule c =
    let left = rw c.in-Some.ensures.steps at c.loop-entity.invariant.left in
    let some : IsSome (first_store_fault c.args.schema.now c.args.entities.now) = subst (λ f. IsSome f) left (some_first c.args.schema.now c.in-Some.entity.now c.next.new.self c.in_err-rule.ensures.memory) in
    search (some, rules)

pub loop-entity-preserved : goal.loop-entity-preserved
loop-entity-preserved c =
    let none : entity_fault c.args.schema.now c.in-Some.entity.now ≡ None = sym c.in_ok-rule.ensures.rule ∙ c.in_default.is in
    record {
      left = rw none at (rw c.in-Some.ensures.steps at c.loop-entity.invariant.left);
      walk = walk_more c.args.schema.now c.args.entities.now (option_copied c.least_lacking-lacking.result) c.least_lacking-lacking.ensures c.in-Some.entity.now c.next.new.self
          (rw c.in-Some.ensures.steps at c.loop-entity.invariant.walk) none;
    }
