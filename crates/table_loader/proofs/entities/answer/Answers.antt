use Rattle.std.proofs.Common.{◌≡◌, sym, ◌∙◌}
use Rattle.policy_values.specs.Value.{fields_of}
use Rattle.table_loader.specs.RowsState.{has_entity}
use Rattle.table_loader.proofs.Loading.{at_ok, absent, present}
use Rattle.table_loader.proofs.entities.answer.Goals as goal

pub returns-then-not-branch-clause-honest : goal.returns-then-not-branch-clause-honest
returns-then-not-branch-clause-honest g c = λ t known order.
    let r = c.args.request.now in
    let there : c.in_ok-loaded.field-0 ≡ has_entity t r.entity_id = at_ok (λ b. b ≡ has_entity t r.entity_id) c.entity.result c.in_ok-loaded.field-0 c.in_ok-loaded.ensures.ok (c.entity.ensures.answer t known) in
    absent t r (sym there ∙ c.if-not-branch.true)

pub returns-clause-honest : goal.returns-clause-honest
returns-clause-honest g c = λ t known order.
    let r = c.args.request.now in
    let before_tags = c.tags.ensures.goes_on.known t known in
    let at_first = c.attributes.ensures.goes_on.known t before_tags in
    let there : c.in_ok-loaded.field-0 ≡ has_entity t r.entity_id = at_ok (λ b. b ≡ has_entity t r.entity_id) c.entity.result c.in_ok-loaded.field-0 c.in_ok-loaded.ensures.ok (c.entity.ensures.answer t at_first) in
    present t r c.in_ok-attrs.attrs.entries c.in_ok-tags.tags.entries c.new.result order (sym there ∙ c.if-not-branch.false)
    (c.new.ensures.value ∙
    (λ i. record { uid = c.in_ok-try_clone.ensures i; attrs = fields_of c.in_ok-attrs.attrs.entries; ancestors = c.new-ancestors.ensures.empty i; tags = fields_of c.in_ok-tags.tags.entries }))
    c.len-count.ensures.ordered (c.in_ok-attrs.ensures.found t before_tags) (c.in_ok-tags.ensures.found t known)
