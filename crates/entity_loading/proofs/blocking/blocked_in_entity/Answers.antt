use Rattle.std.proofs.Common.{inl, inr, subst, sym}
use Rattle.std.specs.Option.{option_copied}
use Rattle.access_tries.specs.declared.edge.Edge.TheVariants.{AnyTag}
use Rattle.reads_spec.specs.Restrict.{values_in}
use Rattle.entity_loading.specs.CannotGoOn.{tests_of, behind, FieldsBlock, SomeBlocks, CannotStep}
use Rattle.entity_loading.proofs.FollowSteps.{tests_behind}
use Rattle.entity_loading.proofs.CannotGoOnSteps.{blocked_entity, none_of_them, nowhere_behind}
use Rattle.entity_loading.proofs.blocking.blocked_in_entity.Goals as goal

pub returns-in-Some-tags : goal.returns-in-Some-tags
returns-in-Some-tags c =
    let e = c.args.entity.now in
    let v = c.args.trie.now in
    blocked_entity e (tests_of v) (option_copied c.blocked_in_each.result)
    (λ u h. c.in_default.ensures u (subst (λ fs. FieldsBlock fs (tests_of v) u) (sym c.attrs.ensures) h))
    (subst (λ t. CannotStep (SomeBlocks (values_in e.tags) t) (option_copied c.blocked_in_each.result)) (tests_behind AnyTag v c.in-Some-tags.below c.in-Some-tags.ensures)
    (subst (λ fs. CannotStep (SomeBlocks (values_in fs) (tests_of c.in-Some-tags.below)) (option_copied c.blocked_in_each.result)) c.tags-in-Some-tags.ensures c.blocked_in_each.ensures))

pub returns-in-None : goal.returns-in-None
returns-in-None c = λ u h.
    let e = c.args.entity.now in
    let v = c.args.trie.now in
    elim h [
      | inl k ↦ c.in_default.ensures u (subst (λ fs. FieldsBlock fs (tests_of v) u) (sym c.attrs.ensures) k)
      | inr k ↦ none_of_them (values_in e.tags) (behind AnyTag (tests_of v)) (nowhere_behind AnyTag v c.in-None.ensures) u k
    ]
