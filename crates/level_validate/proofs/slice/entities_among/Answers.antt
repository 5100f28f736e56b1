use Rattle.std.proofs.Common.{sym, ap, ◌∙◌}
use Rattle.level_spec.specs.Cut.{is_among}
use Rattle.level_validate.proofs.Among.{one_kept, one_skipped}
use Rattle.level_validate.proofs.slice.entities_among.Goals as goal

pub loop-entity-preserved-in_ok-push : goal.loop-entity-preserved-in_ok-push
loop-entity-preserved-in_ok-push c =
    one_kept _ _ _ _ _ _ c.in-Some.ensures.steps c.loop-entity.invariant _ _
    (ap (is_among c.args.ids.now.keys) (sym c.uid.ensures) ∙ sym c.contains.ensures ∙ c.if-contains.true) c.in_ok-copy_of.ensures c.in_ok-push.ensures.ok

pub loop-entity-preserved : goal.loop-entity-preserved
loop-entity-preserved c =
    one_skipped _ _ _ _ _ _ c.in-Some.ensures.steps c.loop-entity.invariant (ap (is_among c.args.ids.now.keys) (sym c.uid.ensures) ∙ sym c.contains.ensures ∙ c.if-contains.false)
