use Rattle.entity_manifest.proofs.on_store.answer_on.Goals as goal

pub returns-in-Ok : goal.returns-in-Ok
returns-in-Ok c = (
  c.is_whole.ensures.0 c.if-not-is_whole.false,
  (c.request_rules_are_exact.ensures c.args.schema.now c.action_ids-actions.ensures.schema c.args.request.now
      (c.is_whole.ensures.0 c.if-not-is_whole.false)).0 c.in-Ok.ensures,
  c.in_ok-decide-in-Ok.ensures,
)
