use Rattle.entity_manifest.proofs.decisions.answer_to.Goals as goal

pub loaded_answer-requires-clause-conforms : goal.loaded_answer-requires-clause-conforms
loaded_answer-requires-clause-conforms g c =
    (c.request_rules_are_exact.ensures c.args.schema.now c.action_ids-actions.ensures.schema c.args.request.now
    (c.is_whole.ensures.0 c.if-not-is_whole.false)).0 c.in-Ok.ensures
