use Rattle.std.proofs.Common.{length, ap, sym, ◌∙◌}
use Rattle.policy_gate.specs.Reply.{answer}
use Rattle.palvumiose_c.specs.KnownText.{IsHanded, laid_over}
use Rattle.palvumiose_c.proofs.Codes.{done_from_code, findings_from_code, code_of_either}
use Rattle.palvumiose_c.proofs.palvumiose_c_run.Goals as goal

-- the reply's text is handed out
handed : (c : goal.After-drop-reply) → IsHanded c.answer_to-reply.result.text.items c.len.result c.args.out.now c.lay_over.new.out
handed c = record {
  whole = c.len.ensures ∙ sym c.as_slice.ensures.len ∙ ap length c.as_slice.ensures.value;
  prefix = c.lay_over.ensures ∙ ap (λ t. laid_over t c.args.out.now) c.as_slice.ensures.value;
}

pub returns-clause-reported : goal.returns-clause-reported
returns-clause-reported c = (answer c.answer_to-reply.result.status c.answer_to-reply.result.text.items, c.answer_to-reply.ensures.reported, c.code.ensures, handed c)

pub returns-clause-headline : goal.returns-clause-headline
returns-clause-headline c is ends =
    (c.answer_to-reply.result.text.items, handed c, c.answer_to-reply.ensures.headline is (done_from_code c.answer_to-reply.result.status (sym c.code.ensures ∙ ends)))

pub returns-clause-said : goal.returns-clause-said
returns-clause-said c ends =
    (c.answer_to-reply.result.text.items, handed c, c.answer_to-reply.ensures.said (done_from_code c.answer_to-reply.result.status (sym c.code.ensures ∙ ends)))

pub returns-clause-refused : goal.returns-clause-refused
returns-clause-refused c ends = c.answer_to-reply.ensures.refused (findings_from_code c.answer_to-reply.result.status (sym c.code.ensures ∙ ends))

pub returns-clause-complete : goal.returns-clause-complete
returns-clause-complete c k =
    code_of_either c.answer_to-reply.result.status c.code.result c.code.ensures (c.answer_to-reply.ensures.complete k)
