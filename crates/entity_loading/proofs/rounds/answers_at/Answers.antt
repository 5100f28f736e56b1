use Rattle.std.proofs.lemmas.Result.{IfOk-weaker}
use Rattle.std.specs.BTreeMap.{get}
use Rattle.policy_values.specs.Uid.{uid_cmp}
use Rattle.entity_loading.proofs.AskSteps.{are_answers}
use Rattle.entity_loading.proofs.rounds.answers_at.Goals as goal

pub returns-clause-honest : goal.returns-clause-honest
returns-clause-honest g c = λ s known.
    IfOk-weaker c.answers_for.result _ _
    (λ found. are_answers c.args.nodes.now (g.D.EntityLoader.state c.args.loader.now).exact s c.args.pending.now.keys c.in_ok-borrowed.borrowed c.in_ok-requests.requests.items (get uid_cmp found) c.in_ok-borrowed.ensures c.in_ok-requests.ensures.requests)
    (c.answers_for.ensures.honest s known)
