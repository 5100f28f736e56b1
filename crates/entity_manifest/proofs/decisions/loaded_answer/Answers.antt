use Rattle.entity_manifest.specs.Answers.{IsLoaderAnswer}
use Rattle.entity_manifest.specs.BatchLoaded.{answer_of}
use Rattle.entity_manifest.proofs.Answered.{answer_is, answered}
use Rattle.entity_manifest.proofs.decisions.loaded_answer.Goals as goal

pub returns-clause-answer : goal.returns-clause-answer
returns-clause-answer g c =
    let schema = c.args.schema.now in
    let policies = c.args.policies.now in
    let q = c.args.request.now in
    let old = g.D.EntityLoader.state c.args.loader.now in
    let new = g.D.EntityLoader.state c.load_for_request-loaded.new.loader in
    let result = c.load_for_request-loaded.result in
    let e = c.load_for_request-loaded.ensures in
    answer_is (IsLoaderAnswer schema policies.policies old new q) (answer_of policies.policies q result) c.answer_of.result
    c.answer_of.ensures.answer c.answer_of.ensures.memory
    (answered schema policies q c.requires.whole c.requires.conforms old new result e.decided e.cause)
