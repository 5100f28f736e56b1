use Rattle.std.proofs.Common.{Some, sym, ap, ◌∙◌}
use Rattle.std.specs.Option.{option_copied}
use Rattle.std.proofs.lemmas.Result.{IfOk-weaker}
use Rattle.schema_core.specs.RequestEnvs.{env_data_of}
use Rattle.manifest_computation.specs.Gathered.{part_in}
use Rattle.manifest_computation.proofs.Holding.{body_at, body_held, held_with, held_with_new}
use Rattle.manifest_computation.proofs.gathering.take_body.Goals as goal

pub returns-then-contains-clause-taken : goal.returns-then-contains-clause-taken
returns-then-contains-clause-taken c = λ yes.
    let schema = c.args.at.now.schema.now in
    let env = env_data_of c.args.at.now.env.now in
    let s = c.args.policies.now in
    let p = c.args.policy.now in
    let id = c.in-Some.template.now in
    body_held schema env s c.args.bodies.now c.args.trie.now c.args.conditions.now.items c.requires.held id (sym c.contains.ensures ∙ c.if-contains.true) p.body
    (body_at schema env s p id c.requires.link (sym (ap option_copied c.in-Some.is) ∙ c.template.ensures))

pub returns-in_ok-insert-in-Some-clause-held : goal.returns-in_ok-insert-in-Some-clause-held
returns-in_ok-insert-in-Some-clause-held c =
    let schema = c.args.at.now.schema.now in
    let env = env_data_of c.args.at.now.env.now in
    let s = c.args.policies.now in
    let p = c.args.policy.now in
    let id = c.in_ok-id-in-Some.id in
    IfOk-weaker c.take_typed_body.result _ _ (λ b h yes.
    held_with_new schema env s c.args.bodies.now c.insert.new.self c.args.trie.now c.take_typed_body.new.trie c.args.conditions.now.items c.take_typed_body.new.conditions.items id
    c.in_ok-insert-in-Some.ensures.updates.0 p.body (body_at schema env s p id c.requires.link (ap Some c.in_ok-id-in-Some.ensures ∙ sym (ap option_copied c.in-Some.is) ∙ c.template.ensures)) c.requires.held (h yes))
    c.take_typed_body.ensures.taken

pub returns-in-None-clause-held : goal.returns-in-None-clause-held
returns-in-None-clause-held c =
    let schema = c.args.at.now.schema.now in
    let env = env_data_of c.args.at.now.env.now in
    IfOk-weaker c.take_typed_body-in-None.result _ _ (λ b h yes.
    held_with schema env c.args.policies.now c.args.bodies.now c.args.trie.now c.take_typed_body-in-None.new.trie c.args.conditions.now.items c.take_typed_body-in-None.new.conditions.items c.requires.held
    (part_in schema env c.args.policy.now.body) (h yes))
    c.take_typed_body-in-None.ensures.taken
