use Rattle.std.proofs.Common.{◌∙◌}
use Rattle.std.proofs.lemmas.List.Elements.{same_from_all_zip}
use Rattle.schema_core.proofs.Queries.{types_in, below_some, below_none}
use Rattle.schema_core.proofs.validator_schema.ValidatorSchema.get_entity_types_in.Goals as goal
use Rattle.schema_core.proofs.validator_schema.ValidatorSchema.get_entity_types_in.Goals.{in-Some+in_ok-types-in-Some, in-None}

pub returns-clause-types : goal.returns-clause-types
returns-clause-types c =
    let s = c.args.self.now in
    let x = c.args.entity.now.entity_type in
    types_in s x c.match-get_entity_type.types.keys c.insert.new.self.keys
    (λ q. elim c.match-get_entity_type.branch [
      | in-Some+in_ok-types-in-Some w ↦
          let copied = same_from_all_zip _ w.descendants.result.now.keys w.in_ok-types-in-Some.types.keys w.in_ok-types-in-Some.ensures.cases (λ x y k. k) in
          rw w.types-is (below_some s x w.in-Some.entity_type.now w.in_ok-types-in-Some.types.keys w.in-Some.ensures (copied ∙ w.descendants.ensures.value) q)
      | in-None w ↦ rw w.types-is (below_none s x w.new-types.result.keys w.in-None.ensures w.new-types.ensures.empty q)
    ])
    (λ q. rw c.in_ok-clone.ensures.cases at (c.in_ok-insert.ensures.updates.0 q))
