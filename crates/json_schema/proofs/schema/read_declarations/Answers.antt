use Rattle.json_schema.proofs.schema.read_declarations.Goals as goal

pub returns-clause-once : goal.returns-clause-once
returns-clause-once c = rw (c.new.ensures) (rw c.in-Some-2.is at c.in_ok-entity_types.ensures.once)
