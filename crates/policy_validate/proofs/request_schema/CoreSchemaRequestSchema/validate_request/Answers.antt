use Rattle.policy_validate.proofs.request_schema.CoreSchemaRequestSchema.validate_request.Goals as goal

pub returns : goal.returns
returns c = rw c.schema.ensures at c.validate_request.ensures
