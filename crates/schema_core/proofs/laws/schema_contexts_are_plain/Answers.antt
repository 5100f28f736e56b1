use Rattle.schema_core.specs.Schema.{action_at}
use Rattle.schema_core.proofs.Held.{plain_context}
use Rattle.schema_core.proofs.laws.schema_contexts_are_plain.Goals as goal

pub returns : goal.returns
returns c = λ s is u. plain_context (action_at s u) (is.types.contexts u)
