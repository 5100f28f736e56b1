use Rattle.std.proofs.Common.{arith}
use Rattle.std.proofs.lemmas.Result.{on_ok_weaker}
use Rattle.entity_loading.proofs.roots.name_context.Goals as goal

pub returns-in-Some-clause-later : goal.returns-in-Some-clause-later
returns-in-Some-clause-later c = on_ok_weaker c.name_fields.result (λ f. f 0 (omega arith)) c.name_fields.ensures.later
