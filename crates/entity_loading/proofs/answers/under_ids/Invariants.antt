use Rattle.std.proofs.Common.{drop}
use Rattle.std.specs.Vec.Iter.{into_iter_items}
use Rattle.entity_loading.proofs.AnswerSteps.{IsFinding}
use Rattle.entity_loading.proofs.answers.under_ids.Given as goal

abbrev pub invariant-loop-request : goal.invariant-loop-request
invariant-loop-request l = IsFinding l.requests.items l.fn.answers.items (drop l.request-index l.request-items) (into_iter_items l.left) l.found
