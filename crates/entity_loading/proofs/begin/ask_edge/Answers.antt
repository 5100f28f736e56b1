use Rattle.std.proofs.lemmas.Result.{on_ok_weaker}
use Rattle.entity_loading.proofs.FollowSteps.{or_weaker}
use Rattle.entity_loading.proofs.begin.ask_edge.Goals as goal

pub returns-in-Root-clause-below : goal.returns-in-Root-clause-below
returns-in-Root-clause-below c = on_ok_weaker c.ask_root.result (λ f q h. or_weaker (λ b. (rw c.in-Root.is tt, b)) (f q h)) c.ask_root.ensures.below
