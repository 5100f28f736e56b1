use Rattle.std.proofs.Common.{take}
use Rattle.std.specs.List.{AllZip}
use Rattle.entity_manifest.specs.Answers.{IsStoreAnswer}
use Rattle.entity_manifest.proofs.on_store.answers_on.Given as goal

-- so far there is an answer for each request
abbrev pub invariant-loop-request : goal.invariant-loop-request
invariant-loop-request l =
    AllZip (IsStoreAnswer l.schema l.policies.policies l.entities) (take l.request-index l.request-items) l.answers.items
