use Rattle.std.proofs.Common.{◌≡◌, ◌++◌, map}
use Rattle.entity_loading.specs.Lending.{request_of}
use Rattle.entity_loading.proofs.borrowed.requests_of.Given as goal

abbrev pub invariant-loop-uid : goal.invariant-loop-uid
invariant-loop-uid l = l.requests.items ++ map (request_of l.nodes) l.uid-iterator ≡ map (request_of l.nodes) l.initial.borrowed.entries
