-- What the answers of commands stand on.
use Rattle.conformance.specs.Laws.{RequestRulesAreExact, StoreRulesAreExact}
use Rattle.policy_validate.specs.Laws.{NoErrorsWhereAccepted}
use Rattle.policy_validate.specs.Levels.{NoErrorsWhereAcceptedAt, AcceptedLevelsAreSound}
use Rattle.policy_review.specs.Laws.{NeverIsNeverTrue, ImpossibleIsNeverTrue, LeastLevelsAreLeast}
use Rattle.principal_listing.specs.Laws.{CandidatesKeepRules}
use Rattle.manifest_computation.specs.Enough.{OutcomesAreAllowed, SlicesAreEnough}

pub record Laws : Type 0 where
  -- no error is found exactly where the policies are accepted, at a level too
  pub errors : NoErrorsWhereAccepted
  pub errors_at : NoErrorsWhereAcceptedAt
  -- no broken rule is found exactly where request and store conform
  pub requests : RequestRulesAreExact
  pub stores : StoreRulesAreExact
  -- where every rule holds: the store cut at a level is enough, the slice is, and outcomes on the whole store
  -- are allowed
  pub levels : AcceptedLevelsAreSound
  pub slices : SlicesAreEnough
  pub outcomes : OutcomesAreAllowed
  -- what is impossible, and what a review says never of, is never true; and its levels are the least
  pub impossible : ImpossibleIsNeverTrue
  pub never : NeverIsNeverTrue
  pub least : LeastLevelsAreLeast
  -- every rule holds for each principal of the store to which the action applies, where those do that do not
  -- speak of the principal
  pub candidates : CandidatesKeepRules
