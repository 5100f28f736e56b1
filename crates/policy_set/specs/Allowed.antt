-- Policies whose outcomes are allowed.
use Rattle.std.specs.Prelude.{List}
use Rattle.std.specs.List.{AllByRecursion}
use Rattle.entity_store.specs.Store.{Store}
use Rattle.entity_store.specs.declared.request.Request.{Request}
use Rattle.policy_core.specs.Allowed.{IsAllowedOutcome}
use Rattle.policy_set.specs.Data.{PolicyData}
use Rattle.policy_set.specs.Response.{outcomes}

-- each policy has an outcome that is allowed
abbrev pub AreAllowed : List PolicyData → Request → Store → Type 0
AreAllowed ps q s = AllByRecursion IsAllowedOutcome (outcomes ps q s)
