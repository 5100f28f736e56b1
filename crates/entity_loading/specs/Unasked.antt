-- Tries along which nothing is asked for.
use Rattle.std.specs.Prelude.{◌≡◌, ◌≢◌, true, false, List, [], ◌++◌, map}
use Rattle.policy_values.specs.declared.entity_uid.EntityUID.{EntityUID}
use Rattle.access_tries.specs.Paths.{AccessPath, address_of, asks, edge_of, has_path}
use Rattle.access_tries.specs.Table.{Table}
use Rattle.reads_spec.specs.Paths.{Step}
use Rattle.entity_loading.specs.Needs.{needs}
use Rattle.entity_loading.specs.declared.place.Place.{Place}
use Rattle.entity_loader.specs.declared.loader.AncestorsRequest.{AncestorsRequest}

-- the trie has no path
abbrev pub ReadsNothing : Table → Type 0
ReadsNothing t = (p : AccessPath) → has_path t p ≡ false

-- the trie asks for no ancestors
abbrev pub DemandsNothing : Table → Type 0
DemandsNothing t = (p r : AccessPath) → asks t p r ≡ false

-- from no place a path leads to where ancestors are asked for
abbrev pub DemandNothing : Table → List Place → Type 0
DemandNothing ns ps = (x : EntityUID) (ms : List Step) (r : AccessPath) →
    needs true ns ps x (map edge_of ms ++ address_of r) ≡ false

-- the request asks for some ancestor
abbrev pub AsksForSome : AncestorsRequest → Type 0
AsksForSome r = r.ancestors.items ≢ []
