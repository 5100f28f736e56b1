-- Manifests: a trie for each type of requests.
use Rattle.std.specs.Prelude.{◌≡◌, List, Option}
use Rattle.std.specs.List.{AllByRecursion}
use Rattle.std.specs.Option.{option_and_then}
use Rattle.std.specs.declared.cmp.Ordering.TheVariants.{Greater}
use Rattle.std.specs.Coded.{Coded, coded_list, coded×}
use Rattle.policy_values.specs.Reaches.{at}
use Rattle.entity_store.specs.declared.request.Request.{Request}
use Rattle.entity_store.specs.declared.request.RequestType.{RequestType}
use Rattle.entity_store.specs.contracts.request.RequestType.{the_row as request_type_row}
use Rattle.entity_store.specs.Request.{request_type_cmp, request_type_of}
use Rattle.access_tries.specs.Table.{Table, coded_table}

-- request types, ascending, each with its trie
abbrev pub Manifest : Type 0
Manifest = List (RequestType × Table)

-- the trie that the manifest has for a type of requests, where it has one
abbrev pub trie_at : Manifest → RequestType → Option Table
trie_at m t = at request_type_cmp m t

-- the trie that it has for a request
abbrev pub trie_for : Manifest → Request → Option Table
trie_for m q = option_and_then (trie_at m) (request_type_of q)

abbrev pub coded_manifest : Coded Manifest
coded_manifest = coded_list (coded× request_type_row.coded coded_table)

-- the request type is greater than all these
abbrev pub IsNextType : RequestType → List RequestType → Type 0
IsNextType t ts = AllByRecursion (λ u. request_type_cmp t u ≡ Greater) ts
