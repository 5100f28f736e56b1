-- Manifests as JSON.
use Rattle.std.specs.Prelude.{map, codes}
use Rattle.entity_store.specs.declared.request.RequestType.{RequestType}
use Rattle.serde_json.specs.Data.{Data, string, array, object, no_members, member}
use Rattle.serde_json.specs.View.{items_of}
use Rattle.json_response.specs.ValueJson.{uid_data, alone}
use Rattle.access_tries.specs.Table.{Table}
use Rattle.json_tries.specs.TrieJson.{entry_data, root_trie_data}
use Rattle.manifest_core.specs.Manifest.{Manifest}

-- a request type: its action and its types
abbrev pub request_type_data : RequestType → Data
request_type_data t = object (member (codes "action") (uid_data t.action)
    (member (codes "principal") (string t.principal)
    (member (codes "resource") (string t.resource) no_members)))

-- a request type with its trie
abbrev pub trie_entry_data : RequestType × Table → Data
trie_entry_data e = entry_data (request_type_data e.0) (root_trie_data e.1)

-- the list of the request types with their tries, in their order
abbrev pub manifest_data : Manifest → Data
manifest_data m = alone (codes "perAction") (array (items_of (map trie_entry_data m)))
