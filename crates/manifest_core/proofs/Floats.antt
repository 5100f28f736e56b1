-- No manifest is written with a float.
use Rattle.std.proofs.Common.{◌≡◌, [], ◌∷◌, map, false, refl}
use Rattle.serde_json.specs.View.{items_of}
use Rattle.serde_json.specs.Written.{has_float, items_have_float}
use Rattle.json_tries.proofs.Floats.{root_trie_has_none}
use Rattle.manifest_core.specs.Manifest.{Manifest}
use Rattle.manifest_core.specs.ManifestJson.{trie_entry_data, manifest_data}

entries_have_none : (m : Manifest) → items_have_float (items_of (map trie_entry_data m)) ≡ false
entries_have_none [] = refl
entries_have_none (e ∷ m) = rw (root_trie_has_none e.1) (entries_have_none m)

pub manifest_has_none : (m : Manifest) → has_float (manifest_data m) ≡ false
manifest_has_none m = rw (entries_have_none m) refl
