use Rattle.std.proofs.Common.{◌≡◌, ◌++◌, drop, map, option_map}
use Rattle.serde_json.specs.View.{items_view}
use Rattle.json_tries.specs.Parts.{place_lists}
use Rattle.json_tries.specs.Places.{places_of}
use Rattle.json_tries.specs.Reading.{seconds_of}
use Rattle.json_tries.proofs.read.+trie.Given as goal

-- those so far, and then those of what is left, are all
abbrev pub invariant-read_seconds-loop-item : goal.invariant-read_seconds-loop-item
invariant-read_seconds-loop-item l = option_map (λ ps. place_lists l.all ++ ps) (option_map (map places_of) (seconds_of (items_view (drop l.item-index l.items)))) ≡ option_map (map places_of) (seconds_of (items_view l.items))
