-- Bytes as a JSON value, and what is looked up in one.
use Rattle.std.specs.Prelude.{ℕ, List, Bool, true, ◌&&◌, if◌then◌else◌, Option, Some, None}
use Rattle.std.specs.List.{list_any}
use Rattle.std.specs.Str.{is_utf8, bytes_eq}
use Rattle.serde_json.specs.Data.{Data, Items, no_items, item, Members, no_members, member}
use Rattle.serde_json.specs.Find.{as_array}
use Rattle.serde_json.specs.Read.{read}

-- the value of the bytes, where they are text and JSON
unfoldable pub json_of : List ℕ → Option Data
json_of bytes = if is_utf8 bytes then read bytes else None

infixl 10 ◌>>=◌
-- what f gives of the value that there is
abbrev pub ◌>>=◌ : {A B : Type 0} → Option A → (A → Option B) → Option B
(Some x) >>= f = f x
None >>= f = None

-- each member has one of the names
abbrev pub has_only : List (List ℕ) → Members → Bool
has_only names no_members = true
has_only names (member k d ms) = list_any (λ name. bytes_eq k name) names && has_only names ms

-- the one member, where there is no other
abbrev pub only_member : Members → Option (List ℕ × Data)
only_member no_members = None
only_member (member k d no_members) = Some (k, d)
only_member (member k d (member l e ms)) = None

-- the two items, where there are two
abbrev pub pair_of : Items → Option (Data × Data)
pair_of no_items = None
pair_of (item d no_items) = None
pair_of (item d (item e no_items)) = Some (d, e)
pair_of (item d (item e (item f ds))) = None

-- an absent list is empty
abbrev pub list_of : Option Data → Option Items
list_of None = Some no_items
list_of (Some d) = as_array d
