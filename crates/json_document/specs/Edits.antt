-- Edits to a set of policies, in JSON.
use Rattle.std.specs.Prelude.{ℕ, List, [], ◌∷◌, ◌++◌, length, if◌then◌else◌, Option, Some, None, option_and_then, is_some, Result, Ok, Err, codes}
use Rattle.serde_json.specs.Data.{Data, Items, no_items, item}
use Rattle.serde_json.specs.Find.{get, as_object, as_str}
use Rattle.json_values.specs.Json.{◌>>=◌, has_only}
use Rattle.json_document.specs.Policy.{entry_of}
use Rattle.json_document.specs.declared.policy.PolicyRead.{PolicyRead}
use Rattle.json_document.specs.declared.policy.PolicyRead.TheVariants as read
use Rattle.json_document.specs.Policies.{and_then}
use Rattle.json_document.specs.declared.edit.Edit.{Edit}
use Rattle.json_document.specs.declared.edit.Edit.TheVariants.{Policy, Link, Remove}
use Rattle.json_document.specs.declared.place.Place.{Place}
use Rattle.json_document.specs.declared.place.Place.TheVariants as place

-- the id that an object without other members says to remove
unfoldable pub removed_of : Data → Option (List ℕ)
removed_of d = do
  members ← as_object d
  id ← option_and_then as_str (get (codes "remove") d)
  if has_only (codes "remove" ∷ []) members then Some id else None

-- the edit at the index that removes what has the id, or the fault
abbrev pub removal_at : ℕ → Option (List ℕ) → Result Edit Place
removal_at i None = Err (place.Edit i)
removal_at i (Some id) = Ok (Remove id)

-- the edit at the index that adds what was read, or the fault
abbrev pub addition_at : ℕ → Option PolicyRead → Result Edit Place
addition_at i None = Err (place.Edit i)
addition_at i (Some read.Nested) = Err (place.EditNested i)
addition_at i (Some (read.Policy t)) = Ok (Policy t)
addition_at i (Some (read.Link l)) = Ok (Link l)

-- the edit that the value is at the index: a removal, where it has the member `remove`, else what a list of
-- policies may have
abbrev pub edit_at : ℕ → Data → Result Edit Place
edit_at i d =
    if is_some (get (codes "remove") d) then removal_at i (removed_of d) else addition_at i (entry_of d)

-- those before, and the edits of the items; else the place of the first fault
abbrev pub edits_of : List Edit → Items → Result (List Edit) Place
edits_of before no_items = Ok before
edits_of before (item d ds) = and_then (edit_at (length before) d) (λ e. edits_of (before ++ e ∷ []) ds)
