-- The parts of expressions in JSON that are no expressions.
use Rattle.std.specs.Prelude.{ℕ, ℤ, pos, negsuc, List, [], ◌∷◌, ◌++◌, map, nat_le, if◌then◌else◌, Option, Some, None, option_map, option_and_then}
use Rattle.std.specs.Str.{chars}
use Rattle.policy_expressions.specs.declared.kinds.Loc.{Loc}
use Rattle.policy_expressions.specs.declared.kinds.PatternElem.{PatternElem}
use Rattle.policy_expressions.specs.declared.kinds.PatternElem.TheVariants.{Char, Wildcard}
use Rattle.serde_json.specs.Data.{Data, null, boolean, number, string, array, object, Items, no_items, item}
use Rattle.serde_json.specs.Find.{as_i64, as_number, as_str, as_array}
use Rattle.json_values.specs.Json.{◌>>=◌, pair_of}
use Rattle.json_values.specs.Names.{name_of}
use Rattle.json_values.specs.Lists.{with_first}

abbrev pub texts_of : Items → Option (List (List ℕ))
texts_of no_items = Some []
texts_of (item d ds) = with_first (as_str d) (texts_of ds)

-- the items behind the first
abbrev pub behind_first : Items → Items
behind_first no_items = no_items
behind_first (item d ds) = ds

-- the texts behind the first item
abbrev pub attr_names_of : Data → Option (List (List ℕ))
attr_names_of d = option_and_then (λ ds. texts_of (behind_first ds)) (as_array d)

-- a text stands for its characters, null for the wildcard
abbrev pub elements_of : Data → Option (List PatternElem)
elements_of null = Some (Wildcard ∷ [])
elements_of (boolean b) = None
elements_of (number n) = None
elements_of (string t) = Some (map Char (chars t))
elements_of (array ds) = None
elements_of (object ms) = None

abbrev pub pattern_of_items : Items → Option (List PatternElem)
pattern_of_items no_items = Some []
pattern_of_items (item d ds) =
    option_and_then (λ p. option_map (λ q. p ++ q) (pattern_of_items ds)) (elements_of d)

-- the second item, where there are two
abbrev pub second_of : Data → Option Data
second_of d = option_map (λ p. p.1) (option_and_then pair_of (as_array d))

-- the pattern that the second of two items is
abbrev pub pattern_of : Data → Option (List PatternElem)
pattern_of d = option_and_then pattern_of_items (option_and_then as_array (second_of d))

-- the type that the second of two items names
abbrev pub tested_type_of : Data → Option (List ℕ)
tested_type_of d = option_and_then name_of (second_of d)

-- the function that the first item names
abbrev pub called_name_of_items : Items → Option (List ℕ)
called_name_of_items no_items = None
called_name_of_items (item d ds) = name_of d

abbrev pub called_name_of : Data → Option (List ℕ)
called_name_of d = option_and_then called_name_of_items (as_array d)

abbrev pub offset_from : ℤ → Option ℕ
offset_from (pos n) = if nat_le n 4294967295 then Some n else None
offset_from (negsuc n) = None

-- an offset in a source: a whole number of 32 bits, which is not negative
abbrev pub offset_of : Data → Option ℕ
offset_of d = option_and_then offset_from (option_and_then as_i64 (as_number d))

abbrev pub loc_between : ℕ → ℕ → Option Loc
loc_between s t = if nat_le s t then Some (record { start = s; end = t }) else None

abbrev pub loc_of_ends : Data → Data → Option Loc
loc_of_ends s t = do
  start ← offset_of s
  end ← offset_of t
  loc_between start end

abbrev pub loc_of_items : Items → Option Loc
loc_of_items no_items = None
loc_of_items (item s no_items) = None
loc_of_items (item s (item t no_items)) = loc_of_ends s t
loc_of_items (item s (item t (item d ds))) = None

-- a place in the source: where it starts and where it ends, which is not before
abbrev pub loc_of : Data → Option Loc
loc_of d = option_and_then loc_of_items (as_array d)
