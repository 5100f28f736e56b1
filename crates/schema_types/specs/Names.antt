-- Sets of names, as ascending lists.
use Rattle.std.specs.Prelude.{◌≡◌, ℕ, Bool, false, List, [], ◌∷◌, Option, Some, None, IsTrue}
use Rattle.std.specs.BTreeMap.{is_at}
use Rattle.std.specs.BTreeSet.{insert_key}
use Rattle.std.specs.List.{list_any}
use Rattle.std.specs.declared.cmp.Ordering.{Ordering}
use Rattle.std.specs.Cmp.Lexicographic.{slice_cmp}
use Rattle.std.specs.Hash as fed
use Rattle.std.specs.Hash.{HashWrites}
use Rattle.policy_values.specs.Uid.{text_cmp}

-- sets of names, compared as the lists of their names
abbrev pub texts_cmp : List (List ℕ) → List (List ℕ) → Ordering
texts_cmp = slice_cmp text_cmp

-- whether a name is among the names
abbrev pub has_name : List (List ℕ) → List ℕ → Bool
has_name ns n = list_any (is_at (text_cmp n)) ns

-- each name on the left is on the right
abbrev pub AreAmong : List (List ℕ) → List (List ℕ) → Type 0
AreAmong ms ns = (n : List ℕ) → IsTrue (has_name ms n) → IsTrue (has_name ns n)

-- no name on the left is on the right
abbrev pub AreApart : List (List ℕ) → List (List ℕ) → Type 0
AreApart ms ns = (n : List ℕ) → IsTrue (has_name ms n) → has_name ns n ≡ false

-- the names of both: each on the right is put in its place among those on the left
abbrev pub union : List (List ℕ) → List (List ℕ) → List (List ℕ)
union ms [] = ms
union ms (n ∷ ns) = union (insert_key text_cmp ms n) ns

-- the only name, where there is only one
abbrev pub only_name : List (List ℕ) → Option (List ℕ)
only_name [] = None
only_name (n ∷ []) = Some n
only_name (m ∷ n ∷ ns) = None

-- what the hash of a set of names is of
abbrev pub texts_fed : List (List ℕ) → HashWrites
texts_fed ns = fed.slice fed.str ns
