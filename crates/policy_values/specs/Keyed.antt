-- Maps that hold each value under its own key, seen as the list of their values.
use Rattle.std.specs.Prelude.{◌≡◌, Bool, List, [], ◌∷◌, Option, find}
use Rattle.std.specs.List.{AllByRecursion}
use Rattle.std.specs.declared.cmp.Ordering.{Ordering}
use Rattle.std.specs.Ordering.{is_eq, match_ordering}
use Rattle.std.specs.BTreeMap.{BTreeMap, IsOrdered}

module _ {K V : Type 0} (cmp : K → K → Ordering) (key : V → K) where
  -- the keys ascend, and each is that of its value
  pub record AreAtTheirKeys (entries : BTreeMap K V) : Type 0 where
    pub ordered : IsOrdered cmp entries
    pub own : AllByRecursion (λ p. key p.1 ≡ p.0) entries.entries

  -- whether the value has the key
  abbrev pub has_key : K → V → Bool
  has_key k v = is_eq (cmp k (key v))

  -- the value with the key, where there is one
  abbrev pub value_at : List V → K → Option V
  value_at vs k = find (has_key k) vs

  -- the ascending values with one more, at its place; a value with its key gives way to it
  abbrev pub with_value : V → List V → List V
  with_value v [] = v ∷ []
  with_value v (w ∷ ws) = match_ordering (cmp (key v) (key w)) (v ∷ w ∷ ws) (v ∷ ws) (w ∷ with_value v ws)
