-- The attributes that the values of a type have, where a schema declares those of entity types.
use Rattle.std.specs.Prelude.{ℕ, Bool, true, false, List, [], ◌∷◌, ◌||◌, Option, Some, None, is_some}
use Rattle.std.specs.List.{list_any}
use Rattle.schema_types.specs.Names.{AreApart}
use Rattle.schema_types.specs.Ty.{Ty, never, any_entity, entity, record_of, action, Attrs, no_attrs, is_open}
use Rattle.schema_types.specs.Attrs.{attr_at}
use Rattle.type_relations.specs.Join.{shared}

-- a type that is not declared has none
abbrev pub or_none : Option Attrs → Attrs
or_none None = no_attrs
or_none (Some xs) = xs

module _ (declared : List ℕ → Option Attrs) where
  -- the permissive join of what there is with the attributes of more types, in their order
  abbrev pub shared_with : Attrs → List (List ℕ) → Attrs
  shared_with xs [] = xs
  shared_with xs (n ∷ ns) = shared_with (shared xs (or_none (declared n))) ns

  -- of one type its own; of several the permissive join of theirs, the types ascending
  abbrev pub union_attrs : List (List ℕ) → Attrs
  union_attrs [] = no_attrs
  union_attrs (n ∷ ns) = shared_with (or_none (declared n)) ns

  -- a record and an action have their own, an entity those of its type; nothing else has any
  abbrev pub attrs_in : Ty → Attrs
  attrs_in (record_of xs o) = xs
  attrs_in (entity ns) = union_attrs ns
  attrs_in (action n xs) = xs
  attrs_in t = no_attrs

  -- whether the attributes, if they are known, have the key
  abbrev pub may_have_declared : Option Attrs → List ℕ → Bool
  may_have_declared None k = true
  may_have_declared (Some xs) k = is_some (attr_at xs k)

  -- whether some value of the type may have the attribute: anything may be where attributes are not all known
  abbrev pub may_have : Ty → List ℕ → Bool
  may_have never k = true
  may_have any_entity k = true
  may_have (record_of xs o) k = is_open o || is_some (attr_at xs k)
  may_have (entity ns) k = list_any (λ n. may_have_declared (declared n) k) ns
  may_have (action n xs) k = is_some (attr_at xs k)
  may_have t k = false

-- the types of an entity of a type, where they are known
abbrev pub names_of : Ty → Option (List (List ℕ))
names_of (entity ns) = Some ns
names_of (action n xs) = Some (n ∷ [])
names_of t = None

-- known on both sides, and none in common
abbrev pub AreApartIfKnown : Option (List (List ℕ)) → Option (List (List ℕ)) → Type 0
AreApartIfKnown (Some ms) (Some ns) = AreApart ms ns
AreApartIfKnown a b = ⊥

-- no value is of both types: both are of entities or actions of named types, and no name is in both
abbrev pub AreDisjoint : Ty → Ty → Type 0
AreDisjoint t u = AreApartIfKnown (names_of t) (names_of u)
