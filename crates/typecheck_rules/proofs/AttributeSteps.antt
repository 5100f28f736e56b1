-- The attributes of one type alone.
use Rattle.std.proofs.Common.{◌≡◌, ℕ, List, [], ◌∷◌, Some, Option, ap, ◌∙◌, sym}
use Rattle.schema_types.specs.Names.{only_name}
use Rattle.schema_types.specs.Ty.{Attrs}
use Rattle.type_relations.specs.Attributes.{or_none, union_attrs}

-- of a list of one name, what is declared under it
pub alone : (declared : List ℕ → Option Attrs) (ns : List (List ℕ)) (n : List ℕ) (xs : Attrs) → only_name ns ≡ Some n → declared n ≡ Some xs → xs ≡ union_attrs declared ns
alone declared [] n xs h k = cc
alone declared (m ∷ []) n xs h k = let e : m ≡ n = cc in sym (ap (λ x. or_none (declared x)) e ∙ ap or_none k)
alone declared (m ∷ o ∷ ns) n xs h k = cc
