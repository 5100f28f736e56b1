-- The attributes and the tags of entities of one type.
use Rattle.std.proofs.Common.{◌≡◌, ℕ, List, [], ◌∷◌, Some, Option, refl, ap, ◌∙◌, sym}
use Rattle.std.specs.Option.{option_and_then}
use Rattle.schema_types.specs.Names.{only_name}
use Rattle.schema_types.specs.Ty.{Attrs, entity}
use Rattle.schema_core.specs.Schema.{SchemaData}
use Rattle.type_relations.specs.Attributes.{or_none, union_attrs}
use Rattle.typing_spec.specs.Environment.{declared_tags}
use Rattle.typing_spec.specs.Rules.{tag_type}

-- of a list of one name, what is declared under it
pub attributes_of_one : (declared : List ℕ → Option Attrs) (ns : List (List ℕ)) (n : List ℕ) (xs : Attrs) → only_name ns ≡ Some n → declared n ≡ Some xs → xs ≡ union_attrs declared ns
attributes_of_one declared [] n xs h k = cc
attributes_of_one declared (m ∷ []) n xs h k = let e : m ≡ n = cc in sym (ap (λ x. or_none (declared x)) e ∙ ap or_none k)
attributes_of_one declared (m ∷ o ∷ ns) n xs h k = cc

pub tags_of_one : (schema : SchemaData) (ns : List (List ℕ)) → tag_type schema (entity ns) ≡ option_and_then (declared_tags schema) (only_name ns)
tags_of_one schema [] = refl
tags_of_one schema (n ∷ []) = refl
tags_of_one schema (m ∷ n ∷ ns) = refl
