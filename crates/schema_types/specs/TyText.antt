-- How types print.
use Rattle.std.specs.Prelude.{ℕ, Bool, true, false, List, [], ◌∷◌, ◌++◌, codes}
use Rattle.schema_types.specs.declared.kinds.Primitive.{Primitive}
use Rattle.schema_types.specs.declared.kinds.Primitive.TheVariants.{Bool as BoolType, Long, String}
use Rattle.schema_types.specs.declared.kinds.OpenTag.{OpenTag}
use Rattle.schema_types.specs.declared.kinds.OpenTag.TheVariants.{OpenAttributes, ClosedAttributes}
use Rattle.schema_types.specs.Ty.{Ty, never, true_type, false_type, primitive, any_set, set_of, record_of, any_entity, entity, action, extension, Attrs, no_attrs, attr}

-- names, with a comma between two
abbrev pub listed : List (List ℕ) → List ℕ
listed [] = []
listed (n ∷ []) = n
listed (m ∷ n ∷ ns) = m ++ (codes ", " ++ listed (n ∷ ns))

-- one type by its name, several as a union
abbrev pub lub_text : List (List ℕ) → List ℕ
lub_text [] = codes "__cedar::internal::Union<" ++ (listed [] ++ codes ">")
lub_text (n ∷ []) = n
lub_text (m ∷ n ∷ ns) = codes "__cedar::internal::Union<" ++ (listed (m ∷ n ∷ ns) ++ codes ">")

abbrev pub primitive_text : Primitive → List ℕ
primitive_text BoolType = codes "Bool"
primitive_text Long = codes "Long"
primitive_text String = codes "String"

abbrev pub open_text : OpenTag → List ℕ
open_text OpenAttributes = codes "__cedar::internal::OpenRecord"
open_text ClosedAttributes = []

-- what stands behind the key of an attribute that may be absent
abbrev pub mark_text : Bool → List ℕ
mark_text true = []
mark_text false = codes "?"

-- an attribute, by its key, whether it is required, and how its type prints
abbrev pub attr_text : List ℕ → Bool → List ℕ → List ℕ
attr_text k q text = k ++ (mark_text q ++ (codes ": " ++ (text ++ codes ",")))

abbrev mutual
  -- what Cedar has no name for prints in a name space of its own
  pub ty_text : Ty → List ℕ
  ty_text never = codes "__cedar::internal::Never"
  ty_text true_type = codes "__cedar::internal::True"
  ty_text false_type = codes "__cedar::internal::False"
  ty_text (primitive p) = primitive_text p
  ty_text any_set = codes "Set<__cedar::internal::Any>"
  ty_text (set_of t) = codes "Set<" ++ (ty_text t ++ codes ">")
  ty_text (record_of xs o) = open_text o ++ (codes "{" ++ (attrs_text xs ++ codes "}"))
  ty_text any_entity = codes "__cedar::internal::AnyEntity"
  ty_text (entity ns) = lub_text ns
  ty_text (action n xs) = n
  ty_text (extension n) = n

  -- one attribute after another
  pub attrs_text : Attrs → List ℕ
  attrs_text no_attrs = []
  attrs_text (attr k t q xs) = attr_text k q (ty_text t) ++ attrs_text xs
