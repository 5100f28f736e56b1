-- Types and attributes in JSON.
use Rattle.std.specs.Prelude.{ℕ, List, [], ◌∷◌, true, false, if◌then◌else◌, Option, Some, None, option_map, codes}
use Rattle.std.specs.Str.{bytes_eq}
use Rattle.schema_types.specs.declared.kinds.Primitive.TheVariants.{Bool, Long, String}
use Rattle.schema_types.specs.declared.kinds.OpenTag.TheVariants.{ClosedAttributes}
use Rattle.schema_types.specs.declared.ty.AttributeType.{AttributeType}
use Rattle.schema_types.specs.Ty.{Ty, primitive, set_of, record_of, entity, extension}
use Rattle.schema_types.specs.TyView.{attrs_of}
use Rattle.schema_core.specs.Inside.{is_known_extension}
use Rattle.serde_json.specs.Data as json
use Rattle.serde_json.specs.Data.{Data, null, boolean, number, array, object, Members, no_members, member}
use Rattle.json_values.specs.Lists.{with_field}
use Rattle.json_values.specs.Names.{name_of}

-- attributes, each under its name
abbrev pub Entries : Type 0
Entries = List (List ℕ × AttributeType)

-- a primitive type, or that of an extension
abbrev pub type_named : List ℕ → Option Ty
type_named t =
    if bytes_eq t (codes "Bool") then Some (primitive Bool)
    else (if bytes_eq t (codes "Long") then Some (primitive Long)
    else (if bytes_eq t (codes "String") then Some (primitive String)
    else (if is_known_extension t then Some (extension t)
    else None)))

-- the object with this one member: sets of a type, the entities of a type, or records, which are closed
abbrev pub type_form : List ℕ → Data → Option Ty → Option Entries → Option Ty
type_form key d inner attributes =
    if bytes_eq key (codes "set") then option_map set_of inner
    else (if bytes_eq key (codes "entity") then option_map (λ n. entity (n ∷ [])) (name_of d)
    else (if bytes_eq key (codes "record")
    then option_map (λ es. record_of (attrs_of es) ClosedAttributes) attributes
    else None))

-- an attribute of a type, whether it is required or not
abbrev pub attribute : Ty → AttributeType
attribute t = record { attr_type = t; is_required = true }

abbrev pub optional : Ty → AttributeType
optional t = record { attr_type = t; is_required = false }

-- the object with this one member: an optional attribute, or a required one of the type that the object says
abbrev pub attribute_form : List ℕ → Option Ty → Option Ty → Option AttributeType
attribute_form key inner whole =
    if bytes_eq key (codes "optional") then option_map optional inner else option_map attribute whole

abbrev mutual
  -- the type that a JSON value says
  pub type_of : Data → Option Ty
  type_of null = None
  type_of (boolean b) = None
  type_of (number n) = None
  type_of (json.string t) = type_named t
  type_of (array ds) = None
  type_of (object ms) = type_of_members ms

  pub type_of_members : Members → Option Ty
  type_of_members no_members = None
  type_of_members (member k d no_members) = type_form k d (type_of d) (attributes_of d)
  type_of_members (member k d (member l e ms)) = None

  -- the attributes that a JSON value says
  pub attributes_of : Data → Option Entries
  attributes_of null = None
  attributes_of (boolean b) = None
  attributes_of (number n) = None
  attributes_of (json.string t) = None
  attributes_of (array ds) = None
  attributes_of (object ms) = attributes_of_members ms

  pub attributes_of_members : Members → Option Entries
  attributes_of_members no_members = Some []
  attributes_of_members (member k d ms) = with_field k (attribute_of d) (attributes_of_members ms)

  pub attribute_of : Data → Option AttributeType
  attribute_of null = None
  attribute_of (boolean b) = None
  attribute_of (number n) = None
  attribute_of (json.string t) = option_map attribute (type_named t)
  attribute_of (array ds) = None
  attribute_of (object ms) = attribute_of_members ms

  pub attribute_of_members : Members → Option AttributeType
  attribute_of_members no_members = None
  attribute_of_members (member k d no_members) =
      attribute_form k (type_of d) (type_form k d (type_of d) (attributes_of d))
  attribute_of_members (member k d (member l e ms)) = None
