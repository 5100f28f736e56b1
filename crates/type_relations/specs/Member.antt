-- Membership: which values a type has.
use Rattle.std.specs.Prelude.{◌≡◌, ◌⊎◌, ℕ, Bool, false, not, ◌||◌, List, Option, Some, None, IsTrue, codes}
use Rattle.std.specs.Ordering.{is_eq}
use Rattle.policy_values.specs.Uid.{text_cmp}
use Rattle.schema_types.specs.declared.kinds.Primitive.TheVariants.{Bool as BoolType, Long, String}
use Rattle.schema_types.specs.declared.kinds.OpenTag.{OpenTag}
use Rattle.schema_types.specs.Ty.{Ty, never, true_type, false_type, primitive, any_set, set_of, record_of, any_entity, entity, action, extension, Attrs, no_attrs, attr}
use Rattle.schema_types.specs.declared.ty.AttributeType.{AttributeType}
use Rattle.schema_types.specs.Names.{has_name}
use Rattle.schema_types.specs.Attrs.{attr_at}
use Rattle.type_relations.specs.Subtype.{IsOpen}
use Rattle.policy_values.specs.Value.{Val, truth, long, string, entity as id, set, rec, decimal, ip, datetime, duration, Vals, no_vals, val, Fields, no_fields, field}

-- whether a record has a field under the key
abbrev pub has_field : Fields → List ℕ → Bool
has_field no_fields n = false
has_field (field k v fs) n = is_eq (text_cmp n k) || has_field fs n

-- the type of an attribute; that of no value, where there is none
abbrev pub type_of : Option AttributeType → Ty
type_of None = never
type_of (Some a) = a.attr_type

-- an undeclared key is of an open record alone
abbrev pub Undeclared : OpenTag → Option AttributeType → Type 0
Undeclared o None = IsOpen o
Undeclared o (Some a) = ⊥

-- there is such an attribute
abbrev pub IsDeclared : Option AttributeType → Type 0
IsDeclared None = ⊥
IsDeclared (Some a) = Unit {0}

-- each required key is there
abbrev pub HasRequired : Attrs → Fields → Type 0
HasRequired no_attrs fs = Unit {0}
HasRequired (attr k t q xs) fs = IsTrue (not q || has_field fs k) × HasRequired xs fs

abbrev mutual
  -- a record has each required key, and each field is of its declared type; an undeclared one is of an open
  -- record alone; a value of an extension is of the type of its name
  pub Member : Ty → Val → Type 0
  Member true_type (truth b) = IsTrue b
  Member false_type (truth b) = b ≡ false
  Member (primitive BoolType) (truth b) = Unit {0}
  Member (primitive Long) (long n) = Unit {0}
  Member (primitive String) (string s) = Unit {0}
  Member any_set (set vs) = Unit {0}
  Member (set_of t) (set vs) = Members t vs
  Member (record_of xs o) (rec fs) = HasRequired xs fs × Typed o xs fs
  Member any_entity (id u) = Unit {0}
  Member (entity ns) (id u) = IsTrue (has_name ns u.entity_type)
  Member (action n xs) (id u) = u.entity_type ≡ n
  Member (extension n) (decimal m) = n ≡ codes "decimal"
  Member (extension n) (ip r) = n ≡ codes "ipaddr"
  Member (extension n) (datetime m) = n ≡ codes "datetime"
  Member (extension n) (duration m) = n ≡ codes "duration"
  Member t v = ⊥

  pub Members : Ty → Vals → Type 0
  Members t no_vals = Unit {0}
  Members t (val v vs) = Member t v × Members t vs

  -- each field is of its declared type, or undeclared in an open record
  pub Typed : OpenTag → Attrs → Fields → Type 0
  Typed o xs no_fields = Unit {0}
  Typed o xs (field n v fs) =
      (Undeclared o (attr_at xs n) ⊎ (IsDeclared (attr_at xs n) × Member (type_of (attr_at xs n)) v)) ×
      Typed o xs fs
