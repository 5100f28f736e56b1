-- What is wrong with a value at a place of a type: the walk goes through keys and elements in their order.
use Rattle.std.specs.Prelude.{ℕ, Bool, true, false, not, List, Option, Some, None, option_map, is_some, codes, if◌then◌else◌, ◌&&◌}
use Rattle.std.specs.Option.{option_or}
use Rattle.std.specs.Ordering.{is_eq}
use Rattle.std.specs.declared.cmp.Ordering.{Ordering}
use Rattle.std.specs.declared.cmp.Ordering.TheVariants.{Less}
use Rattle.policy_values.specs.Uid.{text_cmp}
use Rattle.policy_values.specs.Value.{Val, truth, long, string, entity as id, set, rec, decimal, ip, datetime, duration, Vals, no_vals, val, Fields, no_fields, field}
use Rattle.schema_types.specs.declared.kinds.Primitive.TheVariants.{Bool as BoolType, Long, String}
use Rattle.schema_types.specs.declared.kinds.OpenTag.{OpenTag}
use Rattle.schema_types.specs.declared.ty.AttributeType.{AttributeType}
use Rattle.schema_types.specs.Names.{has_name}
use Rattle.schema_types.specs.Attrs.{attr_at}
use Rattle.schema_types.specs.Ty.{Ty, true_type, false_type, primitive, any_set, set_of, record_of, any_entity, entity, action, extension, Attrs, no_attrs, attr, is_open}
use Rattle.type_relations.specs.Member.{has_field, type_of}
use Rattle.typing_spec.specs.Types.{Extensions}
use Rattle.typing_spec.specs.Table.{is_function}
use Rattle.conformance.specs.declared.misfits.Constructor.{Constructor}
use Rattle.conformance.specs.declared.misfits.Constructor.TheVariants.{Decimal, Ip, Datetime, Duration}
use Rattle.conformance.specs.declared.misfits.Misfit.{Misfit}
use Rattle.conformance.specs.declared.misfits.Misfit.TheVariants.{Lacks, Other}

-- the name of a function that makes values
abbrev pub name_of : Constructor → List ℕ
name_of Decimal = codes "decimal"
name_of Ip = codes "ip"
name_of Datetime = codes "datetime"
name_of Duration = codes "duration"

-- whether it is among the extensions
abbrev pub knows : Extensions → Constructor → Bool
knows e c = is_function e.function_types (name_of c)

-- none, where it fits
abbrev pub fits_if : Bool → Option Misfit
fits_if true = None
fits_if false = Some Other

-- what is wrong under a key stands before a missing key where it is less
abbrev pub first_of : Ordering → Misfit → Misfit
first_of Less m = m
first_of o m = Other

-- the earlier of what is wrong under a key, and of a key that is missing
abbrev pub earlier : Option (List ℕ × Misfit) → Option (List ℕ) → Option Misfit
earlier None None = None
earlier (Some m) None = Some m.1
earlier None (Some k) = Some Other
earlier (Some m) (Some k) = Some (first_of (text_cmp m.0 k) m.1)

-- the first required key without a field
abbrev pub first_missing : Attrs → Fields → Option (List ℕ)
first_missing no_attrs fs = None
first_missing (attr k t required xs) fs =
    if required && not (has_field fs k) then Some k else first_missing xs fs

-- a field that is declared fits its type; one that is not is of an open record alone
abbrev pub misfit_field : OpenTag → Option AttributeType → Option Misfit → Option Misfit
misfit_field o None m = fits_if (is_open o)
misfit_field o (Some a) m = m

-- which functions are there
module _ (is_there : Constructor → Bool) where
  -- a value of an extension at a place of the type n, which this function makes and which is of the type m
  abbrev pub extension_misfit : List ℕ → Constructor → List ℕ → Option Misfit
  extension_misfit n c m = if is_there c then fits_if (is_eq (text_cmp n m)) else Some (Lacks c)

  abbrev mutual
    pub misfit : Ty → Val → Option Misfit
    misfit true_type (truth b) = fits_if b
    misfit false_type (truth b) = fits_if (not b)
    misfit (primitive BoolType) (truth b) = None
    misfit (primitive Long) (long n) = None
    misfit (primitive String) (string s) = None
    misfit any_set (set vs) = None
    misfit (set_of t) (set vs) = misfit_all t vs
    misfit (record_of xs o) (rec fs) = earlier (misfit_fields o xs fs) (first_missing xs fs)
    misfit any_entity (id u) = None
    misfit (entity ns) (id u) = fits_if (has_name ns u.entity_type)
    misfit (action n xs) (id u) = fits_if (is_eq (text_cmp u.entity_type n))
    misfit (extension n) (decimal m) = extension_misfit n Decimal (codes "decimal")
    misfit (extension n) (ip r) = extension_misfit n Ip (codes "ipaddr")
    misfit (extension n) (datetime m) = extension_misfit n Datetime (codes "datetime")
    misfit (extension n) (duration m) = extension_misfit n Duration (codes "duration")
    misfit t v = Some Other

    pub misfit_all : Ty → Vals → Option Misfit
    misfit_all t no_vals = None
    misfit_all t (val v vs) = option_or (misfit t v) (misfit_all t vs)

    -- the first field that is undeclared in a closed record, or does not fit its type, with its key
    pub misfit_fields : OpenTag → Attrs → Fields → Option (List ℕ × Misfit)
    misfit_fields o xs no_fields = None
    misfit_fields o xs (field k v fs) = option_or
        (option_map (λ m. (k, m)) (misfit_field o (attr_at xs k) (misfit (type_of (attr_at xs k)) v)))
        (misfit_fields o xs fs)
