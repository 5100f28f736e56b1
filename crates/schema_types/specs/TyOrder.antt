-- The order of types: by kind, and inside a kind by content.
use Rattle.std.specs.Prelude.{ℕ}
use Rattle.std.specs.declared.cmp.Ordering.{Ordering}
use Rattle.std.specs.declared.cmp.Ordering.TheVariants.{Less, Equal, Greater}
use Rattle.std.specs.Ordering.{nat_cmp, bool_cmp, ordering_then}
use Rattle.schema_types.specs.Names.{texts_cmp}
use Rattle.policy_values.specs.Uid.{text_cmp}
use Rattle.schema_types.specs.Ty.{Ty, never, true_type, false_type, primitive, any_set, set_of, record_of, any_entity, entity, action, extension, Attrs, no_attrs, attr}
use Rattle.schema_types.specs.declared.kinds.Primitive.{Primitive}
use Rattle.schema_types.specs.declared.kinds.Primitive.TheVariants.{Bool, Long, String}
use Rattle.schema_types.specs.declared.kinds.OpenTag.{OpenTag}
use Rattle.schema_types.specs.declared.kinds.OpenTag.TheVariants.{OpenAttributes, ClosedAttributes}

abbrev pub place_of : Primitive → ℕ
place_of Bool = 0
place_of Long = 1
place_of String = 2

abbrev pub open_place : OpenTag → ℕ
open_place OpenAttributes = 0
open_place ClosedAttributes = 1

-- the place of a kind
abbrev pub rank : Ty → ℕ
rank never = 0
rank true_type = 1
rank false_type = 2
rank (primitive p) = 3
rank any_set = 4
rank (set_of t) = 5
rank (record_of xs o) = 6
rank any_entity = 7
rank (entity ns) = 8
rank (action n xs) = 9
rank (extension n) = 10

abbrev mutual
  pub ty_cmp : Ty → Ty → Ordering
  ty_cmp never never = Equal
  ty_cmp true_type true_type = Equal
  ty_cmp false_type false_type = Equal
  ty_cmp any_set any_set = Equal
  ty_cmp any_entity any_entity = Equal
  ty_cmp (primitive p) (primitive q) = nat_cmp (place_of p) (place_of q)
  ty_cmp (set_of t) (set_of u) = ty_cmp t u
  ty_cmp (record_of xs o) (record_of ys p) =
      ordering_then (attrs_cmp xs ys) (nat_cmp (open_place o) (open_place p))
  ty_cmp (entity ms) (entity ns) = texts_cmp ms ns
  ty_cmp (action m xs) (action n ys) = ordering_then (text_cmp m n) (attrs_cmp xs ys)
  ty_cmp (extension m) (extension n) = text_cmp m n
  ty_cmp t u = nat_cmp (rank t) (rank u)

  pub attrs_cmp : Attrs → Attrs → Ordering
  attrs_cmp no_attrs no_attrs = Equal
  attrs_cmp no_attrs (attr l u r ys) = Less
  attrs_cmp (attr k t q xs) no_attrs = Greater
  attrs_cmp (attr k t q xs) (attr l u r ys) = ordering_then
      (ordering_then (text_cmp k l) (ordering_then (ty_cmp t u) (bool_cmp q r))) (attrs_cmp xs ys)
