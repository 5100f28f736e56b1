-- What the hash of a value is of; equal values have equal hashes.
use Rattle.std.specs.Prelude.{◌++◌, pos}
use Rattle.std.proofs.Common.{◌≡◌, true, ap}
use Rattle.std.specs.Ordering.{is_eq}
use Rattle.std.specs.Hash as fed
use Rattle.std.specs.Hash.{HashWrites}
use Rattle.policy_values.specs.declared.entity_uid.EntityUID.{EntityUID}
use Rattle.policy_ext.specs.IpAddr.{Range}
use Rattle.policy_values.specs.Ties.{equal_of}
use Rattle.policy_values.specs.RangeOrder.{family_rank}
use Rattle.policy_values.specs.Value.{Val, truth, long, string, entity, set, rec, decimal, ip, datetime, duration, Vals, no_vals, val, Fields, no_fields, field}
use Rattle.policy_values.specs.ValueOrder.{val_cmp}
use Rattle.policy_values.specs.ValueLaws.{exact_val}

abbrev pub uid_fed : EntityUID → HashWrites
uid_fed u = fed.str u.entity_type ++ fed.str u.eid

abbrev pub range_fed : Range → HashWrites
range_fed r = fed.isize (pos (family_rank r.family)) ++ (fed.u128 r.bits ++ fed.u32 r.prefix)

abbrev mutual
  pub val_fed : Val → HashWrites
  val_fed (truth b) = fed.u8 0 ++ fed.bool b
  val_fed (long n) = fed.u8 1 ++ fed.i64 n
  val_fed (string t) = fed.u8 2 ++ fed.str t
  val_fed (entity u) = fed.u8 3 ++ uid_fed u
  val_fed (set vs) = fed.u8 4 ++ vals_fed vs
  val_fed (rec fs) = fed.u8 5 ++ fields_fed fs
  val_fed (decimal n) = fed.u8 6 ++ fed.i64 n
  val_fed (ip r) = fed.u8 7 ++ range_fed r
  val_fed (datetime n) = fed.u8 8 ++ fed.i64 n
  val_fed (duration n) = fed.u8 9 ++ fed.i64 n

  -- behind the last element stands a mark
  pub vals_fed : Vals → HashWrites
  vals_fed no_vals = fed.u8 0
  vals_fed (val v vs) = fed.u8 1 ++ (val_fed v ++ vals_fed vs)

  pub fields_fed : Fields → HashWrites
  fields_fed no_fields = fed.u8 0
  fields_fed (field k v fs) = fed.u8 1 ++ (fed.str k ++ (val_fed v ++ fields_fed fs))

pub alike_val : (x y : Val) → is_eq (val_cmp x y) ≡ true → val_fed x ≡ val_fed y
alike_val x y h = ap val_fed (exact_val x y (equal_of (val_cmp x y) h))
