-- The plain value that a value is.
use Rattle.policy_values.specs.Value.{Val, truth, long, string, entity, set, rec, decimal, ip, datetime, duration, vals_of, fields_of}
use Rattle.policy_values.specs.declared.value.ValueKind.{ValueKind}
use Rattle.policy_values.specs.declared.value.ValueKind.TheVariants.{Bool, Long, String, EntityUID, Set, Record, Decimal, IpAddr, DateTime, Duration}

abbrev pub val_of : ValueKind → Val
val_of (Bool b) = truth b
val_of (Long n) = long n
val_of (String t) = string t
val_of (EntityUID u) = entity u
val_of (Set vs) = set (vals_of vs.items)
val_of (Record m) = rec (fields_of m.entries)
val_of (Decimal d) = decimal d
val_of (IpAddr r) = ip r
val_of (DateTime d) = datetime d
val_of (Duration d) = duration d
