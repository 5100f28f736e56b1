-- What a value holds is smaller than the value.
use Rattle.std.specs.Prelude.{ℕ, ◌+◌, ◌≤◌, List, [], ◌∷◌, map}
use Rattle.std.proofs.Common.{arith}
use denote.Param.Weighed.{most}
use Rattle.policy_values.specs.Value.{Val, size_of, size_of_all, size_of_fields, vals_of, fields_of}
use Rattle.policy_values.specs.ValueView.{val_of}
use Rattle.policy_values.specs.declared.value.ValueKind.{ValueKind}
use Rattle.policy_values.specs.declared.value.ValueKind.TheVariants.{Bool, Long, String, EntityUID, Set, Record, Decimal, IpAddr, DateTime, Duration}
use Rattle.policy_values.specs.declared.value.Value.TheInside.{Inside}
use Rattle.policy_values.specs.declared.value.Value.TheDeep.{deep-Value, deep-ValueKind}

pub most_le-size : (xs : List Val) → most (λ x. size_of x + 1) xs ≤ size_of_all (vals_of xs) + 1
most_le-size [] = omega arith
most_le-size (x ∷ xs) = omega (arith, most_le-size xs)

pub most_le-fields : (es : List (List ℕ × Val)) →
    most (λ x. size_of x + 1) (map (λ e. e.1) es) ≤ size_of_fields (fields_of es) + 1
most_le-fields [] = omega arith
most_le-fields (e ∷ es) = omega (arith, most_le-fields es)

pub kind_falls : (k : ValueKind) → deep-ValueKind k ≤ size_of (val_of k)
kind_falls (Bool b) = omega arith
kind_falls (Long b) = omega arith
kind_falls (String b) = omega arith
kind_falls (EntityUID b) = omega arith
kind_falls (Set xs) = omega (arith, most_le-size xs.items)
kind_falls (Record m) = omega (arith, most_le-fields m.entries)
kind_falls (Decimal d) = omega arith
kind_falls (IpAddr r) = omega arith
kind_falls (DateTime d) = omega arith
kind_falls (Duration d) = omega arith

pub falls : (a : Inside) → deep-Value a ≤ size_of (val_of a.kind)
falls a = omega (arith, kind_falls a.kind)
