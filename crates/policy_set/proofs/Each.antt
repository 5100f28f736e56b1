-- What holds of each value of a list holds with one more of which it holds.
use Rattle.std.proofs.Common.{List, [], ◌∷◌}
use Rattle.std.specs.List.{AllByRecursion}
use Rattle.std.specs.declared.cmp.Ordering.{Ordering}
use Rattle.std.specs.declared.cmp.Ordering.TheVariants.{Less, Equal, Greater}
use Rattle.std.specs.Ordering.{match_ordering}
use Rattle.policy_values.specs.Keyed.{with_value}

module _ {K V : Type 0} (cmp : K → K → Ordering) (key : V → K) (P : V → Type 0) (v : V) (p : P v) where
  pub each_with : (vs : List V) → AllByRecursion P vs → AllByRecursion P (with_value cmp key v vs)
  each_with [] h = (p, tt)
  each_with (w ∷ ws) h = by (cmp (key v) (key w)) (each_with ws h.1) where
    by : (o : Ordering) → AllByRecursion P (with_value cmp key v ws) → AllByRecursion P (match_ordering o (v ∷ w ∷ ws) (v ∷ ws) (w ∷ with_value cmp key v ws))
    by Less later = (p, h)
    by Equal later = (p, h.1)
    by Greater later = (h.0, later)
