use Rattle.std.proofs.Common.{Some, ◌≡◌, ℕ, List, [], ◌∷◌, slice_get, ap, sym}
use Rattle.std.specs.Option.{option_map}
use Rattle.policy_values.specs.Value.{Val, fields_of}
use Rattle.conformance.specs.StoreRules.{first_key}
use Rattle.conformance.proofs.store.least_key.Goals as goal

first_of : (es : List (List ℕ × Val)) (k : List ℕ) (v : Val) → slice_get es 0 ≡ Some (k, v) → Some k ≡ first_key (fields_of es)
first_of [] k v h = cc
first_of (e ∷ es) k v h = ap (option_map (λ p. p.0)) (sym h)

pub returns : goal.returns
returns c = first_of c.args.fields.now.entries c.in_ok-key.key.now c.in_ok-key.field-0-1.now c.in_ok-key.ensures.first
