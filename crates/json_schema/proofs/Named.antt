-- The names of the extension types are names.
use Rattle.std.proofs.Common.{◌≡◌, ◌⊎◌, inl, inr, ℕ, List, [], true, codes, refl}
use Rattle.policy_values.specs.Name.{IsName}
use Rattle.json_values.specs.Names.{is_name, is_name_after}
use Rattle.json_values.proofs.NameTest.{name_reported}

test : (t : List ℕ) → is_name_after [] t ≡ true → IsName t
unfolding is_name
test t e = (name_reported t).0 e

pub decimal_is_name : IsName (codes "decimal")
unfolding is_name_after
decimal_is_name = test (codes "decimal") refl

pub ipaddr_is_name : IsName (codes "ipaddr")
unfolding is_name_after
ipaddr_is_name = test (codes "ipaddr") refl

pub datetime_is_name : IsName (codes "datetime")
unfolding is_name_after
datetime_is_name = test (codes "datetime") refl

pub duration_is_name : IsName (codes "duration")
unfolding is_name_after
duration_is_name = test (codes "duration") refl

-- any of them
pub extension_is_name : (t : List ℕ) → (t ≡ codes "decimal") ⊎ ((t ≡ codes "ipaddr") ⊎ ((t ≡ codes "datetime") ⊎ (t ≡ codes "duration"))) → IsName t
extension_is_name t (inl e) = rw e decimal_is_name
extension_is_name t (inr (inl e)) = rw e ipaddr_is_name
extension_is_name t (inr (inr (inl e))) = rw e datetime_is_name
extension_is_name t (inr (inr (inr e))) = rw e duration_is_name
