-- An object with another member than `==` or `in` asks for no action.
use Rattle.std.proofs.Common.{◌≡◌, ℕ, List, Bool, true, false, Option, None, option_map, refl}
use Rattle.std.specs.Prelude.{codes, if◌then◌else◌}
use Rattle.std.specs.Str.{bytes_eq}
use Rattle.std.proofs.lemmas.Slice.Eq.{bytes_eq-Decides}
use Rattle.policy_values.specs.declared.entity_uid.EntityUID.{EntityUID}
use Rattle.policy_set.specs.declared.constraint.ActionConstraint.TheVariants as action
use Rattle.json_document.specs.Scope.{action_form}

pub other_member : (key : List ℕ) (uid : Option EntityUID) (uids : Option (List EntityUID)) → ¬ (key ≡ codes "==") → ¬ (key ≡ codes "in") → None ≡ action_form key uid uids
other_member key uid uids f g = by (bytes_eq key (codes "==")) refl (bytes_eq key (codes "in")) refl where
  by : (b : Bool) → bytes_eq key (codes "==") ≡ b → (c : Bool) → bytes_eq key (codes "in") ≡ c → None ≡ (if b then option_map action.Eq uid else (if c then option_map action.In uids else None))
  by true e c k = absurd (f ((bytes_eq-Decides key (codes "==")).0 e))
  by false e true k = absurd (g ((bytes_eq-Decides key (codes "in")).0 k))
  by false e false k = refl
