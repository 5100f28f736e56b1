-- What a scope asks, in JSON.
use Rattle.std.specs.Prelude.{ℕ, List, [], ◌∷◌, if◌then◌else◌, Option, Some, None, option_map, option_and_then, codes}
use Rattle.std.specs.Str.{bytes_eq}
use Rattle.policy_values.specs.declared.entity_uid.EntityUID.{EntityUID}
use Rattle.serde_json.specs.Data.{Data, Members}
use Rattle.serde_json.specs.Find.{get, as_str, as_object}
use Rattle.json_values.specs.Json.{◌>>=◌, has_only, only_member}
use Rattle.json_values.specs.Names.{name_of, uid_of, uids_of}
use Rattle.policy_set.specs.declared.constraint.EntityReference.{EntityReference}
use Rattle.policy_set.specs.declared.constraint.EntityReference.TheVariants.{EUID, Slot}
use Rattle.policy_set.specs.declared.constraint.PrincipalOrResourceConstraint.{PrincipalOrResourceConstraint}
use Rattle.policy_set.specs.declared.constraint.PrincipalOrResourceConstraint.TheVariants.{Any, Eq, In, Is, IsIn}
use Rattle.policy_set.specs.declared.constraint.ActionConstraint.{ActionConstraint}
use Rattle.policy_set.specs.declared.constraint.ActionConstraint.TheVariants as action

-- a text that stands for the part's own slot
abbrev pub slot_of : List ℕ → Option EntityReference
slot_of text = if bytes_eq text (codes "?") then Some Slot else None

abbrev pub reference_from : Option (List ℕ) → Option EntityUID → Option EntityReference
reference_from (Some text) uid = slot_of text
reference_from None uid = option_map EUID uid

-- the entity that a scope names: an id, or the part's own slot
abbrev pub reference_of : Data → Option EntityReference
reference_of d = reference_from (as_str d) (uid_of d)

-- both, where there are both
abbrev pub is_in : Option (List ℕ) → Option EntityReference → Option PrincipalOrResourceConstraint
is_in name entity = do
  name ← name
  entity ← entity
  Some (IsIn name entity)

-- what the members `==`, `in` and `is` ask together
abbrev pub asked : Option Data → Option Data → Option Data → Option PrincipalOrResourceConstraint
asked (Some d) None None = option_map Eq (reference_of d)
asked None (Some d) None = option_map In (reference_of d)
asked None None (Some d) = option_map Is (name_of d)
asked None (Some d) (Some e) = is_in (name_of e) (reference_of d)
asked a b c = None

abbrev pub scope_names : List (List ℕ)
scope_names = codes "==" ∷ codes "in" ∷ codes "is" ∷ []

unfoldable pub given_constraint_of : Data → Option PrincipalOrResourceConstraint
given_constraint_of d = do
  members ← as_object d
  if has_only scope_names members then asked (get (codes "==") d) (get (codes "in") d) (get (codes "is") d)
      else None

-- an absent part asks nothing
abbrev pub constraint_of : Option Data → Option PrincipalOrResourceConstraint
constraint_of None = Some Any
constraint_of (Some d) = given_constraint_of d

-- the action by `==`, or actions by `in`
abbrev pub action_form : List ℕ → Option EntityUID → Option (List EntityUID) → Option ActionConstraint
action_form key uid uids =
    if bytes_eq key (codes "==") then option_map action.Eq uid
    else (if bytes_eq key (codes "in") then option_map action.In uids
    else None)

abbrev pub action_form_of : Members → Option ActionConstraint
action_form_of ms = option_and_then (λ m. action_form m.0 (uid_of m.1) (uids_of (Some m.1))) (only_member ms)

abbrev pub action_constraint_of : Option Data → Option ActionConstraint
action_constraint_of None = Some action.Any
action_constraint_of (Some d) = option_and_then action_form_of (as_object d)
