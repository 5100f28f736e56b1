-- A policy, a template or a link of one in JSON.
use Rattle.std.specs.Prelude.{ℕ, List, [], ◌∷◌, Bool, false, ◌&&◌, not, nat_lt, if◌then◌else◌, Option, Some, None, is_some, option_map, option_and_then, codes}
use Rattle.std.specs.Str.{bytes_eq}
use Rattle.serde_json.specs.Data.{Data}
use Rattle.serde_json.specs.Find.{get, as_str, as_object}
use Rattle.json_expressions.specs.declared.nesting.Bounded.{Bounded}
use Rattle.json_expressions.specs.declared.nesting.Bounded.TheVariants as read
use Rattle.json_values.specs.Json.{◌>>=◌, has_only}
use Rattle.policy_set.specs.declared.constraint.Effect.{Effect}
use Rattle.policy_set.specs.declared.constraint.Effect.TheVariants.{Permit, Forbid}
use Rattle.policy_expressions.specs.Tree.{depth_of}
use Rattle.policy_expressions.specs.Slots.{has_slot}
use Rattle.policy_set.specs.Data.{TemplateData}
use Rattle.policy_expressions.specs.Plain.{Plain}
use Rattle.policy_set.specs.Condition.{condition_of}
use Rattle.json_document.specs.Body.{body_of}
use Rattle.json_document.specs.Link.{link_of}
use Rattle.json_document.specs.Scope.{action_constraint_of, constraint_of}
use Rattle.json_document.specs.declared.policy.PolicyParts.{PolicyParts}
use Rattle.json_document.specs.declared.policy.PolicyRead.{PolicyRead}
use Rattle.json_document.specs.declared.policy.PolicyRead.TheVariants.{Policy, Link, Nested}

abbrev pub effect_of_text : List ℕ → Option Effect
effect_of_text text =
    if bytes_eq text (codes "permit") then Some Permit
    else (if bytes_eq text (codes "forbid") then Some Forbid
    else None)

abbrev pub effect_of : Data → Option Effect
effect_of d = option_and_then effect_of_text (as_str d)

abbrev pub policy_names : List (List ℕ)
policy_names =
    codes "id" ∷ codes "effect" ∷ codes "principal" ∷ codes "action" ∷ codes "resource" ∷ codes "body" ∷ []

-- the parts that the members of the policy give, but for its body
unfoldable pub policy_parts_of : Data → Option PolicyParts
policy_parts_of d = do
  id ← option_and_then as_str (get (codes "id") d)
  effect ← option_and_then effect_of (get (codes "effect") d)
  principal ← constraint_of (get (codes "principal") d)
  action ← action_constraint_of (get (codes "action") d)
  resource ← constraint_of (get (codes "resource") d)
  Some (record { id = id; effect = effect; principal = principal; action = action; resource = resource })

-- the policy of the parts, with this body
abbrev pub policy_of_parts : PolicyParts → Plain → TemplateData
policy_of_parts p body = record {
  id = p.id;
  effect = p.effect;
  principal = p.principal;
  action = p.action;
  resource = p.resource;
  body = body;
}

abbrev pub policy_with_body : Option PolicyParts → Option Plain → Option TemplateData
policy_with_body parts body = do
  parts ← parts
  body ← body
  Some (policy_of_parts parts body)

-- the policy or the template that the value is, of any depth and with any expressions: an object with no
-- other members
unfoldable pub policy_of : Data → Option TemplateData
policy_of d = do
  members ← as_object d
  if has_only policy_names members then policy_with_body (policy_parts_of d) (body_of (get (codes "body") d))
      else None

-- the condition is nested deeper than 400
abbrev pub is_too_deep : TemplateData → Bool
is_too_deep t = nat_lt 400 (depth_of (condition_of t))

-- the policy, unless its condition is nested deeper than 400; none, where a slot stands in its body
abbrev pub read_of : TemplateData → Option PolicyRead
read_of t = if is_too_deep t then Some Nested else (if has_slot t.body then None else Some (Policy t))

-- what is read of the parts and the body
abbrev pub read_with : PolicyParts → Bounded Plain → Option PolicyRead
read_with p (read.Within x) = read_of (policy_of_parts p x)
read_with p read.Nested = Some Nested

-- what the value says where a document has a policy: a link, where it has the member `link`, else a policy or
-- a template
unfoldable pub entry_of : Data → Option PolicyRead
entry_of d =
    if is_some (get (codes "link") d) then option_map Link (link_of d)
    else option_and_then read_of (policy_of d)
