-- The depth of a policy that is built, and of one that is not.
use Rattle.std.proofs.Common.{◌≡◌, ◌<◌, ◌≤◌, Bool, true, false, Option, Some, None, option_map, arith, refl}
use Rattle.std.specs.Prelude.{nat_lt, option_and_then, if◌then◌else◌}
use Rattle.std.proofs.lemmas.Bool.Decides.{nat_tests}
use Rattle.policy_expressions.specs.Tree.{depth_of}
use Rattle.policy_expressions.specs.Slots.{has_slot}
use Rattle.policy_expressions.specs.Plain.{Plain}
use Rattle.policy_set.specs.Data.{TemplateData}
use Rattle.policy_set.specs.Condition.{condition_of}
use Rattle.policy_set.proofs.Depths.{by_body}
use Rattle.json_expressions.specs.Reads.{bounded}
use Rattle.json_expressions.specs.declared.nesting.Bounded.TheVariants.{Within, Nested}
use Rattle.json_document.specs.Policy.{is_too_deep, policy_of_parts, policy_with_body, read_of, read_with}
use Rattle.json_document.specs.declared.policy.PolicyParts.{PolicyParts}
use Rattle.json_document.specs.declared.policy.PolicyRead.TheVariants as policy

is_built : (t : TemplateData) → ¬ (400 < depth_of (condition_of t)) → is_too_deep t ≡ false
is_built t h = grind (arith, nat_tests)

nested_by : (t : TemplateData) (b : Bool) → is_too_deep t ≡ b → 400 < depth_of (condition_of t) → Some policy.Nested ≡ (if b then Some policy.Nested else (if has_slot t.body then None else Some (policy.Policy t)))
nested_by t true e h = refl
nested_by t false e h = grind (arith, nat_tests)

-- a policy that is built is read; one that is nested too deep, and one with a slot in its body, are not
pub built_read : (t : TemplateData) → ¬ (400 < depth_of (condition_of t)) → has_slot t.body ≡ false → Some (policy.Policy t) ≡ read_of t
built_read t h k = rw (is_built t h, k) refl

pub nested_read : (t : TemplateData) → 400 < depth_of (condition_of t) → Some policy.Nested ≡ read_of t
nested_read t h = nested_by t (is_too_deep t) refl h

pub deep_read : (t : TemplateData) → 400 ≤ depth_of t.body → Some policy.Nested ≡ read_of t
deep_read t h = nested_read t ((by_body t).0 h)

pub slot_read : (t : TemplateData) → ¬ (400 ≤ depth_of t.body) → has_slot t.body ≡ true → None ≡ read_of t
slot_read t h k = rw (is_built t (λ d. h ((by_body t).1 d)), k) refl

with_by : (p : PolicyParts) (x : Plain) (b : Bool) → nat_lt 400 (depth_of x) ≡ b → read_with p (if b then Nested else Within x) ≡ read_of (policy_of_parts p x)
with_by p x true e =
    let deep : 400 < depth_of (condition_of (policy_of_parts p x)) = grind (arith, nat_tests) in
    nested_by (policy_of_parts p x) (is_too_deep (policy_of_parts p x)) refl deep
with_by p x false e = refl

-- what is read of the parts and the body is what is read of the whole policy
pub whole_read : (p : PolicyParts) (o : Option Plain) → option_and_then (read_with p) (option_map bounded o) ≡ option_and_then read_of (policy_with_body (Some p) o)
whole_read p None = refl
whole_read p (Some x) = with_by p x (nat_lt 400 (depth_of x)) refl
