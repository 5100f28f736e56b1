-- The policies of a sample.
use Rattle.std.proofs.Common.{◌≡◌, [], ◌∷◌, Ok, refl, arith}
use Rattle.std.specs.Prelude.{codes}
use Rattle.policy_expressions.specs.declared.kinds.BinaryOp.TheVariants.{LessEq}
use Rattle.policy_expressions.specs.declared.kinds.Var.TheVariants as variable
use Rattle.policy_expressions.specs.Plain.{Plain, unmarked}
use Rattle.policy_expressions.specs.Tree.{var, attr, binary}
use Rattle.policy_set.specs.Condition.{anything, static_of}
use Rattle.policy_set.specs.Data.{TemplateData}
use Rattle.policy_set.specs.PolicySet.{PolicySetData}
use Rattle.policy_set.specs.declared.constraint.Effect.TheVariants.{Permit, Forbid}
use Rattle.policy_set.specs.declared.constraint.EntityReference.TheVariants.{EUID}
use Rattle.policy_set.specs.declared.constraint.PrincipalOrResourceConstraint.TheVariants.{Any, In}
use Rattle.policy_set.specs.declared.constraint.ActionConstraint.TheVariants as action
use Rattle.link_spec.specs.Accepted.{IsAcceptedTemplate}
use Rattle.policy_validate.specs.Accepted.{IsAccepted}
use Rattle.json_values.specs.Names.{is_name, is_name_after}
use Rattle.json_expressions.specs.Exprs.{named_form_tree, placed_tree}
use Rattle.json_document.specs.Body.{clause_of}
use Rattle.json_document.specs.Scope.{given_constraint_of}
use Rattle.json_document.specs.Policy.{policy_parts_of, policy_of, entry_of}
use Rattle.json_document.specs.Policies.{no_policies, policies_of}
use Rattle.document_laws.proofs.Json.{policies_items}
use Rattle.document_laws.proofs.SampleParts.{schema_of_sample, id}

-- principal.manager.level <= resource.level
abbrev compared : Plain
compared =
    binary LessEq (attr (attr (var variable.Principal unmarked) (codes "manager") unmarked) (codes "level") unmarked)
    (attr (var variable.Resource unmarked) (codes "level") unmarked) unmarked

abbrev permits : TemplateData
permits = record { id = codes "p0"; effect = Permit; principal = Any; action = action.Any; resource = Any; body = compared }

abbrev forbids : TemplateData
forbids = record { id = codes "p1"; effect = Forbid; principal = In (EUID (id (codes "Group") (codes "g0"))); action = action.Any; resource = Any; body = anything }

abbrev pub policies_of_sample : PolicySetData
policies_of_sample = record { templates = []; policies = static_of permits ∷ static_of forbids ∷ [] }

pub policies_read : policies_of 0 no_policies policies_items ≡ Ok policies_of_sample
unfolding is_name is_name_after named_form_tree placed_tree clause_of given_constraint_of policy_parts_of policy_of entry_of
policies_read = refl

permits_accepted : IsAcceptedTemplate schema_of_sample permits
permits_accepted = record { names = refl; scope = refl; depth = omega arith; typed = (refl, tt) }

forbids_accepted : IsAcceptedTemplate schema_of_sample forbids
forbids_accepted = record { names = refl; scope = refl; depth = omega arith; typed = (refl, tt) }

pub policies_accepted : IsAccepted schema_of_sample policies_of_sample
policies_accepted = record { as_written = (permits_accepted, (forbids_accepted, tt)); as_linked = tt }
