-- How an attribute is reached: what is met first going left through accesses.
use Rattle.std.specs.Prelude.{ℕ, List, [], ◌∷◌, Option, Some, None}
use Rattle.std.specs.Option.{option_and_then, option_map_or}
use Rattle.policy_values.specs.declared.entity_uid.EntityUID.{EntityUID}
use Rattle.policy_expressions.specs.declared.kinds.Var.{Var}
use Rattle.policy_expressions.specs.declared.kinds.Var.TheVariants.{Context}
use Rattle.policy_expressions.specs.Tree.{Tree, var, attr, Mark, mark_of}
use Rattle.schema_types.specs.Ty.{Ty, entity}
use Rattle.schema_core.specs.EnvData.{EnvData, action_in}
use Rattle.findings.specs.declared.access.AttributeAccess.{AttributeAccess}
use Rattle.findings.specs.declared.access.AttributeAccess.TheVariants as access

-- the types of an entity that is no action, where they are known
abbrev pub union_in : Ty → Option (List (List ℕ))
union_in (entity types) = Some types
union_in t = None

-- the entity types of a note
abbrev pub types_noted : Option Ty → Option (List (List ℕ))
types_noted t = option_and_then union_in t

-- attributes of an entity of these types, unless its type is another: then what is said
abbrev pub entity_or : Option Ty → List (List ℕ) → AttributeAccess → AttributeAccess
entity_or t names other = option_map_or (λ types. access.EntityLUB types names) (types_noted t) other

-- attributes of the context, where its action is declared
abbrev pub context_access : Option EntityUID → List (List ℕ) → AttributeAccess
context_access (Some action) names = access.Context action names
context_access None names = access.Other names

-- attributes of a variable that is no entity of a known type
abbrev pub variable_access : EnvData → Var → List (List ℕ) → AttributeAccess
variable_access env Context names = context_access (action_in env) names
variable_access env v names = access.Other names

-- the attributes of the target
abbrev pub access_of : EnvData → Tree (Mark (Option Ty)) → List (List ℕ) → AttributeAccess
access_of env (attr x n m) names = entity_or m.note names (access_of env x (n ∷ names))
access_of env (var v m) names = entity_or m.note names (variable_access env v names)
access_of env e names = entity_or (mark_of e).note names (access.Other names)

-- one attribute of the target
abbrev pub attribute_access : EnvData → Tree (Mark (Option Ty)) → List ℕ → AttributeAccess
attribute_access env target name = access_of env target (name ∷ [])
