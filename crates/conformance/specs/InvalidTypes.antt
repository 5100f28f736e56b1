-- What is said of an action that does not apply to a type.
use Rattle.std.specs.Prelude.{ℕ, List, refl}
use Rattle.std.specs.Coded.{Coded, coded×, coded_ℕ, coded_list, code_by}
use Rattle.policy_values.specs.declared.entity_uid.EntityUID.{EntityUID}
use Rattle.policy_values.specs.Uid.{coded_uid}

-- the principal's type, the action, and the types of principals to which it applies
pub record InvalidPrincipalType : Type 0 where
  pub principal_ty : List ℕ
  pub action : EntityUID
  pub valid_principal_tys : List (List ℕ)

-- the resource's type, the action, and the types of resources to which it applies
pub record InvalidResourceType : Type 0 where
  pub resource_ty : List ℕ
  pub action : EntityUID
  pub valid_resource_tys : List (List ℕ)

abbrev parts : Coded (List ℕ × (EntityUID × List (List ℕ)))
parts = coded× (coded_list coded_ℕ) (coded× coded_uid (coded_list (coded_list coded_ℕ)))

abbrev pub coded_principal_type : Coded InvalidPrincipalType
coded_principal_type = code_by (List ℕ × (EntityUID × List (List ℕ)))
    parts (λ e. (e.principal_ty, (e.action, e.valid_principal_tys)))
    (λ p. record { principal_ty = p.0; action = p.1.0; valid_principal_tys = p.1.1 }) (λ _. refl)

abbrev pub coded_resource_type : Coded InvalidResourceType
coded_resource_type = code_by (List ℕ × (EntityUID × List (List ℕ)))
    parts (λ e. (e.resource_ty, (e.action, e.valid_resource_tys)))
    (λ p. record { resource_ty = p.0; action = p.1.0; valid_resource_tys = p.1.1 }) (λ _. refl)
