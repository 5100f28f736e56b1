-- Nothing is found of the names in a condition exactly where all are known.
use Rattle.std.proofs.Common.{◌≡◌, ℕ, Bool, true, false, ◌&&◌, List, [], Option, Some, None, IsTrue, refl, ap, if◌then◌else◌}
use Rattle.std.specs.Option.{option_map, option_map_or, option_and_then}
use Rattle.std.specs.List.{AllByRecursion, filter_map}
use Rattle.policy_values.specs.Reaches.{has}
use Rattle.policy_values.specs.declared.entity_uid.EntityUID.{EntityUID}
use Rattle.policy_values.specs.Uid.{text_cmp}
use Rattle.policy_expressions.specs.declared.kinds.Loc.{Loc}
use Rattle.policy_expressions.specs.Plain.{Plain}
use Rattle.schema_core.specs.Kinds.{Kind, standard, enumerated}
use Rattle.schema_core.specs.Schema.{SchemaData, TypeData, type_at}
use Rattle.typing_spec.specs.Conforms.{is_listed, is_listed_in}
use Rattle.findings.specs.Mentioned.{Mentioned, an_id, a_type, type_of, names_in, is_known_type, is_known_action}
use Rattle.policy_scope.specs.Names.{distinct, entity_type_cmp, action_id_cmp, enum_cmp, entity_type_finding, entity_type_findings, action_id_finding, action_id_findings, choices_in, others_listed, enum_finding, enum_findings}
use Rattle.typecheck_rules.specs.Names.{is_known_name, has_known_names}
use Rattle.policy_validate.proofs.Empty.{none_grown, none_kept, kept_none, all_pass, pass_all, all_more, all_both}
use Rattle.plain_lemmas.proofs.Booleans.{and_parts_of}

pub found_none : {X : Type 0} (b : Bool) (x : X) → (if b then None else Some x) ≡ None → b ≡ true
found_none true x h = refl
found_none false x h = absurd (cc h)

pub none_found : {X : Type 0} (b : Bool) (x : X) → b ≡ true → (if b then None else Some x) ≡ None
none_found b x h = ap (λ c. if c then None else Some x) h

module _ (u : EntityUID) where
  kind_listed : {X : Type 0} (f : List (List ℕ) → X) (k : Kind) → option_map f (option_and_then (others_listed u) (choices_in k)) ≡ None → is_listed_in k u.eid ≡ true
  kind_listed f (standard xs t) h = refl
  kind_listed f (enumerated ids) h = by (has text_cmp ids u.eid) h
    where
      by : (b : Bool) → option_map f (if b then None else Some ids) ≡ None → b ≡ true
      by true e = refl
      by false e = absurd (cc e)

  type_listed : {X : Type 0} (f : List (List ℕ) → X) (o : Option TypeData) → option_map f (option_and_then (others_listed u) (option_and_then (λ t. choices_in t.kind) o)) ≡ None → option_map_or (λ t. is_listed_in t.kind u.eid) o true ≡ true
  type_listed f None h = refl
  type_listed f (Some t) h = kind_listed f t.kind h

  listed_kind : {X : Type 0} (f : List (List ℕ) → X) (k : Kind) → is_listed_in k u.eid ≡ true → option_map f (option_and_then (others_listed u) (choices_in k)) ≡ None
  listed_kind f (standard xs t) h = refl
  listed_kind f (enumerated ids) h = ap (λ b. option_map f (if b then None else Some ids)) h

  listed_type : {X : Type 0} (f : List (List ℕ) → X) (o : Option TypeData) → option_map_or (λ t. is_listed_in t.kind u.eid) o true ≡ true → option_map f (option_and_then (others_listed u) (option_and_then (λ t. choices_in t.kind) o)) ≡ None
  listed_type f None h = refl
  listed_type f (Some t) h = listed_kind f t.kind h

module _ (schema : SchemaData) (id : List ℕ) where
  abbrev IsKnown : Mentioned × Option Loc → Type 0
  IsKnown m = is_known_name schema m.0 ≡ true

  -- nothing is found of a name: neither of its type, nor that it is not listed, nor that its action is not declared
  abbrev HasKnownType : Mentioned × Option Loc → Type 0
  HasKnownType m = entity_type_finding schema id m ≡ None

  abbrev IsListed : Mentioned × Option Loc → Type 0
  IsListed m = enum_finding schema id m ≡ None

  abbrev HasKnownAction : Mentioned × Option Loc → Type 0
  HasKnownAction m = action_id_finding schema id m ≡ None

  name_known : (m : Mentioned × Option Loc) → HasKnownType m → IsListed m → HasKnownAction m → IsKnown m
  name_known (an_id u, l) type listed action = λ i. found_none (is_known_type schema u.entity_type) _ type i && (found_none (is_known_action schema u) _ action i && type_listed u _ (type_at schema u.entity_type) listed i)
  name_known (a_type n, l) type listed action = found_none (is_known_type schema n) _ type

  type_known : (m : Mentioned × Option Loc) → IsKnown m → HasKnownType m
  type_known (an_id u, l) h = none_found (is_known_type schema u.entity_type) _ (and_parts_of (is_known_type schema u.entity_type) _ h).0
  type_known (a_type n, l) h = none_found (is_known_type schema n) _ h

  id_listed : (m : Mentioned × Option Loc) → IsKnown m → IsListed m
  id_listed (an_id u, l) h = listed_type u _ (type_at schema u.entity_type) (and_parts_of (is_known_action schema u) _ (and_parts_of (is_known_type schema u.entity_type) _ h).1).1
  id_listed (a_type n, l) h = refl

  action_known : (m : Mentioned × Option Loc) → IsKnown m → HasKnownAction m
  action_known (an_id u, l) h = none_found (is_known_action schema u) _ (and_parts_of (is_known_action schema u) _ (and_parts_of (is_known_type schema u.entity_type) _ h).1).0
  action_known (a_type n, l) h = refl

  pub names_known : (e : Plain) → entity_type_findings schema id e ≡ [] → enum_findings schema id e ≡ [] → action_id_findings schema id e ≡ [] → IsTrue (has_known_names schema e)
  names_known e types ids actions =
      let t = none_kept (entity_type_finding schema id) (names_in e) (none_grown (has entity_type_cmp) (λ x. refl) _ types) in
      let l = none_kept (enum_finding schema id) (names_in e) (none_grown (has enum_cmp) (λ x. refl) _ ids) in
      let a = none_kept (action_id_finding schema id) (names_in e) (none_grown (has action_id_cmp) (λ x. refl) _ actions) in
      pass_all (λ m. is_known_name schema m.0) (names_in e)
      (all_both HasKnownType (λ m. IsListed m × HasKnownAction m) IsKnown (λ m p q. name_known m p q.0 q.1) (names_in e) t
      (all_both IsListed HasKnownAction (λ m. IsListed m × HasKnownAction m) (λ m p q. (p, q)) (names_in e) l a))

  module _ (e : Plain) (known : IsTrue (has_known_names schema e)) where
    each_known : AllByRecursion IsKnown (names_in e)
    each_known = all_pass (λ m. is_known_name schema m.0) (names_in e) known

    pub types_known : entity_type_findings schema id e ≡ []
    types_known = ap (distinct entity_type_cmp) (kept_none (entity_type_finding schema id) (names_in e) (all_more IsKnown HasKnownType type_known (names_in e) each_known))

    pub ids_listed : enum_findings schema id e ≡ []
    ids_listed = ap (distinct enum_cmp) (kept_none (enum_finding schema id) (names_in e) (all_more IsKnown IsListed id_listed (names_in e) each_known))

    pub actions_known : action_id_findings schema id e ≡ []
    actions_known = ap (distinct action_id_cmp) (kept_none (action_id_finding schema id) (names_in e) (all_more IsKnown HasKnownAction action_known (names_in e) each_known))
