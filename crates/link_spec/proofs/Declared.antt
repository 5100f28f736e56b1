-- What a link gives for a slot is of a declared entity type, where some action meets its scope.
use Rattle.std.proofs.Common.{◌≡◌, ℕ, ◌<◌, Bool, true, false, ◌&&◌, ◌||◌, List, [], ◌∷◌, length, get_or, Option, Some, None, is_some, refl, sym, ap, subst, ◌∙◌, inl, inr}
use Rattle.std.specs.List.{list_any}
use Rattle.std.specs.Option.{option_map_or}
use Rattle.std.specs.Ordering.{is_eq}
use Rattle.std.specs.Cmp.{tied_itself}
use Rattle.std.proofs.lemmas.Cmp.{nat_list_cmp_total}
use Rattle.std.proofs.lemmas.List.Folds.{Any-from_list_any}
use Rattle.policy_values.specs.Reaches.{has}
use Rattle.policy_values.specs.declared.entity_uid.EntityUID.{EntityUID}
use Rattle.policy_values.specs.Basename.{is_action_type}
use Rattle.policy_values.specs.Uid.{text_cmp, uid_cmp, uid_cmp_total, exact_uid}
use Rattle.policy_expressions.specs.declared.kinds.SlotValues.{SlotValues}
use Rattle.schema_types.specs.Ty.{entity}
use Rattle.schema_core.specs.EnvData.{id_type, literal_type}
use Rattle.schema_core.specs.Faults.{IsSchema}
use Rattle.schema_core.specs.Schema.{TypeData, ActionData, SchemaData, type_at, action_at, type_below}
use Rattle.policy_set.specs.declared.constraint.EntityReference.TheVariants.{Slot}
use Rattle.policy_set.specs.declared.constraint.PrincipalOrResourceConstraint.{PrincipalOrResourceConstraint}
use Rattle.policy_set.specs.declared.constraint.PrincipalOrResourceConstraint.TheVariants.{Eq, In, IsIn}
use Rattle.policy_set.specs.Data.{TemplateData}
use Rattle.policy_set.specs.Condition.{asks_slot}
use Rattle.policy_set.specs.Links.{linked, linked_of}
use Rattle.policy_scope.specs.Scope.{type_meets, action_meets, types_meet, is_applicable}
use Rattle.schema_core.proofs.Found.{found_here}
use Rattle.link_spec.proofs.Parts.{same_text, IsOfEntities}
use Rattle.plain_lemmas.proofs.Booleans.{and_parts_of}

-- one of the names passes the test
found_name : (f : List ℕ → Bool) (ns : List (List ℕ)) → list_any f ns ≡ true → (n : List ℕ) × (f n ≡ true) × (has text_cmp ns n ≡ true)
found_name f [] h = cc
found_name f (n ∷ ns) h = by (f n) refl (found_name f ns) h
  where
    by : (b : Bool) → f n ≡ b → (list_any f ns ≡ true → (m : List ℕ) × (f m ≡ true) × (has text_cmp ns m ≡ true)) → (b || list_any f ns) ≡ true → (m : List ℕ) × (f m ≡ true) × (has text_cmp (n ∷ ns) m ≡ true)
    by true e rest k = (n, e, ap (λ o. is_eq o || has text_cmp ns n) (tied_itself nat_list_cmp_total n))
    by false e rest k = let r = rest k in (r.0, r.1, last (is_eq (text_cmp r.0 n)) (has text_cmp ns r.0) r.2)
      where
        last : (a b : Bool) → b ≡ true → (a || b) ≡ true
        last true b q = refl
        last false b q = q

-- the same of both slots
abbrev pub AreOfEntities : SchemaData → TemplateData → SlotValues → Type 0
AreOfEntities schema t w = (asks_slot t.principal ≡ true → IsOfEntities schema w.principal) × (asks_slot t.resource ≡ true → IsOfEntities schema w.resource)

module _ (schema : SchemaData) (ok : IsSchema schema) where
  -- the type that the action lists is declared
  abbrev IsDeclaredName : List ℕ → Type 0
  IsDeclaredName n = is_some (type_at schema n) ≡ true

  -- an action that is listed is the one of its id
  listed_action : (k : ℕ) (a : ActionData) → k < length schema.action_ids → get_or schema.action_ids k a ≡ a → action_at schema a.name ≡ Some a
  listed_action k a lt e =
      found_here uid_cmp_total exact_uid (λ x. x.name) a.name schema.action_ids ok.actions_ascend k a lt (ap (λ x. uid_cmp x.name a.name) e ∙ tied_itself uid_cmp_total a.name) ∙ ap Some e

  -- types that an action applies to are declared
  principal_declared : (a : ActionData) → action_at schema a.name ≡ Some a → (n : List ℕ) → has text_cmp a.principals n ≡ true → IsDeclaredName n
  principal_declared a e n h = ok.names.named_types n (inl (inr (inl (a.name, ap (λ o. option_map_or (λ x. has text_cmp x.principals n) o false) e ∙ h))))

  resource_declared : (a : ActionData) → action_at schema a.name ≡ Some a → (n : List ℕ) → has text_cmp a.resources n ≡ true → IsDeclaredName n
  resource_declared a e n h = ok.names.named_types n (inl (inr (inr (a.name, ap (λ o. option_map_or (λ x. has text_cmp x.resources n) o false) e ∙ h))))

  below_declared : (n m : List ℕ) → type_below schema n m ≡ true → IsDeclaredName m
  below_declared n m h = by (type_at schema m) h
    where
      by : (o : Option TypeData) → option_map_or (λ t. has text_cmp t.descendants n) o false ≡ true → is_some o ≡ true
      by None k = cc
      by (Some t) k = refl

  within_declared : (n m : List ℕ) → IsDeclaredName n → (is_eq (text_cmp n m) || type_below schema n m) ≡ true → IsDeclaredName m
  within_declared n m d h = by (is_eq (text_cmp n m)) refl h
    where
      by : (b : Bool) → is_eq (text_cmp n m) ≡ b → (b || type_below schema n m) ≡ true → IsDeclaredName m
      by true e k = subst IsDeclaredName (same_text n m e) d
      by false e k = below_declared n m k

  -- a declared type that meets the constraint with the id makes the id's type declared
  met_declared : (c : PrincipalOrResourceConstraint) (u : EntityUID) (n : List ℕ) → asks_slot c ≡ true → IsDeclaredName n → type_meets schema (linked (Some u) c) n ≡ true → IsDeclaredName u.entity_type
  met_declared (Eq Slot) u n s d h = subst IsDeclaredName (sym (same_text u.entity_type n h)) d
  met_declared (In Slot) u n s d h = within_declared n u.entity_type d h
  met_declared (IsIn m Slot) u n s d h = within_declared n u.entity_type d (and_parts_of (is_eq (text_cmp m n)) (is_eq (text_cmp n u.entity_type) || type_below schema n u.entity_type) h).1
  met_declared c u n s d h = absurd (cc)

  pub literal_declared : (u : EntityUID) → IsDeclaredName u.entity_type → literal_type schema u ≡ Some (entity (u.entity_type ∷ []))
  literal_declared u d = by (action_at schema u) refl (type_at schema u.entity_type) d
    where
      clash : (b : Bool) → b ≡ true → b ≡ false → ⊥
      clash b h i = let f : true ≡ false = sym h ∙ i in cc

      by : (x : Option ActionData) → action_at schema u ≡ x → (o : Option TypeData) → is_some o ≡ true → id_type u x o ≡ Some (entity (u.entity_type ∷ []))
      by None e None k = cc
      by None e (Some t) k = refl
      by (Some a) e o k = absurd (clash (is_action_type u.entity_type) (ok.names.actions u (ap is_some e)) (ok.names.types u.entity_type d))

  -- by the types of an action that meets the link's scope
  side_of_entities : (c : PrincipalOrResourceConstraint) (v : Option EntityUID) (ns : List (List ℕ)) → ((n : List ℕ) → has text_cmp ns n ≡ true → IsDeclaredName n) →
      list_any (type_meets schema (linked v c)) ns ≡ true → asks_slot c ≡ true → IsOfEntities schema v
  side_of_entities c None ns d h s = tt
  side_of_entities c (Some u) ns d h s =
      let r = found_name (type_meets schema (linked (Some u) c)) ns h in
      literal_declared u (met_declared c u r.0 s (d r.0 r.2) r.1)

  pub of_entities : (t : TemplateData) (w : SlotValues) → is_applicable schema (linked_of w t) ≡ true → AreOfEntities schema t w
  of_entities t w h =
      let f = Any-from_list_any (λ a. action_meets schema t.action a && types_meet schema (linked_of w t) a) schema.action_ids h in
      let a = f.1 in
      let found = listed_action f.0 a f.2 f.3 in
      let m = and_parts_of (list_any (type_meets schema (linked w.principal t.principal)) a.principals) (list_any (type_meets schema (linked w.resource t.resource)) a.resources) (and_parts_of (action_meets schema t.action a) (types_meet schema (linked_of w t) a) f.4).1 in
      (side_of_entities t.principal w.principal a.principals (principal_declared a found) m.0, side_of_entities t.resource w.resource a.resources (resource_declared a found) m.1)
