-- What the schema says of the entities of a store that conforms.
use Rattle.std.proofs.Common.{◌≡◌, ℕ, Bool, true, false, List, [], ◌∷◌, Option, Some, None, is_some, IsTrue, cond, refl, ap, subst, IfSome, IsSomeAnd}
use Rattle.std.specs.Prelude.{option_map}
use Rattle.std.specs.Option.{option_and_then}
use Rattle.policy_values.specs.declared.entity_uid.EntityUID.{EntityUID}
use Rattle.policy_values.specs.Basename.{is_action_type}
use Rattle.policy_values.specs.Value.{no_fields}
use Rattle.entity_store.specs.Store.{StoredEntity, Store, is_named, entity_at}
use Rattle.schema_types.specs.declared.kinds.OpenTag.TheVariants.{OpenAttributes, ClosedAttributes}
use Rattle.schema_types.specs.Ty.{Ty, never, true_type, false_type, primitive, any_set, set_of, record_of, any_entity, entity, action, extension, Attrs, no_attrs, attr}
use Rattle.schema_core.specs.Faults.{IsSchema}
use Rattle.schema_core.specs.Inside.{is_held, are_held}
use Rattle.schema_core.specs.Kinds.{Kind, standard, enumerated, attributes_in, tags_in, is_held_kind}
use Rattle.schema_core.specs.Schema.{TypeData, ActionData, SchemaData, type_at, action_at}
use Rattle.typing_spec.specs.Conforms.{AreTags, TypedConforms, ActionConforms, ConformsAs, EntityConforms, StoreConforms}
use Rattle.typing_spec.specs.Environment.{declared_attributes, declared_tags}
use Rattle.typing_spec.proofs.Kept.{IsKept, AreKept}
use Rattle.plain_lemmas.proofs.Booleans.{and_parts_of}
use Rattle.typing_spec.proofs.Ids.{same_uid}

-- the types that a schema holds are types that expressions have
mutual
  pub held_kept : (t : Ty) → IsTrue (is_held t) → IsKept t
  held_kept (primitive p) h = tt
  held_kept (set_of t) h = held_kept t h
  held_kept (record_of xs ClosedAttributes) h = held_all xs h
  held_kept (record_of xs OpenAttributes) h = absurd (cc)
  held_kept (entity ns) h = h
  held_kept (extension n) h = tt
  held_kept never h = absurd (cc)
  held_kept true_type h = tt
  held_kept false_type h = tt
  held_kept any_set h = tt
  held_kept any_entity h = tt
  held_kept (action n xs) h = absurd (cc)

  pub held_all : (xs : Attrs) → IsTrue (are_held xs) → AreKept xs
  held_all no_attrs h = tt
  held_all (attr k t q xs) h = let r = and_parts_of (is_held t) (are_held xs) h in (held_kept t r.0, held_all xs r.1)

attributes_kept : (k : Kind) → IsTrue (is_held_kind k) → AreKept (attributes_in k)
attributes_kept (standard xs None) h = held_all xs h
attributes_kept (standard xs (Some t)) h = held_all xs (and_parts_of (are_held xs) (is_held t) h).0
attributes_kept (enumerated ids) h = tt

tags_kept : (k : Kind) → IsTrue (is_held_kind k) → IfSome (tags_in k) IsKept
tags_kept (standard xs None) h = tt
tags_kept (standard xs (Some t)) h = held_kept t (and_parts_of (are_held xs) (is_held t) h).1
tags_kept (enumerated ids) h = tt

module _ (schema : SchemaData) (ok : IsSchema schema) where
  pub declared_kept : (n : List ℕ) → IfSome (declared_attributes schema n) AreKept
  declared_kept n = by (type_at schema n) (ok.types.kinds n)
    where
      by : (o : Option TypeData) → IfSome (option_map (λ t. t.kind) o) (λ k. IsTrue (is_held_kind k)) → IfSome (option_map (λ t. attributes_in t.kind) o) AreKept
      by None h = tt
      by (Some t) h = attributes_kept t.kind h

  pub declared_tags_kept : (n : List ℕ) → IfSome (declared_tags schema n) IsKept
  declared_tags_kept n = by (type_at schema n) (ok.types.kinds n)
    where
      by : (o : Option TypeData) → IfSome (option_map (λ t. t.kind) o) (λ k. IsTrue (is_held_kind k)) → IfSome (option_and_then (λ t. tags_in t.kind) o) IsKept
      by None h = tt
      by (Some t) h = tags_kept t.kind h

  pub context_kept : (u : EntityUID) → IfSome (action_at schema u) (λ a. AreKept a.context)
  context_kept u = by (action_at schema u) (ok.types.contexts u)
    where
      by : (o : Option ActionData) → IfSome (option_map (λ a. a.context) o) (λ xs. IsTrue (are_held xs)) → IfSome o (λ a. AreKept a.context)
      by None h = tt
      by (Some a) h = held_all a.context h

  -- a declared type is no type of actions; the type of a declared action is one
  pub declared_is_no_action : (n : List ℕ) → is_some (type_at schema n) ≡ true → is_action_type n ≡ false
  declared_is_no_action n h = ok.names.types n h

  pub action_is_one : (u : EntityUID) → is_some (action_at schema u) ≡ true → IsTrue (is_action_type u.entity_type)
  action_is_one u h = ok.names.actions u h

  -- an entity that is found conforms, and has the id
  pub record FoundAt (x : EntityUID) (e : StoredEntity) : Type 0 where
    pub uid : x ≡ e.uid
    pub conforms : EntityConforms schema e

  pub found_at : (s : Store) (x : EntityUID) → StoreConforms schema s → IfSome (entity_at s x) (FoundAt x)
  found_at [] x h = tt
  found_at (e ∷ s) x h = by (is_named x e) refl (found_at s x h.1)
    where
      by : (b : Bool) → is_named x e ≡ b → IfSome (entity_at s x) (FoundAt x) → IfSome (cond b (Some e) (entity_at s x)) (FoundAt x)
      by true f rest = record { uid = same_uid x e.uid f; conforms = h.0 }
      by false f rest = rest

  -- an entity of a declared type
  pub typed_found : (x : EntityUID) (e : StoredEntity) (t : TypeData) → FoundAt x e → type_at schema x.entity_type ≡ Some t → TypedConforms schema e t
  typed_found x e t f p =
      let q : type_at schema e.uid.entity_type ≡ Some t = subst (λ u. type_at schema u.entity_type ≡ Some t) f.uid p in
      let r : is_action_type e.uid.entity_type ≡ false = declared_is_no_action e.uid.entity_type (ap is_some q) in
      let c : IsSomeAnd (type_at schema e.uid.entity_type) (TypedConforms schema e) = subst (λ b. ConformsAs schema b e) r f.conforms in
      subst (λ o. IsSomeAnd o (TypedConforms schema e)) q c

  -- an entity of an action
  pub action_found : (x : EntityUID) (e : StoredEntity) → FoundAt x e → is_action_type x.entity_type ≡ true → ActionConforms schema e
  action_found x e f p =
      let r : is_action_type e.uid.entity_type ≡ true = subst (λ u. is_action_type u.entity_type ≡ true) f.uid p in
      there (action_at schema e.uid) (subst (λ b. ConformsAs schema b e) r f.conforms)
    where
      there : (o : Option ActionData) → IsSomeAnd o (λ a. ActionConforms schema e) → ActionConforms schema e
      there None h = absurd h
      there (Some a) h = h

  -- an entity whose type declares no tags has none
  pub untagged_found : (x : EntityUID) (e : StoredEntity) → FoundAt x e → declared_tags schema x.entity_type ≡ None → e.tags ≡ no_fields
  untagged_found x e f p = by (is_action_type e.uid.entity_type) f.conforms
    where
      q : declared_tags schema e.uid.entity_type ≡ None
      q = subst (λ u. declared_tags schema u.entity_type ≡ None) f.uid p

      typed : (o : Option TypeData) → option_and_then (λ t. tags_in t.kind) o ≡ None → IsSomeAnd o (TypedConforms schema e) → e.tags ≡ no_fields
      typed None g h = absurd h
      typed (Some t) g h = subst (λ ts. AreTags ts e.tags) g h.tags

      there : (o : Option ActionData) → IsSomeAnd o (λ a. ActionConforms schema e) → e.tags ≡ no_fields
      there None h = absurd h
      there (Some a) h = h.tags

      by : (b : Bool) → ConformsAs schema b e → e.tags ≡ no_fields
      by true h = there (action_at schema e.uid) h
      by false h = typed (type_at schema e.uid.entity_type) q h

  -- an entity that is none of an action is of a declared type
  pub undeclared_found : (x : EntityUID) (e : StoredEntity) → FoundAt x e → is_action_type x.entity_type ≡ false → type_at schema x.entity_type ≡ None → ⊥
  undeclared_found x e f a p =
      let q : type_at schema e.uid.entity_type ≡ None = subst (λ u. type_at schema u.entity_type ≡ None) f.uid p in
      let r : is_action_type e.uid.entity_type ≡ false = subst (λ u. is_action_type u.entity_type ≡ false) f.uid a in
      let c : IsSomeAnd (type_at schema e.uid.entity_type) (TypedConforms schema e) = subst (λ b. ConformsAs schema b e) r f.conforms in
      subst (λ o. IsSomeAnd o (TypedConforms schema e)) q c
