-- A store breaks no rule exactly where it conforms.
use Rattle.std.proofs.Common.{◌≡◌, ℕ, Bool, true, false, not, ◌&&◌, ◌||◌, List, [], ◌∷◌, map, cond, Option, Some, None, inl, inr, ◌⊎◌, is_some, IsSome, IsSomeAnd, IsTrue, refl, sym, ap, ◌∙◌, subst, if◌then◌else◌}
use Rattle.std.specs.Option.{option_or, option_map, option_map_or}
use Rattle.std.specs.List.{AllByRecursion, list_all, find}
use Rattle.std.specs.List.Sorted.{IsStrictlySortedBy}
use Rattle.std.specs.declared.cmp.Ordering.TheVariants.{Less}
use Rattle.std.specs.Ordering.{is_eq, ordering_reverse}
use Rattle.std.proofs.lemmas.Cmp.{tied_itself}
use Rattle.std.proofs.lemmas.Map.Views.{tells_apart}
use Rattle.policy_values.specs.Reaches.{has}
use Rattle.policy_values.specs.declared.entity_uid.EntityUID.{EntityUID}
use Rattle.policy_values.specs.Basename.{is_action_type}
use Rattle.policy_values.specs.Uid.{text_cmp, uid_cmp, uid_cmp_total, exact_uid}
use Rattle.policy_values.specs.Value.{Val, Fields, no_fields, field}
use Rattle.entity_store.specs.Store.{StoredEntity, Store}
use Rattle.schema_types.specs.declared.kinds.OpenTag.TheVariants.{ClosedAttributes}
use Rattle.schema_types.specs.declared.ty.AttributeType.{AttributeType}
use Rattle.schema_types.specs.Attrs.{attr_at}
use Rattle.schema_types.specs.Ty.{Ty, Attrs}
use Rattle.schema_core.specs.Faults.{IsSchema}
use Rattle.schema_core.specs.Kinds.{attributes_in, tags_in}
use Rattle.schema_core.specs.Schema.{SchemaData, TypeData, ActionData, is_action_named, type_at, action_at, type_below, action_below}
use Rattle.type_relations.specs.Member.{type_of, Undeclared, IsDeclared, Member, Typed}
use Rattle.typing_spec.specs.Conforms.{is_listed, lists_ids, lists_fields, AreTags, IsAllowedAncestor, TypedConforms, ActionConforms, ConformsAs, EntityConforms, StoreConforms}
use Rattle.conformance.specs.Misfits.{misfit, first_missing}
use Rattle.conformance.specs.RequestRules.{unless}
use Rattle.conformance.specs.StoreRules.{first_key, is_of, first_broken, declared_fault, attribute_fault, tag_fault, tags_fault, ancestor_fault, ancestors_fault, declared_entity_fault, typed_entity_fault, is_ancestor_if_above, has_its_ancestors, action_entity_fault, entity_fault, first_store_fault}
use Rattle.conformance.specs.declared.store_rule.StoreRule.{StoreRule}
use Rattle.conformance.specs.declared.store_rule.StoreRule.TheVariants.{TypeNotDeclared, IdNotListed, AttributeNotDeclared, AttributeOfAnotherType, AttributeHoldsUnlistedId, RequiredAttributeMissing, TagsNotAllowed, TagOfAnotherType, TagHoldsUnlistedId, AncestorNotAllowed, AncestorNotListed, ActionNotDeclared, ActionHasAttributes, ActionHasTags, ActionAncestorsDiffer}
use Rattle.conformance.specs.Laws.{StoreRulesAreExact}
use Rattle.conformance.proofs.Options.{none_first, none_rest, neither, kept, keeps, no_fault, none_inside, all_more, all_pass, pass_all}
use Rattle.plain_lemmas.proofs.Booleans.{and_parts_of, equal_by_both_ways, or_right_true}
use Rattle.conformance.proofs.Members.{all_there, all_required, required_all, member_of, of_member}

-- the value is of the type exactly where it is a member
pub of_type : (t : Ty) (v : Val) → is_of t v ≡ true → Member t v
of_type t v h = member_of t v (no_fault (misfit all_there t v) h)

pub type_has : (t : Ty) (v : Val) → Member t v → is_of t v ≡ true
type_has t v h = ap (λ o. not (is_some o)) (of_member t v h)

no_key : (fs : Fields) → first_key fs ≡ None → fs ≡ no_fields
no_key no_fields h = refl
no_key (field k v fs) h = absurd (cc h)

module _ (schema : SchemaData) where
  -- a field of a declared attribute
  abbrev IsTypedField : Attrs → List ℕ → Val → Type 0
  IsTypedField xs k v = (Undeclared ClosedAttributes (attr_at xs k) ⊎ (IsDeclared (attr_at xs k) × Member (type_of (attr_at xs k)) v)) × (lists_ids schema v ≡ true)

  typed_field : (xs : Attrs) (k : List ℕ) (v : Val) → attribute_fault schema xs k v ≡ None → IsTypedField xs k v
  typed_field xs k v h = by (attr_at xs k) h
    where
      by : (o : Option AttributeType) → option_map_or (declared_fault schema k v) o (Some (AttributeNotDeclared k)) ≡ None → (Undeclared ClosedAttributes o ⊎ (IsDeclared o × Member (type_of o) v)) × (lists_ids schema v ≡ true)
      by None e = absurd (cc e)
      by (Some a) e = (
        inr (tt, of_type a.attr_type v (kept (is_of a.attr_type v) (AttributeOfAnotherType k) (none_first _ _ e))),
        kept (lists_ids schema v) (AttributeHoldsUnlistedId k) (none_rest (unless (is_of a.attr_type v) (AttributeOfAnotherType k)) _ e),
      )

  field_typed : (xs : Attrs) (k : List ℕ) (v : Val) → IsTypedField xs k v → attribute_fault schema xs k v ≡ None
  field_typed xs k v h = by (attr_at xs k) h
    where
      by : (o : Option AttributeType) → (Undeclared ClosedAttributes o ⊎ (IsDeclared o × Member (type_of o) v)) × (lists_ids schema v ≡ true) → option_map_or (declared_fault schema k v) o (Some (AttributeNotDeclared k)) ≡ None
      by None (inl e, ids) = absurd e
      by None (inr e, ids) = absurd e.0
      by (Some a) (inl e, ids) = absurd e
      by (Some a) (inr e, ids) = neither _ _ (keeps (is_of a.attr_type v) (AttributeOfAnotherType k) (type_has a.attr_type v e.1)) (keeps (lists_ids schema v) (AttributeHoldsUnlistedId k) ids)

  all_typed : (xs : Attrs) (fs : Fields) → first_broken (attribute_fault schema xs) fs ≡ None → Typed ClosedAttributes xs fs × (lists_fields schema fs ≡ true)
  all_typed xs no_fields h = (tt, refl)
  all_typed xs (field k v fs) h =
      let here = typed_field xs k v (none_first _ _ h) in
      let rest = all_typed xs fs (none_rest (attribute_fault schema xs k v) _ h) in
      ((here.0, rest.0), λ i. here.1 i && rest.1 i)

  typed_all : (xs : Attrs) (fs : Fields) → Typed ClosedAttributes xs fs → lists_fields schema fs ≡ true → first_broken (attribute_fault schema xs) fs ≡ None
  typed_all xs no_fields h ids = refl
  typed_all xs (field k v fs) h ids =
      let b = and_parts_of (lists_ids schema v) (lists_fields schema fs) ids in
      neither _ _ (field_typed xs k v (h.0, b.0)) (typed_all xs fs h.1 b.1)

  -- tags
  all_tagged : (t : Ty) (fs : Fields) → first_broken (tag_fault schema t) fs ≡ None → AreTags (Some t) fs × (lists_fields schema fs ≡ true)
  all_tagged t no_fields h = (tt, refl)
  all_tagged t (field k v fs) h =
      let here = none_first (tag_fault schema t k v) _ h in
      let rest = all_tagged t fs (none_rest (tag_fault schema t k v) _ h) in
      let ids = kept (lists_ids schema v) (TagHoldsUnlistedId k) (none_rest (unless (is_of t v) (TagOfAnotherType k)) _ here) in
      ((of_type t v (kept (is_of t v) (TagOfAnotherType k) (none_first _ _ here)), rest.0), λ i. ids i && rest.1 i)

  tagged_all : (t : Ty) (fs : Fields) → AreTags (Some t) fs → lists_fields schema fs ≡ true → first_broken (tag_fault schema t) fs ≡ None
  tagged_all t no_fields h ids = refl
  tagged_all t (field k v fs) h ids =
      let b = and_parts_of (lists_ids schema v) (lists_fields schema fs) ids in
      neither _ _ (neither _ _ (keeps (is_of t v) (TagOfAnotherType k) (type_has t v h.0)) (keeps (lists_ids schema v) (TagHoldsUnlistedId k) b.0)) (tagged_all t fs h.1 b.1)

  tags_typed : (o : Option Ty) (fs : Fields) → tags_fault schema o fs ≡ None → AreTags o fs × (lists_fields schema fs ≡ true)
  tags_typed None fs h = let e = no_key fs (none_inside (λ _. TagsNotAllowed) (first_key fs) h) in (e, ap (lists_fields schema) e)
  tags_typed (Some t) fs h = all_tagged t fs h

  typed_tags : (o : Option Ty) (fs : Fields) → AreTags o fs → lists_fields schema fs ≡ true → tags_fault schema o fs ≡ None
  typed_tags None fs h ids = ap (λ gs. option_map (λ _. TagsNotAllowed) (first_key gs)) h
  typed_tags (Some t) fs h ids = tagged_all t fs h ids

  -- ancestors
  module _ (e : StoredEntity) where
    all_allowed : (us : List EntityUID) → ancestors_fault schema e.uid.entity_type us ≡ None → AllByRecursion (IsAllowedAncestor schema e) us
    all_allowed [] h = tt
    all_allowed (u ∷ us) h =
        let here = none_first (ancestor_fault schema e.uid.entity_type u) _ h in (
          record {
            below = kept (type_below schema e.uid.entity_type u.entity_type) (AncestorNotAllowed u) (none_first _ _ here);
            listed = kept (is_listed schema u) (AncestorNotListed u) (none_rest (unless (type_below schema e.uid.entity_type u.entity_type) (AncestorNotAllowed u)) _ here);
          },
          all_allowed us (none_rest (ancestor_fault schema e.uid.entity_type u) _ h),
        )

    allowed_all : (us : List EntityUID) → AllByRecursion (IsAllowedAncestor schema e) us → ancestors_fault schema e.uid.entity_type us ≡ None
    allowed_all [] h = refl
    allowed_all (u ∷ us) h =
        neither _ _ (neither _ _ (keeps (type_below schema e.uid.entity_type u.entity_type) (AncestorNotAllowed u) h.0.below) (keeps (is_listed schema u) (AncestorNotListed u) h.0.listed)) (allowed_all us h.1)

    -- an entity of a declared type
    typed_conforms : (t : TypeData) → declared_entity_fault schema e t ≡ None → TypedConforms schema e t
    typed_conforms t h =
        let xs = attributes_in t.kind in
        let after_id = none_rest (unless (is_listed schema e.uid) IdNotListed) _ h in
        let after_attributes = none_rest (first_broken (attribute_fault schema xs) e.attrs) _ after_id in
        let after_required = none_rest (option_map RequiredAttributeMissing (first_missing xs e.attrs)) _ after_attributes in
        let attributes = all_typed xs e.attrs (none_first _ _ after_id) in
        let tags = tags_typed (tags_in t.kind) e.tags (none_first _ _ after_required) in
        record {
          listed = kept (is_listed schema e.uid) IdNotListed (none_first _ _ h);
          attributes = (all_required xs e.attrs (none_inside RequiredAttributeMissing (first_missing xs e.attrs) (none_first _ _ after_attributes)), attributes.0);
          attribute_ids = attributes.1;
          tags = tags.0;
          tag_ids = tags.1;
          ancestors = all_allowed e.ancestors (none_rest (tags_fault schema (tags_in t.kind) e.tags) _ after_required);
        }

    conforms_typed : (t : TypeData) → TypedConforms schema e t → declared_entity_fault schema e t ≡ None
    conforms_typed t h =
        let xs = attributes_in t.kind in
        neither _ _ (keeps (is_listed schema e.uid) IdNotListed h.listed)
        (neither _ _ (typed_all xs e.attrs h.attributes.1 h.attribute_ids)
        (neither _ _ (ap (option_map RequiredAttributeMissing) (required_all xs e.attrs h.attributes.0))
        (neither _ _ (typed_tags (tags_in t.kind) e.tags h.tags h.tag_ids) (allowed_all e.ancestors h.ancestors))))

-- what a list has passes what all of it passes
has_passed : (p : EntityUID → Bool) (us : List EntityUID) → list_all p us ≡ true → (u : EntityUID) → has uid_cmp us u ≡ true → p u ≡ true
has_passed p [] h u k = absurd (cc k)
has_passed p (x ∷ us) h u k = by (is_eq (uid_cmp u x)) refl (has_passed p us (and_parts_of (p x) (list_all p us) h).1 u) k
  where
    by : (b : Bool) → is_eq (uid_cmp u x) ≡ b → (has uid_cmp us u ≡ true → p u ≡ true) → (b || has uid_cmp us u) ≡ true → p u ≡ true
    by true e rest j = ap p (tells_apart exact_uid u x e) ∙ (and_parts_of (p x) (list_all p us) h).0
    by false e rest j = rest j

-- each element is in its list
pub each_has : (us : List EntityUID) → AllByRecursion (λ u. has uid_cmp us u ≡ true) us
each_has [] = tt
each_has (x ∷ us) = (
  ap (λ o. is_eq o || has uid_cmp us x) (tied_itself uid_cmp_total x),
  all_more (λ u. has uid_cmp us u ≡ true) (λ u. has uid_cmp (x ∷ us) u ≡ true) (λ u h. or_right_true (is_eq (uid_cmp u x)) (has uid_cmp us u) h) us (each_has us),
)

-- what is found for an id has it, and is of the list
module _ (P : ActionData → Type 0) (u : EntityUID) where
  found_named : (xs : List ActionData) → AllByRecursion P xs → (a : ActionData) → find (is_action_named u) xs ≡ Some a → P a × (u ≡ a.name)
  found_named [] all a h = absurd (cc h)
  found_named (x ∷ xs) all a h = by (is_action_named u x) refl (found_named xs all.1 a) h
    where
      by : (b : Bool) → is_action_named u x ≡ b → (find (is_action_named u) xs ≡ Some a → P a × (u ≡ a.name)) → cond b (Some x) (find (is_action_named u) xs) ≡ Some a → P a × (u ≡ a.name)
      by true e rest k = let is : x ≡ a = cc k in subst (λ y. P y × (u ≡ y.name)) is (all.0, tells_apart exact_uid u x.name e)
      by false e rest k = rest k

-- each action is found by its name
each_found : (xs : List ActionData) → IsStrictlySortedBy uid_cmp (map (λ a. a.name) xs) → AllByRecursion (λ a. find (is_action_named a.name) xs ≡ Some a) xs
unfolding IsStrictlySortedBy
each_found [] h = tt
each_found (x ∷ xs) h = (
  ap (λ o. cond (is_eq o) (Some x) (find (is_action_named x.name) xs)) (tied_itself uid_cmp_total x.name),
  both xs (below xs h.0) (each_found xs h.1),
)
  where
    below : (ys : List ActionData) → AllByRecursion (λ u. uid_cmp x.name u ≡ Less) (map (λ a. a.name) ys) → AllByRecursion (λ a. is_action_named a.name x ≡ false) ys
    below [] k = tt
    below (y ∷ ys) k = (ap is_eq (uid_cmp_total.antisymm y.name x.name ∙ ap ordering_reverse k.0), below ys k.1)

    both : (ys : List ActionData) → AllByRecursion (λ a. is_action_named a.name x ≡ false) ys → AllByRecursion (λ a. find (is_action_named a.name) xs ≡ Some a) ys → AllByRecursion (λ a. find (is_action_named a.name) (x ∷ xs) ≡ Some a) ys
    both [] j k = tt
    both (y ∷ ys) j k = (ap (λ b. cond b (Some x) (find (is_action_named y.name) xs)) j.0 ∙ k.0, both ys j.1 k.1)

module _ (schema : SchemaData) (ok : IsSchema schema) (e : StoredEntity) where
  above_if : (a : ActionData) → (has uid_cmp a.descendants e.uid ≡ true → has uid_cmp e.ancestors a.name ≡ true) → is_ancestor_if_above e a ≡ true
  above_if a f = by (has uid_cmp a.descendants e.uid) f
    where
      by : (b : Bool) → (b ≡ true → has uid_cmp e.ancestors a.name ≡ true) → (not b || has uid_cmp e.ancestors a.name) ≡ true
      by true f = f refl
      by false f = refl

  if_above : (a : ActionData) → is_ancestor_if_above e a ≡ true → has uid_cmp a.descendants e.uid ≡ true → has uid_cmp e.ancestors a.name ≡ true
  if_above a h k = sym (ap (λ b. not b || has uid_cmp e.ancestors a.name) k) ∙ h

  ancestors_are : has_its_ancestors schema e ≡ true → (u : EntityUID) → has uid_cmp e.ancestors u ≡ action_below schema e.uid u
  ancestors_are h u = equal_by_both_ways (has uid_cmp e.ancestors u) (action_below schema e.uid u) (has_passed (action_below schema e.uid) e.ancestors parts.0 u) (λ k. of_action (action_at schema u) refl k)
    where
      parts : (list_all (action_below schema e.uid) e.ancestors ≡ true) × (list_all (is_ancestor_if_above e) schema.action_ids ≡ true)
      parts = and_parts_of (list_all (action_below schema e.uid) e.ancestors) (list_all (is_ancestor_if_above e) schema.action_ids) h

      of_action : (o : Option ActionData) → action_at schema u ≡ o → option_map_or (λ a. has uid_cmp a.descendants e.uid) o false ≡ true → has uid_cmp e.ancestors u ≡ true
      of_action None is k = absurd (cc k)
      of_action (Some a) is k =
          let found = found_named (λ a. is_ancestor_if_above e a ≡ true) u schema.action_ids (all_pass (is_ancestor_if_above e) schema.action_ids parts.1) a is in
          ap (has uid_cmp e.ancestors) found.1 ∙ if_above a found.0 k

  are_ancestors : ((u : EntityUID) → has uid_cmp e.ancestors u ≡ action_below schema e.uid u) → has_its_ancestors schema e ≡ true
  are_ancestors same =
      let below = pass_all (action_below schema e.uid) e.ancestors (all_more (λ u. has uid_cmp e.ancestors u ≡ true) (λ u. action_below schema e.uid u ≡ true) (λ u h. sym (same u) ∙ h) e.ancestors (each_has e.ancestors)) in
      let above = pass_all (is_ancestor_if_above e) schema.action_ids (all_more (λ a. action_at schema a.name ≡ Some a) (λ a. is_ancestor_if_above e a ≡ true)
      (λ a is. above_if a (λ h. same a.name ∙ ap (λ o. option_map_or (λ b. has uid_cmp b.descendants e.uid) o false) is ∙ h)) schema.action_ids (each_found schema.action_ids ok.actions_ascend)) in
      λ i. below i && above i

  -- an action's entity
  action_conforms : action_entity_fault schema e ≡ None → ConformsAs schema true e
  action_conforms h =
      let after_action = none_rest (unless (is_some (action_at schema e.uid)) ActionNotDeclared) _ h in
      let after_attributes = none_rest (option_map (λ _. ActionHasAttributes) (first_key e.attrs)) _ after_action in
      let after_tags = none_rest (option_map (λ _. ActionHasTags) (first_key e.tags)) _ after_attributes in
      declared (action_at schema e.uid) (kept (is_some (action_at schema e.uid)) ActionNotDeclared (none_first _ _ h)) record {
        attributes = no_key e.attrs (none_inside (λ _. ActionHasAttributes) (first_key e.attrs) (none_first _ _ after_action));
        tags = no_key e.tags (none_inside (λ _. ActionHasTags) (first_key e.tags) (none_first _ _ after_attributes));
        ancestors = ancestors_are (kept (has_its_ancestors schema e) ActionAncestorsDiffer after_tags);
      }
    where
      declared : (o : Option ActionData) → is_some o ≡ true → ActionConforms schema e → IsSomeAnd o (λ a. ActionConforms schema e)
      declared None k c = absurd (cc k)
      declared (Some a) k c = c

  conforms_action : ConformsAs schema true e → action_entity_fault schema e ≡ None
  conforms_action h =
      let d = declared (action_at schema e.uid) h in
      neither _ _ (keeps (is_some (action_at schema e.uid)) ActionNotDeclared d.0)
      (neither _ _ (ap (λ fs. option_map (λ _. ActionHasAttributes) (first_key fs)) d.1.attributes)
      (neither _ _ (ap (λ fs. option_map (λ _. ActionHasTags) (first_key fs)) d.1.tags) (keeps (has_its_ancestors schema e) ActionAncestorsDiffer (are_ancestors d.1.ancestors))))
    where
      declared : (o : Option ActionData) → IsSomeAnd o (λ a. ActionConforms schema e) → (is_some o ≡ true) × ActionConforms schema e
      declared None k = absurd k
      declared (Some a) k = (refl, k)

  -- any other
  other_conforms : typed_entity_fault schema e ≡ None → ConformsAs schema false e
  other_conforms h = by (type_at schema e.uid.entity_type) h
    where
      by : (o : Option TypeData) → option_map_or (declared_entity_fault schema e) o (Some TypeNotDeclared) ≡ None → IsSomeAnd o (TypedConforms schema e)
      by None k = absurd (cc k)
      by (Some t) k = typed_conforms schema e t k

  conforms_other : ConformsAs schema false e → typed_entity_fault schema e ≡ None
  conforms_other h = by (type_at schema e.uid.entity_type) h
    where
      by : (o : Option TypeData) → IsSomeAnd o (TypedConforms schema e) → option_map_or (declared_entity_fault schema e) o (Some TypeNotDeclared) ≡ None
      by None k = absurd k
      by (Some t) k = conforms_typed schema e t k

  entity_conforms : entity_fault schema e ≡ None → EntityConforms schema e
  entity_conforms h = by (is_action_type e.uid.entity_type) h
    where
      by : (b : Bool) → (if b then action_entity_fault schema e else typed_entity_fault schema e) ≡ None → ConformsAs schema b e
      by true k = action_conforms k
      by false k = other_conforms k

  conforms_entity : EntityConforms schema e → entity_fault schema e ≡ None
  conforms_entity h = by (is_action_type e.uid.entity_type) h
    where
      by : (b : Bool) → ConformsAs schema b e → (if b then action_entity_fault schema e else typed_entity_fault schema e) ≡ None
      by true k = conforms_action k
      by false k = conforms_other k

module _ (schema : SchemaData) (ok : IsSchema schema) where
  conforms : (s : Store) → first_store_fault schema s ≡ None → StoreConforms schema s
  conforms [] h = tt
  conforms (e ∷ es) h = (entity_conforms schema ok e (none_inside (λ rule. (e.uid, rule)) (entity_fault schema e) (none_first _ _ h)), conforms es (none_rest _ _ h))

  breaks_none : (s : Store) → StoreConforms schema s → first_store_fault schema s ≡ None
  breaks_none [] h = refl
  breaks_none (e ∷ es) h = neither _ _ (ap (option_map (λ rule. (e.uid, rule))) (conforms_entity schema ok e h.0)) (breaks_none es h.1)

pub stores_exact : StoreRulesAreExact
stores_exact schema ok s = (conforms schema ok s, breaks_none schema ok s)
