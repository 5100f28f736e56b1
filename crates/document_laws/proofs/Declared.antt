-- The schema of a sample is that of its declarations.
use Rattle.std.proofs.Common.{◌≡◌, ◌<◌, ℕ, Bool, true, false, true≢false, List, [], ◌∷◌, Option, Some, None, inl, inr, refl, sym, subst, ◌∙◌, arith}
use Rattle.std.specs.Prelude.{IsTrue, IfSome, IsSomeAnd}
use Rattle.std.specs.List.Sorted.{IsStrictlySortedBy}
use Rattle.std.specs.Ordering.{is_eq}
use Rattle.std.specs.declared.cmp.Ordering.{Ordering}
use Rattle.std.proofs.lemmas.List.{length-take-le}
use Rattle.std.proofs.lemmas.List.Elements.{All-from_recursion}
use Rattle.std.proofs.lemmas.Map.Lookups.{CmpEqualImpliesEq, exact_bytes}
use Rattle.std.proofs.lemmas.Map.Views.{tells_apart}
use Rattle.std.proofs.lemmas.Option.{slice_get_within}
use Rattle.policy_values.specs.Basename.{is_action_type}
use Rattle.policy_values.specs.Reaches.{Reaches, last, more, has}
use Rattle.policy_values.specs.Repeated.{IsRepeated}
use Rattle.policy_values.specs.Uid.{text_cmp, uid_cmp, exact_uid}
use Rattle.policy_values.specs.declared.entity_uid.EntityUID.{EntityUID}
use Rattle.schema_types.specs.Ty.{Attrs, no_attrs}
use Rattle.schema_core.specs.Declarations.{IsSchemaOf, declared_outline}
use Rattle.schema_core.specs.Faults.{HasSets, IsSchema}
use Rattle.schema_core.specs.Inside.{attrs_name, attrs_extend, are_held, is_known_extension}
use Rattle.schema_core.specs.Kinds.{Kind, standard, is_enum, is_empty_enum, kind_names, kind_extends, is_held_kind}
use Rattle.schema_core.specs.Schema.{TypeData}
use Rattle.schema_core.specs.Outline.{Outline, outline_of, HasSoundNames, HasSoundTypes, IsClosed, HasDescendants, IsNamedType}
use Rattle.document_laws.proofs.SampleParts.{group, user, view, user_attributes, declarations, schema_of_sample}
use Rattle.document_laws.proofs.Store.{apart}

refuse : {A : Type 0} (b : Bool) → b ≡ false → IsTrue b → A
refuse b e h = absurd (true≢false (sym h ∙ e))

by_key : {K : Type 0} {cmp : K → K → Ordering} → CmpEqualImpliesEq cmp → (P : K → Type 0) (a x : K) → P a → (is_eq (cmp x a) ≡ false → P x) → P x
by_key {K} {cmp} exact P a x here other = by (is_eq (cmp x a)) refl where
  by : (b : Bool) → is_eq (cmp x a) ≡ b → P x
  by true e = subst P (sym (tells_apart exact x a e)) here
  by false e = other e

-- by whether the name is of groups, of users or of nothing
by_name : (P : List ℕ → Type 0) (x : List ℕ) → P group → P user → (is_eq (text_cmp x group) ≡ false → is_eq (text_cmp x user) ≡ false → P x) → P x
by_name P x g u other = by_key exact_bytes P group x g (λ e. by_key exact_bytes P user x u (other e))

by_action : (P : EntityUID → Type 0) (u : EntityUID) → P view → (is_eq (uid_cmp u view) ≡ false → P u) → P u
by_action P u here other = by_key exact_uid P view u here other

-- what is declared, whether members or descendants are listed
record IsSmall (o : Outline) : Type 1 where
  named : (P : List ℕ → Type 0) → P group → P user → (x : List ℕ) → IsTrue (o.has_type x) → P x
  users : IsTrue (o.has_type user)
  kinds : (P : Kind → Type 0) → P (standard no_attrs None) → P (standard user_attributes None) → (x : List ℕ) → IfSome (o.kind_at x) P
  contexts : (P : Attrs → Type 0) → P no_attrs → (u : EntityUID) → IfSome (o.context_at u) P
  actions : (P : EntityUID → Type 0) → P view → (u : EntityUID) → IsTrue (o.has_action u) → P u
  lists : (x y : List ℕ) → IsTrue (o.type_lists x y) → IsTrue (o.has_type y)
  principals : (u : EntityUID) (y : List ℕ) → IsTrue (o.principal_lists u y) → y ≡ user
  resources : (u : EntityUID) (y : List ℕ) → IsTrue (o.resource_lists u y) → y ≡ user
  no_member : (u v : EntityUID) → o.action_lists u v ≡ false

-- where each thing that there is leads to C, and there is one
led : {X C : Type 0} (P : X → Type 0) (o : Option X) → IsSomeAnd o P → IfSome o (λ x. P x → C) → C
led P None h f = absurd h
led P (Some x) h f = f h

is_user : (y : List ℕ) → IsTrue (has text_cmp (user ∷ []) y) → y ≡ user
is_user y h = by_key exact_bytes (λ z. IsTrue (has text_cmp (user ∷ []) z) → z ≡ user) user y (λ _. refl) (λ e i. refuse (has text_cmp (user ∷ []) y) (rw e refl) i) h

module _ (o : Outline) (small : IsSmall o) where
  inside : (y : List ℕ) → IsTrue (kind_names (standard user_attributes None) y) → y ≡ user
  inside y h = by_key exact_bytes (λ z. IsTrue (kind_names (standard user_attributes None) z) → z ≡ user) user y (λ _. refl) (λ e i. refuse (kind_names (standard user_attributes None) y) (rw e refl) i) h

  declared : (y : List ℕ) → y ≡ user → IsTrue (o.has_type y)
  declared y same = subst (λ n. IsTrue (o.has_type n)) (sym same) small.users

  named_declared : (y : List ℕ) → IsNamedType o y → IsTrue (o.has_type y)
  named_declared y (inl (inl (x, h))) = small.lists x y h
  named_declared y (inl (inr (inl (u, h)))) = declared y (small.principals u y h)
  named_declared y (inl (inr (inr (u, h)))) = declared y (small.resources u y h)
  named_declared y (inr (inl (x, h))) = declared y (led (λ k. IsTrue (kind_names k y)) (o.kind_at x) h (small.kinds (λ k. IsTrue (kind_names k y) → y ≡ user) (λ no. refuse false refl no) (inside y) x))
  named_declared y (inr (inr (u, h))) = led (λ xs. IsTrue (attrs_name xs y)) (o.context_at u) h (small.contexts (λ xs. IsTrue (attrs_name xs y) → IsTrue (o.has_type y)) (λ no. refuse false refl no) u)

  sound_names : HasSoundNames o
  sound_names = record {
    types = λ x h. small.named (λ n. is_action_type n ≡ false) refl refl x h;
    enums = λ x. small.kinds (λ k. is_empty_enum k ≡ false) refl refl x;
    actions = λ u h. small.actions (λ v. IsTrue (is_action_type v.entity_type)) refl u h;
    named_types = named_declared;
    named_actions = λ v h. refuse (o.action_lists h.0 v) (small.no_member h.0 v) h.1;
  }

  sound_types : HasSoundTypes o
  sound_types = record {
    kinds = λ x. small.kinds (λ k. IsTrue (is_held_kind k)) refl refl x;
    contexts = λ u. small.contexts (λ xs. IsTrue (are_held xs)) refl u;
    extensions = λ n h. elim h [
      | inl (x, named) ↦ led (λ k. IsTrue (kind_extends k n)) (o.kind_at x) named (small.kinds (λ k. IsTrue (kind_extends k n) → IsTrue (is_known_extension n)) (λ no. refuse false refl no) (λ no. refuse false refl no) x)
      | inr (u, named) ↦ led (λ xs. IsTrue (attrs_extend xs n)) (o.context_at u) named (small.contexts (λ xs. IsTrue (attrs_extend xs n) → IsTrue (is_known_extension n)) (λ no. refuse false refl no) u)
    ];
  }

abbrev before : Outline
before = declared_outline declarations

abbrev after : Outline
after = outline_of schema_of_sample

before_lists : (x y : List ℕ) → IsTrue (before.type_lists x y) → (x ≡ user) × (y ≡ group)
before_lists x y h =
    by_name (λ n. IsTrue (before.type_lists n y) → (n ≡ user) × (y ≡ group)) x (λ no. refuse false refl no)
    (λ i. (refl, by_key exact_bytes (λ z. IsTrue (has text_cmp (group ∷ []) z) → z ≡ group) group y (λ _. refl) (λ e j. refuse (has text_cmp (group ∷ []) y) (rw e refl) j) i))
    (λ e f i. refuse (before.type_lists x y) (rw (e, f) refl) i) h

after_lists : (x y : List ℕ) → IsTrue (after.type_lists x y) → (x ≡ group) × (y ≡ user)
after_lists x y h =
    by_name (λ n. IsTrue (after.type_lists n y) → (n ≡ group) × (y ≡ user)) x (λ i. (refl, is_user y i)) (λ no. refuse false refl no)
    (λ e f i. refuse (after.type_lists x y) (rw (e, f) refl) i) h

before_small : IsSmall before
before_small = record {
  named = λ P g u x. by_name (λ n. IsTrue (before.has_type n) → P n) x (λ _. g) (λ _. u) (λ e f h. refuse (before.has_type x) (rw (e, f) refl) h);
  users = refl;
  kinds = λ P g u x. by_name (λ n. IfSome (before.kind_at n) P) x g u (λ e f. rw (e, f) tt);
  contexts = λ P n u. by_action (λ v. IfSome (before.context_at v) P) u n (λ e. rw e tt);
  actions = λ P v u. by_action (λ w. IsTrue (before.has_action w) → P w) u (λ _. v) (λ e h. refuse (before.has_action u) (rw e refl) h);
  lists = λ x y h. subst (λ n. IsTrue (before.has_type n)) (sym (before_lists x y h).1) refl;
  principals = λ u y. by_action (λ v. IsTrue (before.principal_lists v y) → y ≡ user) u (is_user y) (λ e h. refuse (before.principal_lists u y) (rw e refl) h);
  resources = λ u y. by_action (λ v. IsTrue (before.resource_lists v y) → y ≡ user) u (is_user y) (λ e h. refuse (before.resource_lists u y) (rw e refl) h);
  no_member = λ u v. by_action (λ w. before.action_lists w v ≡ false) u refl (λ e. rw e refl);
}

after_small : IsSmall after
after_small = record {
  named = λ P g u x. by_name (λ n. IsTrue (after.has_type n) → P n) x (λ _. g) (λ _. u) (λ e f h. refuse (after.has_type x) (rw (e, f) refl) h);
  users = refl;
  kinds = λ P g u x. by_name (λ n. IfSome (after.kind_at n) P) x g u (λ e f. rw (e, f) tt);
  contexts = λ P n u. by_action (λ v. IfSome (after.context_at v) P) u n (λ e. rw e tt);
  actions = λ P v u. by_action (λ w. IsTrue (after.has_action w) → P w) u (λ _. v) (λ e h. refuse (after.has_action u) (rw e refl) h);
  lists = λ x y h. subst (λ n. IsTrue (after.has_type n)) (sym (after_lists x y h).1) refl;
  principals = λ u y. by_action (λ v. IsTrue (after.principal_lists v y) → y ≡ user) u (is_user y) (λ e h. refuse (after.principal_lists u y) (rw e refl) h);
  resources = λ u y. by_action (λ v. IsTrue (after.resource_lists v y) → y ≡ user) u (is_user y) (λ e h. refuse (after.resource_lists u y) (rw e refl) h);
  no_member = λ u v. by_action (λ w. after.action_lists w v ≡ false) u refl (λ e. rw e refl);
}

no_action_reached : {u v : EntityUID} {A : Type 0} → Reaches (λ a b. IsTrue (before.action_lists a b)) u v → A
no_action_reached {u = u} {v = v} (last s) = refuse (before.action_lists u v) (before_small.no_member u v) s
no_action_reached {u = u} {v = w} (more {y = v} s r) = refuse (before.action_lists u v) (before_small.no_member u v) s

reached : {x y : List ℕ} → Reaches (λ a b. IsTrue (before.type_lists a b)) x y → (x ≡ user) × (y ≡ group)
reached {x = x} {y = y} (last s) = before_lists x y s
reached {x = x} {y = z} (more {y = y} s r) = absurd (apart (sym (reached r).0 ∙ (before_lists x y s).1))

descendants : HasDescendants before after
descendants = record {
  has_type = λ x. by_name (λ n. after.has_type n ≡ before.has_type n) x refl refl (λ e f. rw (e, f) refl);
  has_action = λ u. by_action (λ v. after.has_action v ≡ before.has_action v) u refl (λ e. rw e refl);
  types = λ x y. (
    λ h. let both = after_lists x y h in rw (both.0, both.1) (last refl),
    λ r. let both = reached r in rw (both.0, both.1) refl,
  );
  actions = λ u v. (λ h. refuse (after.action_lists u v) (after_small.no_member u v) h, λ r. no_action_reached r);
  principals = λ u y. by_action (λ v. after.principal_lists v y ≡ before.principal_lists v y) u refl (λ e. rw e refl);
  resources = λ u y. by_action (λ v. after.resource_lists v y ≡ before.resource_lists v y) u refl (λ e. rw e refl);
  kinds = λ x. by_name (λ n. after.kind_at n ≡ before.kind_at n) x refl refl (λ e f. rw (e, f) refl);
  contexts = λ u. by_action (λ v. after.context_at v ≡ before.context_at v) u refl (λ e. rw e refl);
}

closed : IsClosed after
closed = record {
  types = λ x y z h i. absurd (apart (sym (after_lists x y h).1 ∙ (after_lists y z i).0));
  actions = λ u v w h i. refuse (after.action_lists u v) (after_small.no_member u v) h;
  no_own = λ u. after_small.no_member u u;
  no_enum = λ x y h. after_small.kinds (λ k. is_enum k ≡ false) refl refl y;
}

is_schema : IsSchema schema_of_sample
unfolding IsStrictlySortedBy
is_schema = record {
  types_ascend = ((refl, tt), (tt, tt));
  actions_ascend = (tt, tt);
  type_sets = All-from_recursion (λ (t : TypeData). IsStrictlySortedBy text_cmp t.descendants) schema_of_sample.entity_types ((tt, tt), (tt, tt));
  action_sets = All-from_recursion HasSets schema_of_sample.action_ids (record { principals = (tt, tt); resources = (tt, tt); descendants = tt }, tt);
  names = sound_names after after_small;
  closed = closed;
  types = sound_types after after_small;
}

once : (k : EntityUID) → IsRepeated (view ∷ []) k → ⊥
once k (i, at_i, (j, in_prefix, at_j)) = let within : i < 1 = slice_get_within (view ∷ []) i k at_i in omega (arith, length-take-le i (view ∷ []) (omega arith))

pub schema_made : IsSchemaOf declarations schema_of_sample
schema_made = record {
  once = once;
  names = sound_names before before_small;
  no_cycle = λ u r. no_action_reached r;
  no_enum = λ x h. led (λ k. IsTrue (is_enum k)) (before.kind_at x) h.0 (before_small.kinds (λ k. IsTrue (is_enum k) → ⊥) (λ no. refuse false refl no) (λ no. refuse false refl no) x);
  types = sound_types before before_small;
  schema = is_schema;
  descendants = descendants;
}
