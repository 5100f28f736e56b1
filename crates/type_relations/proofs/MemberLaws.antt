-- A member of a type is a member of each type above it.
use Rattle.std.proofs.Common.{◌⊎◌, inl, inr, ℕ, List, Bool, true, false, not, ◌||◌, cond, Option, Some, None, ◌∙◌, sym, subst, IsTrue, arith}
use Rattle.std.specs.Ordering.{is_eq}
use Rattle.policy_values.specs.Uid.{text_cmp}
use Rattle.schema_types.specs.declared.kinds.Primitive.TheVariants.{Bool as BoolType}
use Rattle.schema_types.specs.declared.kinds.OpenTag.{OpenTag}
use Rattle.schema_types.specs.declared.kinds.OpenTag.TheVariants.{OpenAttributes, ClosedAttributes}
use Rattle.type_relations.specs.declared.mode.SubtypeMode.TheVariants.{Strict}
use Rattle.schema_types.specs.Ty.{Ty, true_type, false_type, primitive, any_set, set_of, record_of, any_entity, entity, action, extension, Attrs, no_attrs, attr}
use Rattle.schema_types.specs.declared.ty.AttributeType.{AttributeType}
use Rattle.type_relations.specs.Subtype.{IsOpen, SubOpen, Subtype, SubAttrs}
use Rattle.schema_types.specs.Names.{has_name}
use Rattle.schema_types.specs.Attrs.{attr_at}
use Rattle.type_relations.specs.Member.{has_field, type_of, Undeclared, IsDeclared, HasRequired, Member, Members, Typed}
use Rattle.policy_values.specs.Value.{Val, truth, entity as id, set, rec, Vals, no_vals, val, Fields, no_fields, field}

-- both or neither, and below
abbrev SubFound : Option AttributeType → Option AttributeType → Type 0
SubFound None None = Unit {0}
SubFound (Some a) (Some b) = Subtype Strict a.attr_type b.attr_type
SubFound x y = ⊥

sub_cond : (b : Bool) (x y u v : Option AttributeType) → SubFound x u → SubFound y v → SubFound (cond b x y) (cond b u v)
sub_cond true x y u v h k = h
sub_cond false x y u v h k = k

sub_at : (xs ys : Attrs) (n : List ℕ) → SubAttrs Strict xs ys → SubFound (attr_at xs n) (attr_at ys n)
sub_at no_attrs no_attrs n h = tt
sub_at no_attrs (attr l u r ys) n h = absurd h
sub_at (attr k t q xs) no_attrs n h = absurd h
sub_at (attr k t q xs) (attr l u r ys) n h =
    subst (λ m. SubFound (attr_at (attr k t q xs) n) (cond (is_eq (text_cmp n m)) (Some (record { attr_type = u; is_required = r })) (attr_at ys n))) h.0
    (sub_cond (is_eq (text_cmp n k)) (Some (record { attr_type = t; is_required = q })) (attr_at xs n) (Some (record { attr_type = u; is_required = r })) (attr_at ys n) h.1 (sub_at xs ys n h.3))

required_sub : (xs ys : Attrs) (fs : Fields) → SubAttrs Strict xs ys → HasRequired xs fs → HasRequired ys fs
required_sub no_attrs no_attrs fs h k = tt
required_sub no_attrs (attr l u r ys) fs h k = absurd h
required_sub (attr n t q xs) no_attrs fs h k = absurd h
required_sub (attr n t q xs) (attr l u r ys) fs h k = ((λ i. not (sym h.2 i) || has_field fs (sym h.0 i)) ∙ k.0, required_sub xs ys fs h.3 k.1)

open_sub : (o p : OpenTag) → SubOpen o p → IsOpen o → IsOpen p
open_sub OpenAttributes OpenAttributes s h = tt
open_sub OpenAttributes ClosedAttributes s h = absurd s
open_sub ClosedAttributes p s h = absurd h

field_sub : (o p : OpenTag) (a b : Option AttributeType) (v : Val) → SubOpen o p → SubFound a b → (Subtype Strict (type_of a) (type_of b) → Member (type_of a) v → Member (type_of b) v) → Undeclared o a ⊎ (IsDeclared a × Member (type_of a) v) → Undeclared p b ⊎ (IsDeclared b × Member (type_of b) v)
field_sub o p None None v s f g (inl h) = inl (open_sub o p s h)
field_sub o p None None v s f g (inr h) = absurd h.0
field_sub o p (Some a) (Some b) v s f g (inl h) = absurd h
field_sub o p (Some a) (Some b) v s f g (inr h) = inr (tt, g f h.1)
field_sub o p None (Some b) v s f g h = absurd f
field_sub o p (Some a) None v s f g h = absurd f

mutual
  pub member_sub : (t u : Ty) (v : Val) → Subtype Strict t u → Member t v → Member u v
  member_sub true_type true_type (truth b) h k = k
  member_sub true_type (primitive BoolType) (truth b) h k = tt
  member_sub false_type false_type (truth b) h k = k
  member_sub false_type (primitive BoolType) (truth b) h k = tt
  member_sub (primitive p) (primitive q) v h k = subst (λ r. Member (primitive r) v) h k
  member_sub any_set any_set (set vs) h k = tt
  member_sub (set_of t) any_set (set vs) h k = tt
  member_sub (set_of t) (set_of u) (set vs) h k = members_sub t u vs h k
  member_sub (record_of xs o) (record_of ys p) (rec fs) (s, inl h) k = absurd h.0
  member_sub (record_of xs o) (record_of ys p) (rec fs) (s, inr h) k = (required_sub xs ys fs h k.0, typed_sub o p xs ys fs s h k.1)
  member_sub any_entity any_entity (id u) h k = tt
  member_sub (entity ms) (entity ns) (id u) h k = subst (λ ls. IsTrue (has_name ls u.entity_type)) h k
  member_sub (action m xs) (action n ys) (id u) h k = k ∙ h.0
  member_sub (extension m) (extension n) v h k = subst (λ l. Member (extension l) v) h k
  member_sub t u v h k = grind arith

  members_sub : (t u : Ty) (vs : Vals) → Subtype Strict t u → Members t vs → Members u vs
  members_sub t u no_vals h k = tt
  members_sub t u (val v vs) h k = (member_sub t u v h k.0, members_sub t u vs h k.1)

  typed_sub : (o p : OpenTag) (xs ys : Attrs) (fs : Fields) → SubOpen o p → SubAttrs Strict xs ys → Typed o xs fs → Typed p ys fs
  typed_sub o p xs ys no_fields s h k = tt
  typed_sub o p xs ys (field n v fs) s h k =
      (field_sub o p (attr_at xs n) (attr_at ys n) v s (sub_at xs ys n h) (member_sub (type_of (attr_at xs n)) (type_of (attr_at ys n)) v) k.0, typed_sub o p xs ys fs s h k.1)
