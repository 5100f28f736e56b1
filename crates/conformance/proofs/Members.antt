-- Nothing is wrong exactly with the values of a type.
use Rattle.std.proofs.Common.{◌≡◌, ℕ, Bool, true, false, not, ◌&&◌, ◌||◌, List, Option, Some, None, inl, inr, ◌⊎◌, IsTrue, codes, refl, sym, ap, ◌∙◌, if◌then◌else◌}
use Rattle.std.specs.Option.{option_or, option_map}
use Rattle.std.specs.Ordering.{is_eq}
use Rattle.std.proofs.lemmas.Cmp.{nat_list_cmp_total, tied_itself}
use Rattle.std.proofs.lemmas.Map.Lookups.{exact_bytes}
use Rattle.std.proofs.lemmas.Map.Views.{tells_apart}
use Rattle.policy_values.specs.Uid.{text_cmp}
use Rattle.policy_values.specs.Value.{Val, truth, long, string, entity as id, set, rec, decimal, ip, datetime, duration, Vals, no_vals, val, Fields, no_fields, field}
use Rattle.schema_types.specs.declared.kinds.Primitive.TheVariants.{Bool as BoolType, Long, String}
use Rattle.schema_types.specs.declared.kinds.OpenTag.{OpenTag}
use Rattle.schema_types.specs.declared.kinds.OpenTag.TheVariants.{OpenAttributes, ClosedAttributes}
use Rattle.schema_types.specs.declared.ty.AttributeType.{AttributeType}
use Rattle.schema_types.specs.Names.{has_name}
use Rattle.schema_types.specs.Attrs.{attr_at}
use Rattle.schema_types.specs.Ty.{Ty, true_type, false_type, primitive, any_set, set_of, record_of, any_entity, entity, action, extension, Attrs, no_attrs, attr, is_open}
use Rattle.type_relations.specs.Member.{has_field, type_of, Undeclared, IsDeclared, HasRequired, Member, Members, Typed}
use Rattle.conformance.specs.Misfits.{fits_if, earlier, first_missing, misfit_field, misfit, misfit_all, misfit_fields}
use Rattle.conformance.specs.declared.misfits.Constructor.{Constructor}
use Rattle.conformance.specs.declared.misfits.Misfit.{Misfit}
use Rattle.conformance.specs.Laws.{NothingIsWrongWithMembers}
use Rattle.conformance.proofs.Options.{none_first, none_rest, neither, none_inside}

abbrev pub all_there : Constructor → Bool
all_there c = true

fits : (b : Bool) → fits_if b ≡ None → b ≡ true
fits true h = refl
fits false h = absurd (cc h)

fitting : (b : Bool) → b ≡ true → fits_if b ≡ None
fitting b h = ap fits_if h

not_true : (b : Bool) → fits_if (not b) ≡ None → b ≡ false
not_true true h = absurd (cc h)
not_true false h = refl

same_name : (n m : List ℕ) → fits_if (is_eq (text_cmp n m)) ≡ None → n ≡ m
same_name n m h = tells_apart exact_bytes n m (fits (is_eq (text_cmp n m)) h)

name_same : (n m : List ℕ) → n ≡ m → fits_if (is_eq (text_cmp n m)) ≡ None
name_same n m h = fitting (is_eq (text_cmp n m)) (ap (λ k. is_eq (text_cmp k m)) h ∙ ap is_eq (tied_itself nat_list_cmp_total m))

none_earlier : (a : Option (List ℕ × Misfit)) (b : Option (List ℕ)) → earlier a b ≡ None → (a ≡ None) × (b ≡ None)
none_earlier None None h = (refl, refl)
none_earlier (Some m) None h = absurd (cc h)
none_earlier None (Some k) h = absurd (cc h)
none_earlier (Some m) (Some k) h = absurd (cc h)

earlier_none : (a : Option (List ℕ × Misfit)) (b : Option (List ℕ)) → a ≡ None → b ≡ None → earlier a b ≡ None
earlier_none a b h k = λ i. earlier (h i) (k i)

-- no required attribute is missing exactly where each is there
pub all_required : (xs : Attrs) (fs : Fields) → first_missing xs fs ≡ None → HasRequired xs fs
all_required no_attrs fs h = tt
all_required (attr k t q xs) fs h = by q (has_field fs k) (all_required xs fs) h
  where
    by : (q b : Bool) → (first_missing xs fs ≡ None → HasRequired xs fs) → (if q && not b then Some k else first_missing xs fs) ≡ None → IsTrue (not q || b) × HasRequired xs fs
    by false b rest h = (refl, rest h)
    by true true rest h = (refl, rest h)
    by true false rest h = absurd (cc h)

pub required_all : (xs : Attrs) (fs : Fields) → HasRequired xs fs → first_missing xs fs ≡ None
required_all no_attrs fs h = refl
required_all (attr k t q xs) fs h = by q (has_field fs k) h.0 (required_all xs fs h.1)
  where
    by : (q b : Bool) → IsTrue (not q || b) → first_missing xs fs ≡ None → (if q && not b then Some k else first_missing xs fs) ≡ None
    by false b h rest = rest
    by true true h rest = rest
    by true false h rest = absurd (cc h)

open_field : (o : OpenTag) → fits_if (is_open o) ≡ None → Undeclared o None
open_field OpenAttributes h = tt
open_field ClosedAttributes h = absurd (cc h)

field_open : (o : OpenTag) → Undeclared o None → fits_if (is_open o) ≡ None
field_open OpenAttributes h = refl
field_open ClosedAttributes h = absurd h

-- a field fits, given what its value does
field_fits : (o : OpenTag) (a : Option AttributeType) (v : Val) → (misfit all_there (type_of a) v ≡ None → Member (type_of a) v) → misfit_field o a (misfit all_there (type_of a) v) ≡ None → Undeclared o a ⊎ (IsDeclared a × Member (type_of a) v)
field_fits o None v f h = inl (open_field o h)
field_fits o (Some a) v f h = inr (tt, f h)

fits_field : (o : OpenTag) (a : Option AttributeType) (v : Val) → (Member (type_of a) v → misfit all_there (type_of a) v ≡ None) → Undeclared o a ⊎ (IsDeclared a × Member (type_of a) v) → misfit_field o a (misfit all_there (type_of a) v) ≡ None
fits_field o None v f (inl h) = field_open o h
fits_field o None v f (inr h) = absurd h.0
fits_field o (Some a) v f (inl h) = absurd h
fits_field o (Some a) v f (inr h) = f h.1

mutual
  pub member_of : (t : Ty) (v : Val) → misfit all_there t v ≡ None → Member t v
  member_of true_type (truth b) h = fits b h
  member_of false_type (truth b) h = not_true b h
  member_of (primitive BoolType) (truth b) h = tt
  member_of (primitive Long) (long n) h = tt
  member_of (primitive String) (string s) h = tt
  member_of any_set (set vs) h = tt
  member_of (set_of t) (set vs) h = members_of t vs h
  member_of (record_of xs o) (rec fs) h = let e = none_earlier (misfit_fields all_there o xs fs) (first_missing xs fs) h in (all_required xs fs e.1, typed_of o xs fs e.0)
  member_of any_entity (id u) h = tt
  member_of (entity ns) (id u) h = fits (has_name ns u.entity_type) h
  member_of (action n xs) (id u) h = same_name u.entity_type n h
  member_of (extension n) (decimal m) h = same_name n (codes "decimal") h
  member_of (extension n) (ip r) h = same_name n (codes "ipaddr") h
  member_of (extension n) (datetime m) h = same_name n (codes "datetime") h
  member_of (extension n) (duration m) h = same_name n (codes "duration") h
  member_of t v h = absurd (cc h)

  members_of : (t : Ty) (vs : Vals) → misfit_all all_there t vs ≡ None → Members t vs
  members_of t no_vals h = tt
  members_of t (val v vs) h = (member_of t v (none_first _ _ h), members_of t vs (none_rest _ _ h))

  typed_of : (o : OpenTag) (xs : Attrs) (fs : Fields) → misfit_fields all_there o xs fs ≡ None → Typed o xs fs
  typed_of o xs no_fields h = tt
  typed_of o xs (field k v fs) h = (field_fits o (attr_at xs k) v (member_of (type_of (attr_at xs k)) v) (none_inside _ _ (none_first _ _ h)), typed_of o xs fs (none_rest _ _ h))

mutual
  pub of_member : (t : Ty) (v : Val) → Member t v → misfit all_there t v ≡ None
  of_member true_type (truth b) h = fitting b h
  of_member false_type (truth b) h = ap (λ c. fits_if (not c)) h
  of_member (primitive BoolType) (truth b) h = refl
  of_member (primitive Long) (long n) h = refl
  of_member (primitive String) (string s) h = refl
  of_member any_set (set vs) h = refl
  of_member (set_of t) (set vs) h = of_members t vs h
  of_member (record_of xs o) (rec fs) h = earlier_none _ _ (of_typed o xs fs h.1) (required_all xs fs h.0)
  of_member any_entity (id u) h = refl
  of_member (entity ns) (id u) h = fitting (has_name ns u.entity_type) h
  of_member (action n xs) (id u) h = name_same u.entity_type n h
  of_member (extension n) (decimal m) h = name_same n (codes "decimal") h
  of_member (extension n) (ip r) h = name_same n (codes "ipaddr") h
  of_member (extension n) (datetime m) h = name_same n (codes "datetime") h
  of_member (extension n) (duration m) h = name_same n (codes "duration") h
  of_member t v h = absurd h

  of_members : (t : Ty) (vs : Vals) → Members t vs → misfit_all all_there t vs ≡ None
  of_members t no_vals h = refl
  of_members t (val v vs) h = neither _ _ (of_member t v h.0) (of_members t vs h.1)

  of_typed : (o : OpenTag) (xs : Attrs) (fs : Fields) → Typed o xs fs → misfit_fields all_there o xs fs ≡ None
  of_typed o xs no_fields h = refl
  of_typed o xs (field k v fs) h = neither _ _ (ap (option_map (λ m. (k, m))) (fits_field o (attr_at xs k) v (of_member (type_of (attr_at xs k)) v) h.0)) (of_typed o xs fs h.1)

pub nothing_wrong : NothingIsWrongWithMembers
nothing_wrong t v = (member_of t v, of_member t v)
