-- Subtyping is reflexive and transitive.
use Rattle.std.proofs.Common.{◌⊎◌, inl, inr, ℕ, List, Bool, true, false, ◌∙◌, sym, refl, arith}
use Rattle.schema_types.specs.declared.kinds.OpenTag.{OpenTag}
use Rattle.schema_types.specs.declared.kinds.OpenTag.TheVariants.{OpenAttributes, ClosedAttributes}
use Rattle.type_relations.specs.declared.mode.SubtypeMode.{SubtypeMode}
use Rattle.type_relations.specs.declared.mode.SubtypeMode.TheVariants.{Strict, Permissive}
use Rattle.schema_types.specs.Ty.{Ty, never, true_type, false_type, primitive, any_set, set_of, record_of, any_entity, entity, action, extension, Attrs, no_attrs, attr}
use Rattle.type_relations.specs.Subtype.{IsPermissive, SubOpen, IsOpen, SubRequired, SubEntity, Subtype, SubAttrs, Covers}

open_refl : (o : OpenTag) → SubOpen o o
open_refl OpenAttributes = tt
open_refl ClosedAttributes = tt

open_trans : (o p q : OpenTag) → SubOpen o p → SubOpen p q → SubOpen o q
open_trans ClosedAttributes p q h k = tt
open_trans OpenAttributes OpenAttributes OpenAttributes h k = tt
open_trans OpenAttributes OpenAttributes ClosedAttributes h k = absurd k
open_trans OpenAttributes ClosedAttributes q h k = absurd h

stays_open : (p q : OpenTag) → IsOpen p → SubOpen p q → IsOpen q
stays_open OpenAttributes OpenAttributes h k = tt
stays_open OpenAttributes ClosedAttributes h k = absurd k
stays_open ClosedAttributes q h k = absurd h

required_refl : (m : SubtypeMode) (q : Bool) → SubRequired m q q
required_refl Strict q = refl
required_refl Permissive true = tt
required_refl Permissive false = tt

required_trans : (m : SubtypeMode) (q r s : Bool) → SubRequired m q r → SubRequired m r s → SubRequired m q s
required_trans Strict q r s h k = h ∙ k
required_trans Permissive true r s h k = tt
required_trans Permissive false r false h k = tt
required_trans Permissive false false true h k = absurd k
required_trans Permissive false true true h k = absurd h

entity_refl : (m : SubtypeMode) (ns : List (List ℕ)) → SubEntity m ns ns
entity_refl Strict ns = refl
entity_refl Permissive ns = λ n h. h

entity_trans : (m : SubtypeMode) (ks ms ns : List (List ℕ)) → SubEntity m ks ms → SubEntity m ms ns → SubEntity m ks ns
entity_trans Strict ks ms ns h k = h ∙ k
entity_trans Permissive ks ms ns h k = λ n e. k n (h n e)

mutual
  pub subtype_refl : (m : SubtypeMode) (t : Ty) → Subtype m t t
  subtype_refl m never = tt
  subtype_refl m true_type = tt
  subtype_refl m false_type = tt
  subtype_refl m (primitive p) = refl
  subtype_refl m any_set = tt
  subtype_refl m (set_of t) = subtype_refl m t
  subtype_refl m (record_of xs o) = (open_refl o, inr (attrs_refl m xs))
  subtype_refl m any_entity = tt
  subtype_refl m (entity ns) = entity_refl m ns
  subtype_refl m (action n xs) = (refl, refl)
  subtype_refl m (extension n) = refl

  pub attrs_refl : (m : SubtypeMode) (xs : Attrs) → SubAttrs m xs xs
  attrs_refl m no_attrs = tt
  attrs_refl m (attr k t q xs) = (refl, subtype_refl m t, required_refl m q, attrs_refl m xs)

-- what the rest of a record covers the record covers
pub covers_more : (m : SubtypeMode) (k : List ℕ) (t : Ty) (q : Bool) (xs ys : Attrs) → Covers m xs ys → Covers m (attr k t q xs) ys
covers_more m k t q xs no_attrs h = tt
covers_more m k t q xs (attr l u r ys) h = inr h

pub covers_rest : (m : SubtypeMode) (xs : Attrs) (l : List ℕ) (u : Ty) (r : Bool) (ys : Attrs) → Covers m xs (attr l u r ys) → Covers m xs ys
covers_rest m no_attrs l u r ys h = absurd h
covers_rest m (attr k t q xs) l u r ys (inl h) = covers_more m k t q xs ys h.3
covers_rest m (attr k t q xs) l u r ys (inr h) = covers_more m k t q xs ys (covers_rest m xs l u r ys h)

pub covers_of_attrs : (m : SubtypeMode) (xs ys : Attrs) → SubAttrs m xs ys → Covers m xs ys
covers_of_attrs m no_attrs no_attrs h = tt
covers_of_attrs m (attr k t q xs) (attr l u r ys) h = inl (h.0, h.1, h.2, covers_of_attrs m xs ys h.3)
covers_of_attrs m no_attrs (attr l u r ys) h = absurd h
covers_of_attrs m (attr k t q xs) no_attrs h = absurd h

record_trans : (m : SubtypeMode) (xs ys zs : Attrs) (p q : OpenTag) → SubOpen p q → (SubAttrs m xs ys → SubAttrs m ys zs → SubAttrs m xs zs) → (Covers m xs ys → Covers m ys zs → Covers m xs zs) → (IsPermissive m × IsOpen p × Covers m xs ys) ⊎ SubAttrs m xs ys → (IsPermissive m × IsOpen q × Covers m ys zs) ⊎ SubAttrs m ys zs → (IsPermissive m × IsOpen q × Covers m xs zs) ⊎ SubAttrs m xs zs
record_trans m xs ys zs p q o f g (inl h) (inl k) = inl (h.0, k.1, g h.2 k.2)
record_trans m xs ys zs p q o f g (inl h) (inr k) = inl (h.0, stays_open p q h.1 o, g h.2 (covers_of_attrs m ys zs k))
record_trans m xs ys zs p q o f g (inr h) (inl k) = inl (k.0, k.1, g (covers_of_attrs m xs ys h) k.2)
record_trans m xs ys zs p q o f g (inr h) (inr k) = inr (f h k)

mutual
  pub subtype_trans : (m : SubtypeMode) (t u v : Ty) → Subtype m t u → Subtype m u v → Subtype m t v
  subtype_trans m never u v h k = tt
  subtype_trans m true_type true_type v h k = k
  subtype_trans m true_type (primitive p) (primitive q) h k = sym k ∙ h
  subtype_trans m false_type false_type v h k = k
  subtype_trans m false_type (primitive p) (primitive q) h k = sym k ∙ h
  subtype_trans m (primitive p) (primitive q) (primitive r) h k = h ∙ k
  subtype_trans m any_set any_set any_set h k = tt
  subtype_trans m (set_of t) any_set any_set h k = tt
  subtype_trans m (set_of t) (set_of u) any_set h k = tt
  subtype_trans m (set_of t) (set_of u) (set_of v) h k = subtype_trans m t u v h k
  subtype_trans m (record_of xs o) (record_of ys p) (record_of zs q) h k =
      (open_trans o p q h.0 k.0, record_trans m xs ys zs p q k.0 (attrs_trans m xs ys zs) (covers_trans m xs ys zs) h.1 k.1)
  subtype_trans m any_entity any_entity any_entity h k = tt
  subtype_trans m (entity a) any_entity any_entity h k = h
  subtype_trans m (entity a) (entity b) any_entity h k = k
  subtype_trans m (entity a) (entity b) (entity c) h k = entity_trans m a b c h k
  subtype_trans m (action a xs) any_entity any_entity h k = h
  subtype_trans m (action a xs) (action b ys) any_entity h k = k
  subtype_trans m (action a xs) (action b ys) (action c zs) h k = (h.0 ∙ k.0, h.1 ∙ k.1)
  subtype_trans m (extension a) (extension b) (extension c) h k = h ∙ k
  subtype_trans m t u v h k = grind arith

  attrs_trans : (m : SubtypeMode) (xs ys zs : Attrs) → SubAttrs m xs ys → SubAttrs m ys zs → SubAttrs m xs zs
  attrs_trans m no_attrs no_attrs no_attrs h k = tt
  attrs_trans m (attr a t q xs) (attr b u r ys) (attr c v s zs) h k =
      (h.0 ∙ k.0, subtype_trans m t u v h.1 k.1, required_trans m q r s h.2 k.2, attrs_trans m xs ys zs h.3 k.3)
  attrs_trans m xs ys zs h k = grind arith

  covers_trans : (m : SubtypeMode) (xs ys zs : Attrs) → Covers m xs ys → Covers m ys zs → Covers m xs zs
  covers_trans m xs ys no_attrs h k = tt
  covers_trans m xs no_attrs (attr c v s zs) h k = absurd k
  covers_trans m no_attrs (attr b u r ys) (attr c v s zs) h k = absurd h
  covers_trans m (attr a t q xs) (attr b u r ys) (attr c v s zs) (inl h) (inl k) =
      inl (h.0 ∙ k.0, subtype_trans m t u v h.1 k.1, required_trans m q r s h.2 k.2, covers_trans m xs ys zs h.3 k.3)
  covers_trans m (attr a t q xs) (attr b u r ys) (attr c v s zs) (inl h) (inr k) = inr (covers_trans m xs ys (attr c v s zs) h.3 k)
  covers_trans m (attr a t q xs) (attr b u r ys) (attr c v s zs) (inr h) k = inr (covers_trans m xs (attr b u r ys) (attr c v s zs) h k)
