-- Both types are below their join, in and_parts_of modes.
use Rattle.std.proofs.Common.{◌≡◌, inl, inr, ℕ, ◌≤◌, suc, List, Bool, true, false, ◌&&◌, cond, Ordering, Result, Ok, Err, ap, sym, refl, arith, IfOk}
use Rattle.std.specs.declared.cmp.Ordering.TheVariants.{Less, Equal, Greater}
use Rattle.std.specs.Ordering.{match_ordering}
use Rattle.std.proofs.lemmas.Map.Lookups.{exact_bytes}
use Rattle.policy_values.specs.Uid.{text_cmp}
use Rattle.schema_types.specs.Names.{texts_cmp}
use Rattle.policy_values.specs.Ties.{equal_of}
use Rattle.schema_types.specs.NameLaws.{exact_texts}
use Rattle.schema_types.specs.declared.kinds.Primitive.{Primitive}
use Rattle.schema_types.specs.declared.kinds.Primitive.TheVariants.{Bool as BoolType, Long, String}
use Rattle.schema_types.specs.declared.kinds.OpenTag.{OpenTag}
use Rattle.schema_types.specs.declared.kinds.OpenTag.TheVariants.{OpenAttributes, ClosedAttributes}
use Rattle.schema_types.specs.declared.kinds.LubHelp.{LubHelp}
use Rattle.schema_types.specs.declared.kinds.LubHelp.TheVariants.{AttributeQualifier, RecordWidth, EntityType, None as Other}
use Rattle.schema_types.specs.Ty.{Ty, never, true_type, false_type, primitive, any_set, set_of, record_of, any_entity, entity, action, extension, Attrs, no_attrs, attr}
use Rattle.type_relations.specs.declared.mode.SubtypeMode.{SubtypeMode}
use Rattle.type_relations.specs.declared.mode.SubtypeMode.TheVariants.{Strict, Permissive}
use Rattle.type_relations.specs.Subtype.{IsPermissive, SubOpen, SubRequired, Subtype, SubAttrs, Covers}
use Rattle.type_relations.specs.Join.{result_map, text_eq, texts_eq, bool_eq, either_open, same_keys, wide_open, join_primitive, join_apart, join_entities, join_records, join_first, keep, join, join_attrs, shared}
use Rattle.type_relations.specs.Laws.{NoActions, NoActionsIn}
use Rattle.type_relations.proofs.SubtypeLaws.{subtype_refl, covers_more}
use Rattle.type_relations.proofs.UnionLaws.{union_left, union_right}
use Rattle.plain_lemmas.proofs.Booleans.{and_parts_of}

abbrev IsAbove : SubtypeMode → Ty → Ty → Ty → Type 0
IsAbove m t u v = Subtype m t v × Subtype m u v

abbrev AreAbove : Attrs → Attrs → Attrs → Type 0
AreAbove xs ys zs = SubAttrs Strict xs zs × SubAttrs Strict ys zs

abbrev AreCovered : Attrs → Attrs → Attrs → Type 0
AreCovered xs ys zs = Covers Permissive xs zs × Covers Permissive ys zs

-- `Ok` of a test, of a map
ok_cond : {A E : Type 0} (P : A → Type 0) (b : Bool) (x : Result A E) (e : E) → (b ≡ true → IfOk x P) → IfOk (cond b x (Err e)) P
ok_cond P true x e h = h refl
ok_cond P false x e h = tt

ok_map : {A B E : Type 0} (P : A → Type 0) (Q : B → Type 0) (f : A → B) (x : Result A E) → ((a : A) → P a → Q (f a)) → IfOk x P → IfOk (result_map f x) Q
ok_map P Q f (Ok a) g h = g a h
ok_map P Q f (Err e) g h = tt

same_bool : (q r : Bool) → bool_eq q r ≡ true → q ≡ r
same_bool true true h = refl
same_bool false false h = refl
same_bool true false h = cc
same_bool false true h = cc

left_open : (o p : OpenTag) → SubOpen o (either_open o p)
left_open ClosedAttributes ClosedAttributes = tt
left_open ClosedAttributes OpenAttributes = tt
left_open OpenAttributes p = tt

right_open : (o p : OpenTag) → SubOpen p (either_open o p)
right_open ClosedAttributes ClosedAttributes = tt
right_open ClosedAttributes OpenAttributes = tt
right_open OpenAttributes ClosedAttributes = tt
right_open OpenAttributes OpenAttributes = tt

above_primitive : (m : SubtypeMode) (p q : Primitive) → IfOk (join_primitive p q) (IsAbove m (primitive p) (primitive q))
above_primitive m BoolType BoolType = (refl, refl)
above_primitive m Long Long = (refl, refl)
above_primitive m String String = (refl, refl)
above_primitive m p q = tt

same_text : (k l : List ℕ) → text_eq k l ≡ true → k ≡ l
same_text k l h = exact_bytes k l (equal_of (text_cmp k l) h)

same_texts : (ms ns : List (List ℕ)) → texts_eq ms ns ≡ true → ms ≡ ns
same_texts ms ns h = exact_texts ms ns (equal_of (texts_cmp ms ns) h)

above_apart : (m : SubtypeMode) (t u : Ty) → (IsPermissive m → IsAbove m t u any_entity) → IfOk (join_apart m) (IsAbove m t u)
above_apart Strict t u f = tt
above_apart Permissive t u f = f tt

above_entities : (m : SubtypeMode) (ms ns : List (List ℕ)) → IfOk (join_entities m ms ns) (IsAbove m (entity ms) (entity ns))
above_entities Strict ms ns = ok_cond (IsAbove Strict (entity ms) (entity ns)) (texts_eq ms ns) (Ok (entity ms)) EntityType (λ e. (refl, sym (same_texts ms ns e)))
above_entities Permissive ms ns = (union_left ms ns, union_right ms ns)

above_first : (k l : List ℕ) (t u : Ty) (q r : Bool) (xs ys : Attrs) (x : Result Ty LubHelp) (rest : Result Attrs LubHelp) → k ≡ l → IfOk x (IsAbove Strict t u) → IfOk rest (AreAbove xs ys) → IfOk (join_first k q r x rest) (AreAbove (attr k t q xs) (attr l u r ys))
above_first k l t u q r xs ys (Err h) rest e f g = tt
above_first k l t u q r xs ys (Ok v) rest e f g =
    ok_cond (AreAbove (attr k t q xs) (attr l u r ys)) (bool_eq q r) (result_map (attr k v q) rest) AttributeQualifier (λ b.
    ok_map (AreAbove xs ys) (AreAbove (attr k t q xs) (attr l u r ys)) (attr k v q) rest (λ zs a.
    ((refl, f.0, refl, a.0), (sym e, f.1, sym (same_bool q r b), a.1))) g)

required_left : (q r : Bool) → SubRequired Permissive q (q && r)
required_left true true = tt
required_left true false = tt
required_left false r = tt

required_right : (q r : Bool) → SubRequired Permissive r (q && r)
required_right true true = tt
required_right true false = tt
required_right false true = tt
required_right false false = tt

-- one key of and_parts_of
keep_covered : (k l : List ℕ) (t u : Ty) (q r : Bool) (xs ys zs : Attrs) (v : Result Ty LubHelp) → k ≡ l → IfOk v (IsAbove Permissive t u) → AreCovered xs ys zs → AreCovered (attr k t q xs) (attr l u r ys) (keep k (q && r) v zs)
keep_covered k l t u q r xs ys zs (Err h) e f g = (covers_more Permissive k t q xs zs g.0, covers_more Permissive l u r ys zs g.1)
keep_covered k l t u q r xs ys zs (Ok v) e f g = (inl (refl, f.0, required_left q r, g.0), inl (sym e, f.1, required_right q r, g.1))

by_order : (k l : List ℕ) (t u : Ty) (q r : Bool) (xs ys fs gs hs : Attrs) (o : Ordering) → text_cmp k l ≡ o → AreCovered xs (attr l u r ys) fs → (k ≡ l → AreCovered (attr k t q xs) (attr l u r ys) gs) → AreCovered (attr k t q xs) ys hs → AreCovered (attr k t q xs) (attr l u r ys) (match_ordering o fs gs hs)
by_order k l t u q r xs ys fs gs hs Less e f g h = (covers_more Permissive k t q xs fs f.0, f.1)
by_order k l t u q r xs ys fs gs hs Equal e f g h = g (exact_bytes k l e)
by_order k l t u q r xs ys fs gs hs Greater e f g h = (h.0, covers_more Permissive l u r ys hs h.1)

-- what covers attributes of the same keys is below them
abbrev count : Attrs → ℕ
count no_attrs = 0
count (attr k t q xs) = suc (count xs)

covers_count : (xs zs : Attrs) → Covers Permissive xs zs → count zs ≤ count xs
covers_count xs no_attrs h = omega arith
covers_count no_attrs (attr l u r zs) h = absurd h
covers_count (attr k t q xs) (attr l u r zs) (inl h) = omega (arith, covers_count xs zs h.3)
covers_count (attr k t q xs) (attr l u r zs) (inr h) = omega (arith, covers_count xs (attr l u r zs) h)

same_count : (zs xs : Attrs) → same_keys zs xs ≡ true → count zs ≡ count xs
same_count no_attrs no_attrs h = refl
same_count (attr k t q xs) (attr l u r ys) h = ap suc (same_count xs ys (and_parts_of (text_eq k l) (same_keys xs ys) h).1)
same_count no_attrs (attr l u r ys) h = cc
same_count (attr k t q xs) no_attrs h = cc

covers_same : (xs zs : Attrs) → Covers Permissive xs zs → same_keys zs xs ≡ true → SubAttrs Permissive xs zs
covers_same no_attrs no_attrs h e = tt
covers_same no_attrs (attr l u r zs) h e = cc
covers_same (attr k t q xs) no_attrs h e = cc
covers_same (attr k t q xs) (attr l u r zs) (inl h) e = (h.0, h.1, h.2, covers_same xs zs h.3 (and_parts_of (text_eq l k) (same_keys zs xs) e).1)
covers_same (attr k t q xs) (attr l u r zs) (inr h) e = absurd (omega (arith, covers_count xs (attr l u r zs) h, same_count zs xs (and_parts_of (text_eq l k) (same_keys zs xs) e).1))

any_open : (o : OpenTag) → SubOpen o OpenAttributes
any_open OpenAttributes = tt
any_open ClosedAttributes = tt

tag_above : (xs ys zs : Attrs) (o p : OpenTag) (b : Bool) → (b ≡ true → SubAttrs Permissive xs zs × SubAttrs Permissive ys zs) → AreCovered xs ys zs → IsAbove Permissive (record_of xs o) (record_of ys p) (record_of zs (cond b (either_open o p) OpenAttributes))
tag_above xs ys zs o p true f g = ((left_open o p, inr (f refl).0), (right_open o p, inr (f refl).1))
tag_above xs ys zs o p false f g = ((any_open o, inl (tt, tt, g.0)), (any_open p, inl (tt, tt, g.1)))

record_above : (xs ys zs : Attrs) (o p : OpenTag) → AreCovered xs ys zs → IsAbove Permissive (record_of xs o) (record_of ys p) (record_of zs (wide_open o p xs ys zs))
record_above xs ys zs o p g = tag_above xs ys zs o p (same_keys zs xs && same_keys zs ys) (λ e. let s = and_parts_of (same_keys zs xs) (same_keys zs ys) e in (covers_same xs zs g.0 s.0, covers_same ys zs g.1 s.1)) g

records_above : (m : SubtypeMode) (xs ys : Attrs) (o p : OpenTag) → (same_keys xs ys ≡ true → IfOk (join_attrs xs ys) (AreAbove xs ys)) → AreCovered xs ys (shared xs ys) → IfOk (join_records m xs ys o p (join_attrs xs ys) (shared xs ys)) (IsAbove m (record_of xs o) (record_of ys p))
records_above Strict xs ys o p f g =
    ok_cond (IsAbove Strict (record_of xs o) (record_of ys p)) (same_keys xs ys) (result_map (λ zs. record_of zs (either_open o p)) (join_attrs xs ys)) RecordWidth (λ e.
    ok_map (AreAbove xs ys) (IsAbove Strict (record_of xs o) (record_of ys p)) (λ zs. record_of zs (either_open o p)) (join_attrs xs ys) (λ zs h.
    ((left_open o p, inr h.0), (right_open o p, inr h.1))) (f e))
records_above Permissive xs ys o p f g = record_above xs ys (shared xs ys) o p g

mutual
  pub join_above : (m : SubtypeMode) (t u : Ty) → NoActions t → NoActions u → IfOk (join m t u) (IsAbove m t u)
  join_above m never u a b = (tt, subtype_refl m u)
  join_above m true_type never a b = (tt, tt)
  join_above m true_type true_type a b = (tt, tt)
  join_above m true_type false_type a b = (refl, refl)
  join_above m true_type (primitive BoolType) a b = (refl, refl)
  join_above m true_type (primitive Long) a b = tt
  join_above m true_type (primitive String) a b = tt
  join_above m false_type never a b = (tt, tt)
  join_above m false_type true_type a b = (refl, refl)
  join_above m false_type false_type a b = (tt, tt)
  join_above m false_type (primitive BoolType) a b = (refl, refl)
  join_above m false_type (primitive Long) a b = tt
  join_above m false_type (primitive String) a b = tt
  join_above m (primitive p) never a b = (refl, tt)
  join_above m (primitive BoolType) true_type a b = (refl, refl)
  join_above m (primitive Long) true_type a b = tt
  join_above m (primitive String) true_type a b = tt
  join_above m (primitive BoolType) false_type a b = (refl, refl)
  join_above m (primitive Long) false_type a b = tt
  join_above m (primitive String) false_type a b = tt
  join_above m (primitive p) (primitive q) a b = above_primitive m p q
  join_above m any_set never a b = (tt, tt)
  join_above m any_set any_set a b = (tt, tt)
  join_above m any_set (set_of u) a b = (tt, tt)
  join_above m (set_of t) never a b = (subtype_refl m t, tt)
  join_above m (set_of t) any_set a b = (tt, tt)
  join_above m (set_of t) (set_of u) a b = ok_map (IsAbove m t u) (IsAbove m (set_of t) (set_of u)) set_of (join m t u) (λ v h. h) (join_above m t u a b)
  join_above m (record_of xs o) never a b = (subtype_refl m (record_of xs o), tt)
  join_above m (record_of xs o) (record_of ys p) a b = records_above m xs ys o p (attrs_above xs ys a b) (shared_above xs ys a b)
  join_above m any_entity never a b = (tt, tt)
  join_above m any_entity any_entity a b = (tt, tt)
  join_above m any_entity (entity ns) a b = above_apart m any_entity (entity ns) (λ h. (tt, h))
  join_above m any_entity (action n ys) a b = absurd b
  join_above m (entity ms) never a b = (subtype_refl m (entity ms), tt)
  join_above m (entity ms) any_entity a b = above_apart m (entity ms) any_entity (λ h. (h, tt))
  join_above m (entity ms) (entity ns) a b = above_entities m ms ns
  join_above m (entity ms) (action n ys) a b = absurd b
  join_above m (action k xs) u a b = absurd a
  join_above m (extension k) never a b = (refl, tt)
  join_above m (extension k) (extension n) a b = ok_cond (IsAbove m (extension k) (extension n)) (text_eq k n) (Ok (extension k)) Other (λ e. (refl, sym (same_text k n e)))
  join_above m t u a b = tt

  attrs_above : (xs ys : Attrs) → NoActionsIn xs → NoActionsIn ys → same_keys xs ys ≡ true → IfOk (join_attrs xs ys) (AreAbove xs ys)
  attrs_above no_attrs no_attrs a b e = (tt, tt)
  attrs_above (attr k t q xs) (attr l u r ys) a b e =
      let s = and_parts_of (text_eq k l) (same_keys xs ys) e in
      above_first k l t u q r xs ys (join Strict t u) (join_attrs xs ys) (same_text k l s.0) (join_above Strict t u a.0 b.0) (attrs_above xs ys a.1 b.1 s.1)
  attrs_above no_attrs (attr l u r ys) a b e = cc
  attrs_above (attr k t q xs) no_attrs a b e = cc

  shared_above : (xs ys : Attrs) → NoActionsIn xs → NoActionsIn ys → AreCovered xs ys (shared xs ys)
  shared_above no_attrs ys a b = (tt, tt)
  shared_above (attr k t q xs) no_attrs a b = (tt, tt)
  shared_above (attr k t q xs) (attr l u r ys) a b =
      by_order k l t u q r xs ys (shared xs (attr l u r ys)) (keep k (q && r) (join Permissive t u) (shared xs ys)) (shared (attr k t q xs) ys) (text_cmp k l) refl
      (shared_above xs (attr l u r ys) a.1 b)
      (λ e. keep_covered k l t u q r xs ys (shared xs ys) (join Permissive t u) e (join_above Permissive t u a.0 b.0) (shared_above xs ys a.1 b.1))
      (shared_above (attr k t q xs) ys a b.1)
