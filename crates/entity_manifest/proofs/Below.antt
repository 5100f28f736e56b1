-- Types below others: along what is declared of the one, values are of types below those that are declared of the other.
-- The plan. Nothing is read below a value of a plain type, so any two of these are below each other; records and actions
-- are compared attribute by attribute, required or not, and entity types have the same names. That is reflexive and goes
-- along (`below_self`, `below_trans`); joins and the types of attributes are above what they are made of (`join_above`,
-- `attr_below`).
use Rattle.std.proofs.Common.{◌≡◌, ℕ, Bool, true, false, ◌&&◌, List, Some, IsTrue, Result, Ok, Err, cond, refl, sym, ◌∙◌, subst, IfOk, IfSome}
use Rattle.policy_values.specs.Ties.{equal_of}
use Rattle.policy_values.specs.Uid.{text_cmp}
use Rattle.std.specs.Ordering.{is_eq}
use Rattle.std.proofs.lemmas.Map.Lookups.{exact_bytes}
use Rattle.schema_types.specs.Attrs.{attr_at}
use Rattle.schema_types.specs.NameLaws.{exact_texts}
use Rattle.schema_types.specs.Names.{texts_cmp}
use Rattle.schema_types.specs.declared.kinds.LubHelp.{LubHelp}
use Rattle.schema_types.specs.declared.kinds.LubHelp.TheVariants.{AttributeQualifier, RecordWidth, EntityType, None as Other}
use Rattle.schema_types.specs.declared.kinds.Primitive.{Primitive}
use Rattle.schema_types.specs.declared.kinds.Primitive.TheVariants.{Bool as BoolType, Long, String}
use Rattle.schema_types.specs.declared.ty.AttributeType.{AttributeType}
use Rattle.schema_types.specs.Ty.{Ty, never, true_type, false_type, primitive, any_set, set_of, record_of, any_entity, entity, action, extension, Attrs, no_attrs, attr}
use Rattle.type_relations.specs.declared.mode.SubtypeMode.TheVariants.{Strict}
use Rattle.type_relations.specs.Join.{result_map, text_eq, texts_eq, bool_eq, either_open, same_keys, join_primitive, join_first, join, join_attrs}
use Rattle.plain_lemmas.proofs.Booleans.{and_parts_of}

-- neither of ids nor of records
abbrev pub is_plain : Ty → Bool
is_plain never = false
is_plain (record_of xs o) = false
is_plain any_entity = false
is_plain (entity ns) = false
is_plain (action n xs) = false
is_plain t = true

abbrev mutual
  pub Below : Ty → Ty → Type 0
  Below never u = Unit {0}
  Below (record_of xs o) (record_of ys p) = AttrsBelow xs ys
  Below any_entity any_entity = Unit {0}
  Below (entity ms) (entity ns) = ms ≡ ns
  Below (action m xs) (action n ys) = AttrsBelow xs ys
  Below t u = IsTrue (is_plain t && is_plain u)

  pub AttrsBelow : Attrs → Attrs → Type 0
  AttrsBelow no_attrs no_attrs = Unit {0}
  AttrsBelow (attr k t q xs) (attr l u r ys) = (k ≡ l) × Below t u × AttrsBelow xs ys
  AttrsBelow xs ys = ⊥

mutual
  pub below_self : (t : Ty) → Below t t
  below_self never = tt
  below_self true_type = refl
  below_self false_type = refl
  below_self (primitive p) = refl
  below_self any_set = refl
  below_self (set_of t) = refl
  below_self (record_of xs o) = attrs_self xs
  below_self any_entity = tt
  below_self (entity ns) = refl
  below_self (action n xs) = attrs_self xs
  below_self (extension n) = refl

  attrs_self : (xs : Attrs) → AttrsBelow xs xs
  attrs_self no_attrs = tt
  attrs_self (attr k t q xs) = (refl, below_self t, attrs_self xs)

-- of plain types
pub plain_below : (t u : Ty) → is_plain t ≡ true → is_plain u ≡ true → Below t u
plain_below never u h k = tt
plain_below (record_of xs o) u h k = absurd (cc)
plain_below any_entity u h k = absurd (cc)
plain_below (entity ns) u h k = absurd (cc)
plain_below (action n xs) u h k = absurd (cc)
plain_below true_type u h k = k
plain_below false_type u h k = k
plain_below (primitive p) u h k = k
plain_below any_set u h k = k
plain_below (set_of t) u h k = k
plain_below (extension n) u h k = k

pub below_plain : (t u : Ty) → is_plain t ≡ true → Below t u → is_plain u ≡ true
below_plain never u h k = absurd (cc)
below_plain (record_of xs o) u h k = absurd (cc)
below_plain any_entity u h k = absurd (cc)
below_plain (entity ns) u h k = absurd (cc)
below_plain (action n xs) u h k = absurd (cc)
below_plain true_type u h k = k
below_plain false_type u h k = k
below_plain (primitive p) u h k = k
below_plain any_set u h k = k
below_plain (set_of t) u h k = k
below_plain (extension n) u h k = k

mutual
  pub below_trans : (t u v : Ty) → Below t u → Below u v → Below t v
  below_trans never u v h k = tt
  below_trans (record_of xs o) (record_of ys p) (record_of zs q) h k = attrs_trans xs ys zs h k
  below_trans any_entity any_entity any_entity h k = tt
  below_trans (entity ms) (entity ns) (entity ls) h k = h ∙ k
  below_trans (action m xs) (action n ys) (action l zs) h k = attrs_trans xs ys zs h k
  below_trans true_type u v h k = below_plain u v h k
  below_trans false_type u v h k = below_plain u v h k
  below_trans (primitive p) u v h k = below_plain u v h k
  below_trans any_set u v h k = below_plain u v h k
  below_trans (set_of t) u v h k = below_plain u v h k
  below_trans (extension n) u v h k = below_plain u v h k
  below_trans t u v h k = absurd (cc)

  attrs_trans : (xs ys zs : Attrs) → AttrsBelow xs ys → AttrsBelow ys zs → AttrsBelow xs zs
  attrs_trans no_attrs no_attrs zs h k = k
  attrs_trans (attr k t q xs) (attr l u r ys) (attr m v s zs) h i = (h.0 ∙ i.0, below_trans t u v h.1 i.1, attrs_trans xs ys zs h.2 i.2)
  attrs_trans (attr k t q xs) (attr l u r ys) no_attrs h i = absurd i
  attrs_trans no_attrs (attr l u r ys) zs h k = absurd h
  attrs_trans (attr k t q xs) no_attrs zs h i = absurd h

-- and_parts_of are below the type
abbrev Above : Ty → Ty → Ty → Type 0
Above t u w = Below t w × Below u w

abbrev AttrsAbove : Attrs → Attrs → Attrs → Type 0
AttrsAbove xs ys zs = AttrsBelow xs zs × AttrsBelow ys zs

ok_cond : {A E : Type 0} (P : A → Type 0) (b : Bool) (x : Result A E) (e : E) → (b ≡ true → IfOk x P) → IfOk (cond b x (Err e)) P
ok_cond P true x e h = h refl
ok_cond P false x e h = tt

ok_map : {A B E : Type 0} (P : A → Type 0) (Q : B → Type 0) (f : A → B) (x : Result A E) → ((a : A) → P a → Q (f a)) → IfOk x P → IfOk (result_map f x) Q
ok_map P Q f (Ok a) g h = g a h
ok_map P Q f (Err e) g h = tt

any_ok : {A B E : Type 0} (Q : B → Type 0) (f : A → B) (x : Result A E) → ((a : A) → Q (f a)) → IfOk (result_map f x) Q
any_ok Q f (Ok a) g = g a
any_ok Q f (Err e) g = tt

text_same : (k l : List ℕ) → text_eq k l ≡ true → k ≡ l
text_same k l h = exact_bytes k l (equal_of (text_cmp k l) h)

above_primitive : (p q : Primitive) → IfOk (join_primitive p q) (Above (primitive p) (primitive q))
above_primitive BoolType BoolType = (refl, refl)
above_primitive Long Long = (refl, refl)
above_primitive String String = (refl, refl)
above_primitive p q = tt

above_first : (k l : List ℕ) (t u : Ty) (q r : Bool) (xs ys : Attrs) (x : Result Ty LubHelp) (rest : Result Attrs LubHelp) → k ≡ l → IfOk x (Above t u) → IfOk rest (AttrsAbove xs ys) → IfOk (join_first k q r x rest) (AttrsAbove (attr k t q xs) (attr l u r ys))
above_first k l t u q r xs ys (Err h) rest e f g = tt
above_first k l t u q r xs ys (Ok v) rest e f g =
    ok_cond (AttrsAbove (attr k t q xs) (attr l u r ys)) (bool_eq q r) (result_map (attr k v q) rest) AttributeQualifier (λ b.
    ok_map (AttrsAbove xs ys) (AttrsAbove (attr k t q xs) (attr l u r ys)) (attr k v q) rest (λ zs a. ((refl, f.0, a.0), (sym e, f.1, a.1))) g)

-- two types are below their strict join
mutual
  pub join_above : (t u : Ty) → IfOk (join Strict t u) (Above t u)
  join_above never u = (tt, below_self u)
  join_above true_type never = (refl, tt)
  join_above true_type true_type = (refl, refl)
  join_above true_type false_type = (refl, refl)
  join_above true_type (primitive BoolType) = (refl, refl)
  join_above true_type (primitive Long) = tt
  join_above true_type (primitive String) = tt
  join_above false_type never = (refl, tt)
  join_above false_type true_type = (refl, refl)
  join_above false_type false_type = (refl, refl)
  join_above false_type (primitive BoolType) = (refl, refl)
  join_above false_type (primitive Long) = tt
  join_above false_type (primitive String) = tt
  join_above (primitive p) never = (refl, tt)
  join_above (primitive BoolType) true_type = (refl, refl)
  join_above (primitive Long) true_type = tt
  join_above (primitive String) true_type = tt
  join_above (primitive BoolType) false_type = (refl, refl)
  join_above (primitive Long) false_type = tt
  join_above (primitive String) false_type = tt
  join_above (primitive p) (primitive q) = above_primitive p q
  join_above any_set never = (refl, tt)
  join_above any_set any_set = (refl, refl)
  join_above any_set (set_of u) = (refl, refl)
  join_above (set_of t) never = (refl, tt)
  join_above (set_of t) any_set = (refl, refl)
  join_above (set_of t) (set_of u) = any_ok (Above (set_of t) (set_of u)) set_of (join Strict t u) (λ v. (refl, refl))
  join_above (record_of xs o) never = (below_self (record_of xs o), tt)
  join_above (record_of xs o) (record_of ys p) =
      ok_cond (Above (record_of xs o) (record_of ys p)) (same_keys xs ys) (result_map (λ zs. record_of zs (either_open o p)) (join_attrs xs ys)) RecordWidth (λ e.
      ok_map (AttrsAbove xs ys) (Above (record_of xs o) (record_of ys p)) (λ zs. record_of zs (either_open o p)) (join_attrs xs ys) (λ zs h. h) (attrs_above xs ys e))
  join_above any_entity never = (tt, tt)
  join_above any_entity any_entity = (tt, tt)
  join_above (entity ms) never = (refl, tt)
  join_above (entity ms) (entity ns) =
      ok_cond (Above (entity ms) (entity ns)) (texts_eq ms ns) (Ok (entity ms)) EntityType (λ e. (refl, sym (exact_texts ms ns (equal_of (texts_cmp ms ns) e))))
  join_above (action k xs) never = (below_self (action k xs), tt)
  join_above (action k xs) (action n ys) =
      ok_cond (Above (action k xs) (action n ys)) (text_eq k n) (cond (same_keys xs ys) (result_map (action k) (join_attrs xs ys)) (Err RecordWidth)) EntityType (λ _.
      ok_cond (Above (action k xs) (action n ys)) (same_keys xs ys) (result_map (action k) (join_attrs xs ys)) RecordWidth (λ e.
      ok_map (AttrsAbove xs ys) (Above (action k xs) (action n ys)) (action k) (join_attrs xs ys) (λ zs h. h) (attrs_above xs ys e)))
  join_above (extension k) never = (refl, tt)
  join_above (extension k) (extension n) = ok_cond (Above (extension k) (extension n)) (text_eq k n) (Ok (extension k)) Other (λ e. (refl, refl))
  join_above t u = tt

  attrs_above : (xs ys : Attrs) → same_keys xs ys ≡ true → IfOk (join_attrs xs ys) (AttrsAbove xs ys)
  attrs_above no_attrs no_attrs e = (tt, tt)
  attrs_above (attr k t q xs) (attr l u r ys) e =
      let s = and_parts_of (text_eq k l) (same_keys xs ys) e in
      above_first k l t u q r xs ys (join Strict t u) (join_attrs xs ys) (text_same k l s.0) (join_above t u) (attrs_above xs ys s.1)
  attrs_above no_attrs (attr l u r ys) e = cc
  attrs_above (attr k t q xs) no_attrs e = cc

-- the attribute that is declared of a type is above that of each type below it
pub attr_below : (xs ys : Attrs) (n : List ℕ) (b : AttributeType) → AttrsBelow xs ys → attr_at ys n ≡ Some b → IfSome (attr_at xs n) (λ a. Below a.attr_type b.attr_type)
attr_below no_attrs no_attrs n b h e = tt
attr_below no_attrs (attr l u r ys) n b h e = absurd h
attr_below (attr k t q xs) no_attrs n b h e = absurd h
attr_below (attr k t q xs) (attr l u r ys) n b h e = rw (h.0) (at_key (is_eq (text_cmp n l)) e (attr_below xs ys n b h.2))
  where
    at_key : (c : Bool) → cond c (Some (record { attr_type = u; is_required = r })) (attr_at ys n) ≡ Some b → (attr_at ys n ≡ Some b → IfSome (attr_at xs n) (λ a. Below a.attr_type b.attr_type)) →
        IfSome (cond c (Some (record { attr_type = t; is_required = q })) (attr_at xs n)) (λ a. Below a.attr_type b.attr_type)
    at_key true f rest = let same : u ≡ b.attr_type = cc in subst (Below t) same h.1
    at_key false f rest = rest f
