-- The types that expressions have.
use Rattle.std.proofs.Common.{◌≡◌, inr, ℕ, Bool, true, false, List, [], ◌∷◌, is_some, IsTrue, Result, Ok, Err, cond, refl, sym, subst, IfOk, IfSome}
use Rattle.std.specs.Prelude.{option_map}
use Rattle.std.specs.Result.{result_ok}
use Rattle.std.proofs.lemmas.Map.Lookups.{exact_bytes}
use Rattle.policy_values.specs.Basename.{is_action_type}
use Rattle.policy_values.specs.Uid.{text_cmp}
use Rattle.schema_types.specs.Names.{only_name, texts_cmp}
use Rattle.policy_values.specs.Ties.{equal_of}
use Rattle.schema_types.specs.NameLaws.{exact_texts}
use Rattle.schema_types.specs.declared.kinds.Primitive.{Primitive}
use Rattle.schema_types.specs.declared.kinds.Primitive.TheVariants.{Bool as BoolType, Long, String}
use Rattle.schema_types.specs.declared.kinds.OpenTag.{OpenTag}
use Rattle.schema_types.specs.declared.kinds.OpenTag.TheVariants.{OpenAttributes, ClosedAttributes}
use Rattle.schema_types.specs.declared.kinds.LubHelp.{LubHelp}
use Rattle.schema_types.specs.declared.kinds.LubHelp.TheVariants.{AttributeQualifier, RecordWidth, EntityType, None as Other}
use Rattle.schema_types.specs.Ty.{Ty, never, true_type, false_type, primitive, any_set, set_of, record_of, any_entity, entity, action, extension, Attrs, no_attrs, attr}
use Rattle.type_relations.specs.declared.mode.SubtypeMode.TheVariants.{Strict}
use Rattle.type_relations.specs.Subtype.{SubOpen, Subtype, SubAttrs}
use Rattle.type_relations.specs.Join.{result_map, text_eq, texts_eq, bool_eq, either_open, same_keys, join_primitive, join_first, join, join_attrs, join_rest}
use Rattle.type_relations.proofs.SubtypeLaws.{subtype_refl, subtype_trans}
use Rattle.type_relations.proofs.MemberLaws.{member_sub}
use Rattle.typing_spec.specs.Rules.{strict_join, set_type}
use Rattle.typing_spec.proofs.Booleans.{IsAbove}
use Rattle.plain_lemmas.proofs.Booleans.{and_parts_of}

-- values; of entities one type, of actions a type of actions and no attributes
abbrev mutual
  pub IsKept : Ty → Type 0
  IsKept never = ⊥
  IsKept (set_of t) = IsKept t
  IsKept (record_of xs o) = AreKept xs
  IsKept (entity ns) = IsTrue (is_some (only_name ns))
  IsKept (action n xs) = IsTrue (is_action_type n) × (xs ≡ no_attrs)
  IsKept t = Unit {0}

  pub AreKept : Attrs → Type 0
  AreKept no_attrs = Unit {0}
  AreKept (attr k t q xs) = IsKept t × AreKept xs

-- and_parts_of are below the type
abbrev Above : Ty → Ty → Ty → Type 0
Above t u w = Subtype Strict t w × Subtype Strict u w × IsKept w

abbrev AttrsAbove : Attrs → Attrs → Attrs → Type 0
AttrsAbove xs ys zs = SubAttrs Strict xs zs × SubAttrs Strict ys zs × AreKept zs

ok_cond : {A E : Type 0} (P : A → Type 0) (b : Bool) (x : Result A E) (e : E) → (b ≡ true → IfOk x P) → IfOk (cond b x (Err e)) P
ok_cond P true x e h = h refl
ok_cond P false x e h = tt

ok_map : {A B E : Type 0} (P : A → Type 0) (Q : B → Type 0) (f : A → B) (x : Result A E) → ((a : A) → P a → Q (f a)) → IfOk x P → IfOk (result_map f x) Q
ok_map P Q f (Ok a) g h = g a h
ok_map P Q f (Err e) g h = tt

same_bool : (q r : Bool) → bool_eq q r ≡ true → q ≡ r
same_bool true true h = refl
same_bool false false h = refl
same_bool true false h = cc
same_bool false true h = cc

left_open : (o p : OpenTag) → SubOpen o (either_open o p)
left_open ClosedAttributes ClosedAttributes = tt
left_open ClosedAttributes OpenAttributes = tt
left_open OpenAttributes p = tt

right_open : (o p : OpenTag) → SubOpen p (either_open o p)
right_open ClosedAttributes ClosedAttributes = tt
right_open ClosedAttributes OpenAttributes = tt
right_open OpenAttributes ClosedAttributes = tt
right_open OpenAttributes OpenAttributes = tt

pub same_text : (k l : List ℕ) → text_eq k l ≡ true → k ≡ l
same_text k l h = exact_bytes k l (equal_of (text_cmp k l) h)

above_primitive : (p q : Primitive) → IfOk (join_primitive p q) (Above (primitive p) (primitive q))
above_primitive BoolType BoolType = (refl, refl, tt)
above_primitive Long Long = (refl, refl, tt)
above_primitive String String = (refl, refl, tt)
above_primitive p q = tt

above_first : (k l : List ℕ) (t u : Ty) (q r : Bool) (xs ys : Attrs) (x : Result Ty LubHelp) (rest : Result Attrs LubHelp) → k ≡ l → IfOk x (Above t u) → IfOk rest (AttrsAbove xs ys) → IfOk (join_first k q r x rest) (AttrsAbove (attr k t q xs) (attr l u r ys))
above_first k l t u q r xs ys (Err h) rest e f g = tt
above_first k l t u q r xs ys (Ok v) rest e f g =
    ok_cond (AttrsAbove (attr k t q xs) (attr l u r ys)) (bool_eq q r) (result_map (attr k v q) rest) AttributeQualifier (λ b.
    ok_map (AttrsAbove xs ys) (AttrsAbove (attr k t q xs) (attr l u r ys)) (attr k v q) rest (λ zs a.
    ((refl, f.0, refl, a.0), (sym e, f.1, sym (same_bool q r b), a.1), (f.2, a.2))) g)

actions_above : (k n : List ℕ) → IsTrue (is_action_type k) → IfOk (join Strict (action k no_attrs) (action n no_attrs)) (Above (action k no_attrs) (action n no_attrs))
actions_above k n i =
    ok_cond (Above (action k no_attrs) (action n no_attrs)) (text_eq k n) (Ok (action k no_attrs)) EntityType (λ e.
    ((refl, refl), (sym (same_text k n e), refl), (i, refl)))

mutual
  pub strict_above : (t u : Ty) → IsKept t → IsKept u → IfOk (join Strict t u) (Above t u)
  strict_above never u a b = absurd a
  strict_above true_type true_type a b = (tt, tt, tt)
  strict_above true_type false_type a b = (refl, refl, tt)
  strict_above true_type (primitive BoolType) a b = (refl, refl, tt)
  strict_above true_type (primitive Long) a b = tt
  strict_above true_type (primitive String) a b = tt
  strict_above false_type true_type a b = (refl, refl, tt)
  strict_above false_type false_type a b = (tt, tt, tt)
  strict_above false_type (primitive BoolType) a b = (refl, refl, tt)
  strict_above false_type (primitive Long) a b = tt
  strict_above false_type (primitive String) a b = tt
  strict_above (primitive BoolType) true_type a b = (refl, refl, tt)
  strict_above (primitive Long) true_type a b = tt
  strict_above (primitive String) true_type a b = tt
  strict_above (primitive BoolType) false_type a b = (refl, refl, tt)
  strict_above (primitive Long) false_type a b = tt
  strict_above (primitive String) false_type a b = tt
  strict_above (primitive p) (primitive q) a b = above_primitive p q
  strict_above any_set any_set a b = (tt, tt, tt)
  strict_above any_set (set_of u) a b = (tt, tt, tt)
  strict_above (set_of t) any_set a b = (tt, tt, tt)
  strict_above (set_of t) (set_of u) a b = ok_map (Above t u) (Above (set_of t) (set_of u)) set_of (join Strict t u) (λ v h. h) (strict_above t u a b)
  strict_above (record_of xs o) (record_of ys p) a b =
      ok_cond (Above (record_of xs o) (record_of ys p)) (same_keys xs ys) (result_map (λ zs. record_of zs (either_open o p)) (join_attrs xs ys)) RecordWidth (λ e.
      ok_map (AttrsAbove xs ys) (Above (record_of xs o) (record_of ys p)) (λ zs. record_of zs (either_open o p)) (join_attrs xs ys) (λ zs h.
      ((left_open o p, inr h.0), (right_open o p, inr h.1), h.2)) (attrs_above xs ys a b e))
  strict_above any_entity any_entity a b = (tt, tt, tt)
  strict_above (entity ms) (entity ns) a b =
      ok_cond (Above (entity ms) (entity ns)) (texts_eq ms ns) (Ok (entity ms)) EntityType (λ e. (refl, sym (exact_texts ms ns (equal_of (texts_cmp ms ns) e)), a))
  strict_above (action k xs) (action n ys) a b =
      subst (λ zs. IfOk (join Strict (action k zs) (action n ys)) (Above (action k zs) (action n ys))) (sym a.1)
      (subst (λ zs. IfOk (join Strict (action k no_attrs) (action n zs)) (Above (action k no_attrs) (action n zs))) (sym b.1) (actions_above k n a.0))
  strict_above (extension k) (extension n) a b = ok_cond (Above (extension k) (extension n)) (text_eq k n) (Ok (extension k)) Other (λ e. (refl, sym (same_text k n e), tt))
  strict_above t never a b = absurd b
  strict_above t u a b = tt

  attrs_above : (xs ys : Attrs) → AreKept xs → AreKept ys → same_keys xs ys ≡ true → IfOk (join_attrs xs ys) (AttrsAbove xs ys)
  attrs_above no_attrs no_attrs a b e = (tt, tt, tt)
  attrs_above (attr k t q xs) (attr l u r ys) a b e =
      let s = and_parts_of (text_eq k l) (same_keys xs ys) e in
      above_first k l t u q r xs ys (join Strict t u) (join_attrs xs ys) (same_text k l s.0) (strict_above t u a.0 b.0) (attrs_above xs ys a.1 b.1 s.1)
  attrs_above no_attrs (attr l u r ys) a b e = cc
  attrs_above (attr k t q xs) no_attrs a b e = cc

-- what is below True is True
sub_true : (t : Ty) → Subtype Strict t true_type → IsKept t → t ≡ true_type
sub_true true_type h a = refl
sub_true never h a = absurd a
sub_true t h a = absurd h

is_above : (t u w : Ty) → IsKept t → IsKept u → Above t u w → IsAbove t u w
is_above t u w a b h = record {
  left = λ v m. member_sub t w v h.0 m;
  right = λ v m. member_sub u w v h.1 m;
  true_only = λ e. (sub_true t (subst (Subtype Strict t) e h.0) a, sub_true u (subst (Subtype Strict u) e h.1) b);
}

some_ok : {A E : Type 0} (P Q : A → Type 0) (r : Result A E) → IfOk r P → ((a : A) → P a → Q a) → IfSome (result_ok r) Q
some_ok P Q (Ok a) h f = f a h
some_ok P Q (Err e) h f = tt

pub join_members : (t u : Ty) → IsKept t → IsKept u → IfSome (strict_join t u) (IsAbove t u)
join_members t u a b = some_ok (Above t u) (IsAbove t u) (join Strict t u) (strict_above t u a b) (λ w h. is_above t u w a b h)

pub join_kept : (t u : Ty) → IsKept t → IsKept u → IfSome (strict_join t u) IsKept
join_kept t u a b = some_ok (Above t u) IsKept (join Strict t u) (strict_above t u a b) (λ w h. h.2)

-- the join of several types
abbrev pub AllKept : List Ty → Type 0
AllKept [] = Unit {0}
AllKept (t ∷ ts) = IsKept t × AllKept ts

abbrev pub AllBelow : List Ty → Ty → Type 0
AllBelow [] w = Unit {0}
AllBelow (t ∷ ts) w = Subtype Strict t w × AllBelow ts w

abbrev RestAbove : Ty → List Ty → Ty → Type 0
RestAbove t ts w = Subtype Strict t w × AllBelow ts w × IsKept w

widened : (t u v : Ty) (us : List Ty) (r : Result Ty LubHelp) → Above t u v → IfOk r (RestAbove v us) → IfOk r (RestAbove t (u ∷ us))
widened t u v us (Err h) a b = tt
widened t u v us (Ok w) a b = (subtype_trans Strict t v w a.0 b.0, (subtype_trans Strict u v w a.1 b.0, b.1), b.2)

rest_above : (ts : List Ty) (t : Ty) → IsKept t → AllKept ts → IfOk (join_rest Strict (Ok t) ts) (RestAbove t ts)
rest_above [] t a b = (subtype_refl Strict t, tt, a)
rest_above (u ∷ us) t a b = step (join Strict t u) (strict_above t u a b.0) (λ v c. rest_above us v c b.1)
  where
    step : (r : Result Ty LubHelp) → IfOk r (Above t u) → ((v : Ty) → IsKept v → IfOk (join_rest Strict (Ok v) us) (RestAbove v us)) → IfOk (join_rest Strict r us) (RestAbove t (u ∷ us))
    step (Err h) c f = fails us
      where
        fails : (us : List Ty) → IfOk (join_rest Strict (Err h) us) (RestAbove t (u ∷ us))
        fails [] = tt
        fails (v ∷ vs) = tt
    step (Ok v) c f = widened t u v us (join_rest Strict (Ok v) us) c (f v c.2)

-- each of the types is below that of the elements
pub record IsSetOf (ts : List Ty) (w : Ty) : Type 0 where
  pub element : Ty
  pub is : w ≡ set_of element
  pub below : AllBelow ts element
  pub kept : IsKept element

pub set_above : (ts : List Ty) → AllKept ts → IfSome (set_type ts) (IsSetOf ts)
set_above [] a = tt
set_above (t ∷ ts) a = by (join_rest Strict (Ok t) ts) (rest_above ts t a.0 a.1)
  where
    by : (r : Result Ty LubHelp) → IfOk r (RestAbove t ts) → IfSome (option_map set_of (result_ok r)) (IsSetOf (t ∷ ts))
    by (Ok w) h = record { element = w; is = refl; below = (h.0, h.1); kept = h.2 }
    by (Err e) h = tt
