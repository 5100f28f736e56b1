-- Where one type is strictly below the other, their strict join is the greater.
use Rattle.std.proofs.Common.{◌≡◌, ℕ, List, Bool, true, false, ◌&&◌, cond, Ok, Err, ap, ◌∙◌, sym, refl, subst, inl, inr}
use Rattle.schema_types.specs.declared.kinds.Primitive.{Primitive}
use Rattle.schema_types.specs.declared.kinds.Primitive.TheVariants.{Bool as BoolType, Long, String}
use Rattle.schema_types.specs.declared.kinds.OpenTag.{OpenTag}
use Rattle.schema_types.specs.declared.kinds.OpenTag.TheVariants.{OpenAttributes, ClosedAttributes}
use Rattle.type_relations.specs.declared.mode.SubtypeMode.TheVariants.{Strict}
use Rattle.schema_types.specs.declared.kinds.LubHelp.TheVariants.{AttributeQualifier, RecordWidth, EntityType, None as Other}
use Rattle.schema_types.specs.Names.{texts_cmp}
use Rattle.schema_types.specs.Ty.{Ty, never, true_type, false_type, primitive, any_set, set_of, record_of, any_entity, entity, action, extension, Attrs, no_attrs, attr}
use Rattle.schema_types.specs.NameLaws.{texts_cmp_total}
use Rattle.type_relations.specs.Subtype.{SubOpen, Subtype, SubAttrs}
use Rattle.type_relations.specs.Join.{result_map, text_eq, texts_eq, bool_eq, either_open, same_keys, join_bool, join_primitive, join_first, join, join_attrs}
use Rattle.type_relations.proofs.SubtypeLaws.{attrs_refl}
use Rattle.type_relations.proofs.UnionLaws.{own_reverse, own_text}

abbrev IsGreater : Ty → Ty → Type 0
IsGreater t u = (join Strict t u ≡ Ok u) × (join Strict u t ≡ Ok u)

abbrev AreGreater : Attrs → Attrs → Type 0
AreGreater xs ys = (same_keys xs ys ≡ true) × (same_keys ys xs ≡ true) × (join_attrs xs ys ≡ Ok ys) × (join_attrs ys xs ≡ Ok ys)

own_texts : (ks : List (List ℕ)) → texts_eq ks ks ≡ true
own_texts ks = own_reverse (texts_cmp ks ks) (texts_cmp_total.antisymm ks ks)

own_bool : (q : Bool) → bool_eq q q ≡ true
own_bool true = refl
own_bool false = refl

open_left : (o p : OpenTag) → SubOpen o p → either_open o p ≡ p
open_left ClosedAttributes ClosedAttributes h = refl
open_left ClosedAttributes OpenAttributes h = refl
open_left OpenAttributes OpenAttributes h = refl
open_left OpenAttributes ClosedAttributes h = absurd h

open_right : (o p : OpenTag) → SubOpen o p → either_open p o ≡ p
open_right ClosedAttributes ClosedAttributes h = refl
open_right ClosedAttributes OpenAttributes h = refl
open_right OpenAttributes OpenAttributes h = refl
open_right OpenAttributes ClosedAttributes h = absurd h

own_primitive : (p : Primitive) → join_primitive p p ≡ Ok (primitive p)
own_primitive BoolType = refl
own_primitive Long = refl
own_primitive String = refl

-- a test that holds
chosen : {A : Type 0} (b : Bool) (x y z : A) → b ≡ true → x ≡ z → cond b x y ≡ z
chosen b x y z h e = (λ i. cond (h i) x y) ∙ e

first_greater : (k l : List ℕ) (t u : Ty) (q r : Bool) (xs ys : Attrs) → k ≡ l → q ≡ r → IsGreater t u → AreGreater xs ys → AreGreater (attr k t q xs) (attr l u r ys)
first_greater k l t u q r xs ys e b h g = (
  (λ i. text_eq k (sym e i) && g.0 i) ∙ (λ i. own_text k i && true),
  (λ i. text_eq l (e i) && g.1 i) ∙ (λ i. own_text l i && true),
  (λ i. join_first (e i) (b i) r (h.0 i) (g.2 i)) ∙ (λ i. cond (own_bool r i) (Ok (attr l u r ys)) (Err AttributeQualifier)),
  (λ i. join_first l r (b i) (h.1 i) (g.3 i)) ∙ (λ i. cond (own_bool r i) (Ok (attr l u r ys)) (Err AttributeQualifier)),
)

record_greater : (xs ys : Attrs) (o p : OpenTag) → SubOpen o p → AreGreater xs ys → IsGreater (record_of xs o) (record_of ys p)
record_greater xs ys o p s g = (
  chosen (same_keys xs ys) (result_map (λ zs. record_of zs (either_open o p)) (join_attrs xs ys)) (Err RecordWidth) (Ok (record_of ys p)) g.0 (λ i. result_map (λ zs. record_of zs (open_left o p s i)) (g.2 i)),
  chosen (same_keys ys xs) (result_map (λ zs. record_of zs (either_open p o)) (join_attrs ys xs)) (Err RecordWidth) (Ok (record_of ys p)) g.1 (λ i. result_map (λ zs. record_of zs (open_right o p s i)) (g.3 i)),
)

action_greater : (m n : List ℕ) (xs ys : Attrs) → m ≡ n → AreGreater xs ys → IsGreater (action m xs) (action n ys)
action_greater m n xs ys e g = (
  chosen (text_eq m n) (cond (same_keys xs ys) (result_map (action m) (join_attrs xs ys)) (Err RecordWidth)) (Err EntityType) (Ok (action n ys)) ((λ i. text_eq m (sym e i)) ∙ own_text m)
      (chosen (same_keys xs ys) (result_map (action m) (join_attrs xs ys)) (Err RecordWidth) (Ok (action n ys)) g.0 (λ i. result_map (action (e i)) (g.2 i))),
  chosen (text_eq n m) (cond (same_keys ys xs) (result_map (action n) (join_attrs ys xs)) (Err RecordWidth)) (Err EntityType) (Ok (action n ys)) ((λ i. text_eq n (e i)) ∙ own_text n)
      (chosen (same_keys ys xs) (result_map (action n) (join_attrs ys xs)) (Err RecordWidth) (Ok (action n ys)) g.1 (λ i. result_map (action n) (g.3 i))),
)

bool_greater : (p : Primitive) → p ≡ BoolType → join_bool p ≡ Ok (primitive p)
bool_greater p e = (λ i. join_bool (e i)) ∙ (λ i. Ok (primitive (sym e i)))

right_never : (u : Ty) → join Strict u never ≡ Ok u
right_never never = refl
right_never true_type = refl
right_never false_type = refl
right_never (primitive p) = refl
right_never any_set = refl
right_never (set_of t) = refl
right_never (record_of xs o) = refl
right_never any_entity = refl
right_never (entity ns) = refl
right_never (action n xs) = refl
right_never (extension n) = refl

mutual
  pub join_greater : (t u : Ty) → Subtype Strict t u → IsGreater t u
  join_greater never u h = (refl, right_never u)
  join_greater true_type true_type h = (refl, refl)
  join_greater true_type (primitive p) h = (bool_greater p h, bool_greater p h)
  join_greater false_type false_type h = (refl, refl)
  join_greater false_type (primitive p) h = (bool_greater p h, bool_greater p h)
  join_greater (primitive p) (primitive q) h = ((λ i. join_primitive (h i) q) ∙ own_primitive q, (λ i. join_primitive q (h i)) ∙ own_primitive q)
  join_greater any_set any_set h = (refl, refl)
  join_greater (set_of t) any_set h = (refl, refl)
  join_greater (set_of t) (set_of u) h = let g = join_greater t u h in (ap (result_map set_of) g.0, ap (result_map set_of) g.1)
  join_greater (record_of xs o) (record_of ys p) (s, inl h) = absurd h.0
  join_greater (record_of xs o) (record_of ys p) (s, inr h) = record_greater xs ys o p s (attrs_greater xs ys h)
  join_greater any_entity any_entity h = (refl, refl)
  join_greater (entity ms) any_entity h = absurd h
  join_greater (entity ms) (entity ns) h = (
    chosen (texts_eq ms ns) (Ok (entity ms)) (Err EntityType) (Ok (entity ns)) ((λ i. texts_eq ms (sym h i)) ∙ own_texts ms) (λ i. Ok (entity (h i))),
    chosen (texts_eq ns ms) (Ok (entity ns)) (Err EntityType) (Ok (entity ns)) ((λ i. texts_eq ns (h i)) ∙ own_texts ns) refl,
  )
  join_greater (action m xs) any_entity h = absurd h
  join_greater (action m xs) (action n ys) h = action_greater m n xs ys h.0 (attrs_greater xs ys (subst (λ zs. SubAttrs Strict xs zs) h.1 (attrs_refl Strict xs)))
  join_greater (extension m) (extension n) h = (
    chosen (text_eq m n) (Ok (extension m)) (Err Other) (Ok (extension n)) ((λ i. text_eq m (sym h i)) ∙ own_text m) (λ i. Ok (extension (h i))),
    chosen (text_eq n m) (Ok (extension n)) (Err Other) (Ok (extension n)) ((λ i. text_eq n (h i)) ∙ own_text n) refl,
  )
  join_greater t u h = absurd h

  attrs_greater : (xs ys : Attrs) → SubAttrs Strict xs ys → AreGreater xs ys
  attrs_greater no_attrs no_attrs h = (refl, refl, refl, refl)
  attrs_greater (attr k t q xs) (attr l u r ys) h = first_greater k l t u q r xs ys h.0 h.2 (join_greater t u h.1) (attrs_greater xs ys h.3)
  attrs_greater no_attrs (attr l u r ys) h = absurd h
  attrs_greater (attr k t q xs) no_attrs h = absurd h
