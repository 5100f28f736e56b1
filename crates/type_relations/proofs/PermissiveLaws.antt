-- Where one type is below the other, their permissive join is the greater.
use Rattle.std.proofs.Common.{◌≡◌, ℕ, List, [], ◌∷◌, Ordering, Bool, true, false, ◌&&◌, ◌||◌, cond, Ok, Err, Result, ap, ◌∙◌, sym, refl, subst, inl, inr}
use Rattle.std.specs.declared.cmp.Ordering.TheVariants.{Less, Equal, Greater}
use Rattle.std.specs.Ordering.{is_eq, match_ordering, ordering_reverse}
use Rattle.std.specs.BTreeSet.{insert_key}
use Rattle.std.specs.List.{AllByRecursion}
use Rattle.std.specs.List.Sorted.{IsStrictlySortedBy}
use Rattle.std.proofs.lemmas.Cmp.{nat_list_cmp_total}
use Rattle.std.proofs.lemmas.Map.Lookups.{exact_bytes}
use Rattle.policy_values.specs.Uid.{text_cmp}
use Rattle.policy_values.proofs.SameSorted.{same_sorted}
use Rattle.schema_types.specs.declared.kinds.Primitive.{Primitive}
use Rattle.schema_types.specs.declared.kinds.Primitive.TheVariants.{Bool as BoolType, Long, String}
use Rattle.schema_types.specs.declared.kinds.OpenTag.{OpenTag}
use Rattle.schema_types.specs.declared.kinds.OpenTag.TheVariants.{OpenAttributes, ClosedAttributes}
use Rattle.schema_types.specs.declared.kinds.LubHelp.{LubHelp}
use Rattle.schema_types.specs.declared.kinds.LubHelp.TheVariants.{RecordWidth, None as Other}
use Rattle.schema_types.specs.Names.{has_name, AreAmong, union}
use Rattle.schema_types.specs.Ty.{Ty, never, true_type, false_type, primitive, any_set, set_of, record_of, any_entity, entity, action, extension, Attrs, no_attrs, attr}
use Rattle.type_relations.specs.declared.mode.SubtypeMode.TheVariants.{Strict, Permissive}
use Rattle.type_relations.specs.Subtype.{SubOpen, IsOpen, SubRequired, Subtype, SubAttrs, Covers}
use Rattle.type_relations.specs.Join.{result_map, text_eq, either_open, same_keys, wide_open, join_bool, join_primitive, join_apart, keep, join, join_attrs, shared}
use Rattle.type_relations.specs.Laws.{IsBefore, Ascends, AscendIn}
use Rattle.type_relations.proofs.SubtypeLaws.{attrs_refl}
use Rattle.type_relations.proofs.GreaterLaws.{join_greater}
use Rattle.type_relations.proofs.UnionLaws.{own_text, union_left, union_right}
use Rattle.plain_lemmas.proofs.Booleans.{equal_by_both_ways, or_right_true}

abbrev IsGreater : Ty → Ty → Type 0
IsGreater t u = (join Permissive t u ≡ Ok u) × (join Permissive u t ≡ Ok u)

-- ---- unions

after_all : (n m : List ℕ) (ms : List (List ℕ)) → text_cmp n m ≡ Less → AllByRecursion (λ y. text_cmp m y ≡ Less) ms → AllByRecursion (λ y. text_cmp n y ≡ Less) ms
after_all n m [] e h = tt
after_all n m (x ∷ xs) e h = (nat_list_cmp_total.trans n m x e h.0, after_all n m xs e h.1)

turned : (o : Ordering) → ordering_reverse o ≡ Greater → o ≡ Less
turned Less h = refl
turned Equal h = cc
turned Greater h = cc

all_inserted_turn : (P : List ℕ → Type 0) (n x : List ℕ) (xs ys : List (List ℕ)) (o : Ordering) → P n → P x → AllByRecursion P xs → AllByRecursion P ys → AllByRecursion P (match_ordering o (n ∷ x ∷ xs) (x ∷ xs) (x ∷ ys))
all_inserted_turn P n x xs ys Less p q h k = (p, (q, h))
all_inserted_turn P n x xs ys Equal p q h k = (q, h)
all_inserted_turn P n x xs ys Greater p q h k = (q, k)

all_inserted : (P : List ℕ → Type 0) (n : List ℕ) (ms : List (List ℕ)) → P n → AllByRecursion P ms → AllByRecursion P (insert_key text_cmp ms n)
all_inserted P n [] p h = (p, tt)
all_inserted P n (m ∷ ms) p h = all_inserted_turn P n m ms (insert_key text_cmp ms n) (text_cmp n m) p h.0 h.1 (all_inserted P n ms p h.1)

sorted_turn : (n m : List ℕ) (ms : List (List ℕ)) (o : Ordering) → text_cmp n m ≡ o → IsStrictlySortedBy text_cmp (m ∷ ms) → IsStrictlySortedBy text_cmp (insert_key text_cmp ms n) → IsStrictlySortedBy text_cmp (match_ordering o (n ∷ m ∷ ms) (m ∷ ms) (m ∷ insert_key text_cmp ms n))
unfolding IsStrictlySortedBy
sorted_turn n m ms Less e h k = ((e, after_all n m ms e h.0), h)
sorted_turn n m ms Equal e h k = h
sorted_turn n m ms Greater e h k = (all_inserted (λ y. text_cmp m y ≡ Less) n ms (turned (text_cmp m n) (sym (nat_list_cmp_total.antisymm n m) ∙ e)) h.0, k)

inserted_sorted : (n : List ℕ) (ms : List (List ℕ)) → IsStrictlySortedBy text_cmp ms → IsStrictlySortedBy text_cmp (insert_key text_cmp ms n)
unfolding IsStrictlySortedBy
inserted_sorted n [] h = (tt, tt)
inserted_sorted n (m ∷ ms) h = sorted_turn n m ms (text_cmp n m) refl h (inserted_sorted n ms h.1)

union_sorted : (ms ns : List (List ℕ)) → IsStrictlySortedBy text_cmp ms → IsStrictlySortedBy text_cmp (union ms ns)
union_sorted ms [] h = h
union_sorted ms (n ∷ ns) h = union_sorted (insert_key text_cmp ms n) ns (inserted_sorted n ms h)

either : (a b c : Bool) → (a ≡ true → c ≡ true) → (b ≡ true → c ≡ true) → (a || b) ≡ true → c ≡ true
either true b c f g h = f refl
either false b c f g h = g h

inserted_within_turn : (q n x : List ℕ) (xs ys : List (List ℕ)) (goal : Bool) (o : Ordering) → (is_eq (text_cmp q n) ≡ true → goal ≡ true) → (has_name (x ∷ xs) q ≡ true → goal ≡ true) → (has_name ys q ≡ true → goal ≡ true) → has_name (match_ordering o (n ∷ x ∷ xs) (x ∷ xs) (x ∷ ys)) q ≡ true → goal ≡ true
inserted_within_turn q n x xs ys goal Less f g h k = either (is_eq (text_cmp q n)) (has_name (x ∷ xs) q) goal f g k
inserted_within_turn q n x xs ys goal Equal f g h k = g k
inserted_within_turn q n x xs ys goal Greater f g h k = either (is_eq (text_cmp q x)) (has_name ys q) goal (λ e. g (ap (λ b. b || has_name xs q) e)) h k

inserted_within : (n q : List ℕ) (ms : List (List ℕ)) (goal : Bool) → (is_eq (text_cmp q n) ≡ true → goal ≡ true) → (has_name ms q ≡ true → goal ≡ true) → has_name (insert_key text_cmp ms n) q ≡ true → goal ≡ true
inserted_within n q [] goal f g h = either (is_eq (text_cmp q n)) false goal f (λ e. cc) h
inserted_within n q (m ∷ ms) goal f g h = inserted_within_turn q n m ms (insert_key text_cmp ms n) goal (text_cmp n m) f g (inserted_within n q ms goal f (λ e. g (or_right_true (is_eq (text_cmp q m)) (has_name ms q) e))) h

-- what is in a union is in all that both sides are in
union_within : (ms ns gs : List (List ℕ)) → AreAmong ms gs → AreAmong ns gs → AreAmong (union ms ns) gs
union_within ms [] gs f g = f
union_within ms (n ∷ ns) gs f g = union_within (insert_key text_cmp ms n) ns gs
    (λ q. inserted_within n q ms (has_name gs q) (λ e. g q (ap (λ b. b || has_name ns q) e)) (f q))
    (λ q e. g q (or_right_true (is_eq (text_cmp q n)) (has_name ns q) e))

same_union : (ms ns : List (List ℕ)) → IsStrictlySortedBy text_cmp (union ms ns) → IsStrictlySortedBy text_cmp ns → AreAmong (union ms ns) ns → AreAmong ns (union ms ns) → union ms ns ≡ ns
same_union ms ns h k f g = same_sorted text_cmp nat_list_cmp_total exact_bytes (union ms ns) ns h k (λ q. equal_by_both_ways (has_name (union ms ns) q) (has_name ns q) (f q) (g q))

entities_greater : (ms ns : List (List ℕ)) → IsStrictlySortedBy text_cmp ms → IsStrictlySortedBy text_cmp ns → AreAmong ms ns → (union ms ns ≡ ns) × (union ns ms ≡ ns)
entities_greater ms ns h k f = (
  same_union ms ns (union_sorted ms ns h) k (union_within ms ns ns f (λ q e. e)) (union_right ms ns),
  same_sorted text_cmp nat_list_cmp_total exact_bytes (union ns ms) ns (union_sorted ns ms k) k (λ q. equal_by_both_ways (has_name (union ns ms) q) (has_name ns q) (union_within ns ms ns (λ r e. e) f q) (union_left ns ms q)),
)

-- ---- records

-- a key that is covered stands behind what all stand behind
behind : (k l : List ℕ) (u : Ty) (r : Bool) (xs ys : Attrs) → IsBefore k xs → Covers Permissive xs (attr l u r ys) → text_cmp k l ≡ Less
behind k l u r no_attrs ys b h = absurd h
behind k l u r (attr j t q xs) ys b (inl h) = (λ i. text_cmp k (sym h.0 i)) ∙ b.0
behind k l u r (attr j t q xs) ys b (inr h) = behind k l u r xs ys b.1 h

covers_same : (xs ys : Attrs) → SubAttrs Permissive xs ys → Covers Permissive xs ys
covers_same no_attrs no_attrs h = tt
covers_same (attr k t q xs) (attr l u r ys) h = inl (h.0, h.1, h.2, covers_same xs ys h.3)
covers_same no_attrs (attr l u r ys) h = absurd h
covers_same (attr k t q xs) no_attrs h = absurd h

required : (q r : Bool) → SubRequired Permissive q r → (q && r) ≡ r
required true r h = refl
required false true h = absurd h
required false false h = refl

required_too : (q r : Bool) → SubRequired Permissive q r → (r && q) ≡ r
required_too true true h = refl
required_too true false h = refl
required_too false true h = absurd h
required_too false false h = refl

-- two keys that are one
met : {A : Type 0} (k l : List ℕ) (x y z : A) → k ≡ l → match_ordering (text_cmp k l) x y z ≡ y
met k l x y z e = (λ i. match_ordering (text_cmp (e i) l) x y z) ∙ by (text_cmp l l) (own_text l)
  where
    by : (o : Ordering) → is_eq o ≡ true → match_ordering o x y z ≡ y
    by Equal h = refl
    by Less h = cc
    by Greater h = cc

same_keys_of : (xs ys : Attrs) → SubAttrs Permissive xs ys → (same_keys ys xs ≡ true) × (same_keys ys ys ≡ true)
same_keys_of no_attrs no_attrs h = (refl, refl)
same_keys_of (attr k t q xs) (attr l u r ys) h = let s = same_keys_of xs ys h.3 in
    ((λ i. text_eq l (h.0 i) && s.0 i) ∙ (λ i. own_text l i && true), (λ i. text_eq l l && s.1 i) ∙ (λ i. own_text l i && true))
same_keys_of no_attrs (attr l u r ys) h = absurd h
same_keys_of (attr k t q xs) no_attrs h = absurd h

opens : (o p : OpenTag) (b : Bool) → IsOpen p → (cond b (either_open o p) OpenAttributes ≡ p) × (cond b (either_open p o) OpenAttributes ≡ p)
opens ClosedAttributes OpenAttributes true h = (refl, refl)
opens OpenAttributes OpenAttributes true h = (refl, refl)
opens o OpenAttributes false h = (refl, refl)
opens o ClosedAttributes b h = absurd h

closes : (o p : OpenTag) (b : Bool) → SubOpen o p → b ≡ true → (cond b (either_open o p) OpenAttributes ≡ p) × (cond b (either_open p o) OpenAttributes ≡ p)
closes ClosedAttributes ClosedAttributes b s h = ((λ i. cond (h i) ClosedAttributes OpenAttributes), (λ i. cond (h i) ClosedAttributes OpenAttributes))
closes OpenAttributes ClosedAttributes b s h = absurd s
closes o OpenAttributes b s h = opens o OpenAttributes b tt

-- where both lists of common attributes are the right's, and the mark of the right is kept
record_greater : (xs ys : Attrs) (o p : OpenTag) → (shared xs ys ≡ ys) × (shared ys xs ≡ ys) → (wide_open o p xs ys ys ≡ p) × (wide_open p o ys xs ys ≡ p) → IsGreater (record_of xs o) (record_of ys p)
record_greater xs ys o p s w = (
  (λ i. Ok (record_of (s.0 i) (wide_open o p xs ys (s.0 i)))) ∙ (λ i. Ok (record_of ys (w.0 i))),
  (λ i. Ok (record_of (s.1 i) (wide_open p o ys xs (s.1 i)))) ∙ (λ i. Ok (record_of ys (w.1 i))),
)

wide : (xs ys : Attrs) (o p : OpenTag) → SubOpen o p → SubAttrs Permissive xs ys → (wide_open o p xs ys ys ≡ p) × (wide_open p o ys xs ys ≡ p)
wide xs ys o p s h = let k = same_keys_of xs ys h in
    ((closes o p (same_keys ys xs && same_keys ys ys) s (λ i. k.0 i && k.1 i)).0, (closes o p (same_keys ys ys && same_keys ys xs) s (λ i. k.1 i && k.0 i)).1)

wide_opened : (xs ys : Attrs) (o p : OpenTag) → IsOpen p → (wide_open o p xs ys ys ≡ p) × (wide_open p o ys xs ys ≡ p)
wide_opened xs ys o p h = ((opens o p (same_keys ys xs && same_keys ys ys) h).0, (opens o p (same_keys ys ys && same_keys ys xs) h).1)

-- ---- actions

own_actions : (k : List ℕ) (xs : Attrs) → join Permissive (action k xs) (action k xs) ≡ Ok (action k xs)
own_actions k xs = (λ i. cond (own_text k i) (cond (same_keys xs xs) (result_map (action k) (join_attrs xs xs)) (Err RecordWidth)) (join_apart Permissive))
    ∙ by (same_keys xs xs) (join_attrs xs xs) (join_greater (record_of xs ClosedAttributes) (record_of xs ClosedAttributes) (tt, inr (attrs_refl Strict xs))).0
  where
    by : (b : Bool) (r : Result Attrs LubHelp) → cond b (result_map (λ zs. record_of zs ClosedAttributes) r) (Err RecordWidth) ≡ Ok (record_of xs ClosedAttributes) → cond b (result_map (action k) r) (Err RecordWidth) ≡ Ok (action k xs)
    by true (Ok zs) h = cc
    by true (Err e) h = cc
    by false r h = cc

bool_greater : (p : Primitive) → p ≡ BoolType → join_bool p ≡ Ok (primitive p)
bool_greater p e = (λ i. join_bool (e i)) ∙ (λ i. Ok (primitive (sym e i)))

own_primitive : (p : Primitive) → join_primitive p p ≡ Ok (primitive p)
own_primitive BoolType = refl
own_primitive Long = refl
own_primitive String = refl

right_never : (u : Ty) → join Permissive u never ≡ Ok u
right_never never = refl
right_never true_type = refl
right_never false_type = refl
right_never (primitive p) = refl
right_never any_set = refl
right_never (set_of t) = refl
right_never (record_of xs o) = refl
right_never any_entity = refl
right_never (entity ns) = refl
right_never (action n xs) = refl
right_never (extension n) = refl

own_extension : (k n : List ℕ) → k ≡ n → cond (text_eq k n) (Ok (extension k)) (Err Other) ≡ Ok (extension n)
own_extension k n e = (λ i. cond (text_eq k (sym e i)) (Ok (extension k)) (Err Other)) ∙ (λ i. cond (own_text k i) (Ok (extension k)) (Err Other)) ∙ (λ i. Ok (extension (e i)))

mutual
  pub permissive_greater : (t u : Ty) → Ascends t → Ascends u → Subtype Permissive t u → IsGreater t u
  permissive_greater never u a b h = (refl, right_never u)
  permissive_greater true_type true_type a b h = (refl, refl)
  permissive_greater true_type (primitive p) a b h = (bool_greater p h, bool_greater p h)
  permissive_greater false_type false_type a b h = (refl, refl)
  permissive_greater false_type (primitive p) a b h = (bool_greater p h, bool_greater p h)
  permissive_greater (primitive p) (primitive q) a b h = ((λ i. join_primitive (h i) q) ∙ own_primitive q, (λ i. join_primitive q (h i)) ∙ own_primitive q)
  permissive_greater any_set any_set a b h = (refl, refl)
  permissive_greater (set_of t) any_set a b h = (refl, refl)
  permissive_greater (set_of t) (set_of u) a b h = let g = permissive_greater t u a b h in (ap (result_map set_of) g.0, ap (result_map set_of) g.1)
  permissive_greater (record_of xs o) (record_of ys p) a b (s, inl h) = record_greater xs ys o p (attrs_shared xs ys a b h.2) (wide_opened xs ys o p h.1)
  permissive_greater (record_of xs o) (record_of ys p) a b (s, inr h) = record_greater xs ys o p (attrs_shared xs ys a b (covers_same xs ys h)) (wide xs ys o p s h)
  permissive_greater any_entity any_entity a b h = (refl, refl)
  permissive_greater (entity ms) any_entity a b h = (refl, refl)
  permissive_greater (entity ms) (entity ns) a b h = let u = entities_greater ms ns a b h in (ap (λ x. Ok (entity x)) u.0, ap (λ x. Ok (entity x)) u.1)
  permissive_greater (action m xs) any_entity a b h = (refl, refl)
  permissive_greater (action m xs) (action n ys) a b h = (
    subst (λ x. join Permissive (action m xs) x ≡ Ok x) (λ i. action (h.0 i) (h.1 i)) (own_actions m xs),
    subst (λ x. join Permissive x (action m xs) ≡ Ok x) (λ i. action (h.0 i) (h.1 i)) (own_actions m xs),
  )
  permissive_greater (extension m) (extension n) a b h = (own_extension m n h, own_extension n m (sym h) ∙ (λ i. Ok (extension (h i))))
  permissive_greater t u a b h = absurd h

  attrs_shared : (xs ys : Attrs) → AscendIn xs → AscendIn ys → Covers Permissive xs ys → (shared xs ys ≡ ys) × (shared ys xs ≡ ys)
  attrs_shared no_attrs no_attrs a b h = (refl, refl)
  attrs_shared (attr k t q xs) no_attrs a b h = (refl, refl)
  attrs_shared no_attrs (attr l u r ys) a b h = absurd h
  attrs_shared (attr k t q xs) (attr l u r ys) a b (inl h) = let g = permissive_greater t u a.0 b.0 h.1 in let s = attrs_shared xs ys a.2 b.2 h.3 in (
    met k l (shared xs (attr l u r ys)) (keep k (q && r) (join Permissive t u) (shared xs ys)) (shared (attr k t q xs) ys) h.0
        ∙ (λ i. keep (h.0 i) (required q r h.2 i) (g.0 i) (s.0 i)),
    met l k (shared ys (attr k t q xs)) (keep l (r && q) (join Permissive u t) (shared ys xs)) (shared (attr l u r ys) xs) (sym h.0)
        ∙ (λ i. keep l (required_too q r h.2 i) (g.1 i) (s.1 i)),
  )
  attrs_shared (attr k t q xs) (attr l u r ys) a b (inr h) = let e = behind k l u r xs ys a.1 h in let s = attrs_shared xs (attr l u r ys) a.2 b h in (
    (λ i. match_ordering (e i) (shared xs (attr l u r ys)) (keep k (q && r) (join Permissive t u) (shared xs ys)) (shared (attr k t q xs) ys)) ∙ s.0,
    (λ i. match_ordering ((nat_list_cmp_total.antisymm l k ∙ ap ordering_reverse e) i) (shared ys (attr k t q xs)) (keep l (r && q) (join Permissive u t) (shared ys xs)) (shared (attr l u r ys) xs)) ∙ s.1,
  )
