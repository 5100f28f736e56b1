-- Typing depends on capabilities only through what is known by them.
use Rattle.std.proofs.Common.{◌≡◌, ℕ, Bool, true, false, ◌⊎◌, inl, inr, List, [], ◌∷◌, ◌++◌, Option, Some, None, is_some, refl, ap, subst, map}
use Rattle.std.specs.Prelude.{◌↔◌, option_map}
use Rattle.std.specs.Bool.{Decides}
use Rattle.std.specs.Option.{option_and_then}
use Rattle.schema_types.specs.declared.kinds.Primitive.TheVariants.{Bool as BoolType, Long, String}
use Rattle.schema_types.specs.declared.kinds.OpenTag.TheVariants.{ClosedAttributes}
use Rattle.schema_types.specs.Required.{required_attrs}
use Rattle.schema_types.specs.Ty.{Ty, true_type, false_type, primitive, record_of}
use Rattle.schema_core.specs.EnvData.{EnvData}
use Rattle.schema_core.specs.Schema.{SchemaData}
use Rattle.policy_expressions.specs.Functions.{function_of}
use Rattle.policy_expressions.specs.Tree.{lit, var, slot, ite, conj, disj, unary, binary, attr, has, like, is_type, call, set, rec, Trees, no_trees, tree, Named, no_named, named, Mark, named_of}
use Rattle.policy_expressions.specs.Plain.{Plain}
use Rattle.typing_spec.specs.Capability.{Capability, IsKnown, has_cap, common}
use Rattle.typing_spec.specs.CapabilityLaws.{known_decides, known_append, known_common}
use Rattle.typing_spec.specs.Known.{KnowTheSame, AreSame, TypedTheSame, WhatIsKnownDecides}
use Rattle.typing_spec.specs.Rules as rule
use Rattle.typing_spec.specs.Signatures.{call_type}
use Rattle.typing_spec.specs.Typing.{Typed, Typing, typing, at, unreached, attribute_known, tag_known, if_typing, and_caps, and_typing, or_caps, or_typing, binary_caps, has_caps, types_in, trees_in, record_type, named_in, types, types_all, types_named}

itself : (cs : List Capability) → KnowTheSame cs cs
itself cs k = (λ h. h, λ h. h)

-- the test answers the same
one_answer : (a b : Bool) (P Q : Type 0) → Decides a P → Decides b Q → (P ↔ Q) → a ≡ b
one_answer true true P Q d e h = refl
one_answer true false P Q d e h = absurd (cc (e.1 (h.0 (d.0 refl))))
one_answer false true P Q d e h = absurd (cc (d.1 (h.1 (e.0 refl))))
one_answer false false P Q d e h = refl

known_same : (cs ds : List Capability) → KnowTheSame cs ds → (k : Capability) → has_cap cs k ≡ has_cap ds k
known_same cs ds h k = one_answer (has_cap cs k) (has_cap ds k) (IsKnown cs k) (IsKnown ds k) (known_decides cs k) (known_decides ds k) (h k)

either : {A B C D : Type 0} → (A → C) → (B → D) → A ⊎ B → C ⊎ D
either f g (inl a) = inl (f a)
either f g (inr b) = inr (g b)

appended : (cs cs' ds ds' : List Capability) → KnowTheSame cs cs' → KnowTheSame ds ds' → KnowTheSame (cs ++ ds) (cs' ++ ds')
appended cs cs' ds ds' h g k =
    let p = known_append cs ds k in let r = known_append cs' ds' k in
    (λ i. r.1 (either (h k).0 (g k).0 (p.0 i)), λ i. p.1 (either (h k).1 (g k).1 (r.0 i)))

shared : (cs cs' ds ds' : List Capability) → KnowTheSame cs cs' → KnowTheSame ds ds' → KnowTheSame (common cs ds) (common cs' ds')
shared cs cs' ds ds' h g k =
    let p = known_common cs ds k in let r = known_common cs' ds' k in
    (λ i. let e = p.0 i in r.1 ((h k).0 e.0, (g k).0 e.1), λ i. let e = r.0 i in p.1 ((h k).1 e.0, (g k).1 e.1))

-- both are absent, or both are there and related
abbrev Both : {A B : Type 0} → (A → B → Type 0) → Option A → Option B → Type 0
Both R None None = Unit {0}
Both R (Some a) (Some b) = R a b
Both R a b = ⊥

then_both : {A B C D : Type 0} (R : A → B → Type 0) (S : C → D → Type 0) (f : A → Option C) (g : B → Option D) (o : Option A) (p : Option B) →
    Both R o p → ((a : A) (b : B) → R a b → Both S (f a) (g b)) → Both S (option_and_then f o) (option_and_then g p)
then_both R S f g None None h k = tt
then_both R S f g (Some a) (Some b) h k = k a b h
then_both R S f g None (Some b) h k = absurd h
then_both R S f g (Some a) None h k = absurd h

map_both : {A B C D : Type 0} (R : A → B → Type 0) (S : C → D → Type 0) (f : A → C) (g : B → D) (o : Option A) (p : Option B) →
    Both R o p → ((a : A) (b : B) → R a b → S (f a) (g b)) → Both S (option_map f o) (option_map g p)
map_both R S f g None None h k = tt
map_both R S f g (Some a) (Some b) h k = k a b h
map_both R S f g None (Some b) h k = absurd h
map_both R S f g (Some a) None h k = absurd h

known : (o p : Option Typing) → Both AreSame o p → TypedTheSame o p
known None None h = tt
known (Some a) (Some b) h = h
known None (Some b) h = h
known (Some a) None h = h

-- what holds of typings that differ in their capabilities at most, holds of those that are the same
by_same : (P : Typing → Typing → Type 0) → ((t : Ty) (e : Typed) (cs ds : List Capability) → KnowTheSame cs ds → P (typing t cs e) (typing t ds e)) → (a b : Typing) → AreSame a b → P a b
by_same P k a b h = subst (λ t. P a (typing t b.caps b.tree)) h.type (subst (λ e. P a (typing a.type b.caps e)) h.tree (k a.type a.tree a.caps b.caps h.caps))

by_itself : (o : Option Typing) → Both AreSame o o
by_itself None = tt
by_itself (Some a) = record { type = refl; tree = refl; caps = itself a.caps }

-- by one type, with the same typed expression
by_type : (o : Option Ty) (f : Ty → Typed) (cs ds : List Capability) → KnowTheSame cs ds → Both AreSame (option_map (λ t. typing t cs (f t)) o) (option_map (λ t. typing t ds (f t)) o)
by_type None f cs ds h = tt
by_type (Some t) f cs ds h = record { type = refl; tree = refl; caps = h }

-- by two types, the second found under a test that answers the same
by_known : (b c : Bool) → b ≡ c → (rule : Bool → Option Ty) (f : Ty → Typed) (ks : List Capability) → Both AreSame (option_map (λ t. typing t ks (f t)) (rule b)) (option_map (λ t. typing t ks (f t)) (rule c))
by_known b c e rule f ks = subst (λ d. Both AreSame (option_map (λ t. typing t ks (f t)) (rule b)) (option_map (λ t. typing t ks (f t)) (rule d))) e (by_type (rule b) f ks ks (itself ks))

if_same : (t : Ty) (cs ds : List Capability) (e : Typed) (m : Mark (Unit {0})) (a a' b b' : Option Typing) → KnowTheSame cs ds → Both AreSame a a' → Both AreSame b b' →
    Both AreSame (if_typing t cs e m a b) (if_typing t ds e m a' b')
if_same true_type cs ds e m a a' b b' h i j =
    map_both AreSame AreSame (λ y. typing y.type (y.caps ++ cs) (ite e y.tree unreached (at y.type m))) (λ y. typing y.type (y.caps ++ ds) (ite e y.tree unreached (at y.type m))) a a' i
    (by_same (λ y z. AreSame (typing y.type (y.caps ++ cs) (ite e y.tree unreached (at y.type m))) (typing z.type (z.caps ++ ds) (ite e z.tree unreached (at z.type m))))
    (λ t u c d k. record { type = refl; tree = refl; caps = appended c d cs ds k h }))
if_same false_type cs ds e m a a' b b' h i j =
    map_both AreSame AreSame (λ y. typing y.type y.caps (ite e unreached y.tree (at y.type m))) (λ y. typing y.type y.caps (ite e unreached y.tree (at y.type m))) b b' j
    (by_same (λ y z. AreSame (typing y.type y.caps (ite e unreached y.tree (at y.type m))) (typing z.type z.caps (ite e unreached z.tree (at z.type m))))
    (λ t u c d k. record { type = refl; tree = refl; caps = k }))
if_same (primitive BoolType) cs ds e m a a' b b' h i j =
    then_both AreSame AreSame (λ y. option_and_then (λ z. option_map (λ t. typing t (common z.caps (y.caps ++ cs)) (ite e y.tree z.tree (at t m))) (rule.strict_join y.type z.type)) b)
    (λ y. option_and_then (λ z. option_map (λ t. typing t (common z.caps (y.caps ++ ds)) (ite e y.tree z.tree (at t m))) (rule.strict_join y.type z.type)) b') a a' i
    (by_same (λ y y'. Both AreSame (option_and_then (λ z. option_map (λ t. typing t (common z.caps (y.caps ++ cs)) (ite e y.tree z.tree (at t m))) (rule.strict_join y.type z.type)) b)
    (option_and_then (λ z. option_map (λ t. typing t (common z.caps (y'.caps ++ ds)) (ite e y'.tree z.tree (at t m))) (rule.strict_join y'.type z.type)) b'))
    (λ t u c d k.
    then_both AreSame AreSame (λ z. option_map (λ w. typing w (common z.caps (c ++ cs)) (ite e u z.tree (at w m))) (rule.strict_join t z.type)) (λ z. option_map (λ w. typing w (common z.caps (d ++ ds)) (ite e u z.tree (at w m))) (rule.strict_join t z.type)) b b' j
    (by_same (λ z z'. Both AreSame (option_map (λ w. typing w (common z.caps (c ++ cs)) (ite e u z.tree (at w m))) (rule.strict_join t z.type)) (option_map (λ w. typing w (common z'.caps (d ++ ds)) (ite e u z'.tree (at w m))) (rule.strict_join t z'.type)))
    (λ s v c' d' l. by_type (rule.strict_join t s) (λ w. ite e u v (at w m)) (common c' (c ++ cs)) (common d' (d ++ ds)) (shared c' d' (c ++ cs) (d ++ ds) l (appended c d cs ds k h))))))
if_same (primitive Long) cs ds e m a a' b b' h i j = tt
if_same (primitive String) cs ds e m a a' b b' h i j = tt
if_same t cs ds e m a a' b b' h i j = tt

and_known : (t : Ty) (cs ds c d : List Capability) → KnowTheSame cs ds → KnowTheSame c d → KnowTheSame (and_caps t cs c) (and_caps t ds d)
and_known false_type cs ds c d h k = itself []
and_known t cs ds c d h k = appended cs ds c d h k

and_right : (t : Ty) (cs ds : List Capability) (e : Typed) (m : Mark (Unit {0})) (b b' : Option Typing) → KnowTheSame cs ds → Both AreSame b b' →
    Both AreSame (option_and_then (λ y. option_map (λ w. typing w (and_caps y.type cs y.caps) (conj e y.tree (at w m))) (rule.and_type t y.type)) b)
    (option_and_then (λ y. option_map (λ w. typing w (and_caps y.type ds y.caps) (conj e y.tree (at w m))) (rule.and_type t y.type)) b')
and_right t cs ds e m b b' h j =
    then_both AreSame AreSame (λ y. option_map (λ w. typing w (and_caps y.type cs y.caps) (conj e y.tree (at w m))) (rule.and_type t y.type)) (λ y. option_map (λ w. typing w (and_caps y.type ds y.caps) (conj e y.tree (at w m))) (rule.and_type t y.type)) b b' j
    (by_same (λ y y'. Both AreSame (option_map (λ w. typing w (and_caps y.type cs y.caps) (conj e y.tree (at w m))) (rule.and_type t y.type)) (option_map (λ w. typing w (and_caps y'.type ds y'.caps) (conj e y'.tree (at w m))) (rule.and_type t y'.type)))
    (λ u v c d k. by_type (rule.and_type t u) (λ w. conj e v (at w m)) (and_caps u cs c) (and_caps u ds d) (and_known u cs ds c d h k)))

and_same : (t : Ty) (cs ds : List Capability) (e : Typed) (m : Mark (Unit {0})) (b b' : Option Typing) → KnowTheSame cs ds → Both AreSame b b' → Both AreSame (and_typing t cs e m b) (and_typing t ds e m b')
and_same false_type cs ds e m b b' h j = record { type = refl; tree = refl; caps = itself [] }
and_same t cs ds e m b b' h j = and_right t cs ds e m b b' h j

or_known : (t u : Ty) (cs ds c d : List Capability) → KnowTheSame cs ds → KnowTheSame c d → KnowTheSame (or_caps t u cs c) (or_caps t u ds d)
or_known t true_type cs ds c d h k = k
or_known t false_type cs ds c d h k = h
or_known false_type u cs ds c d h k = k
or_known t u cs ds c d h k = shared cs ds c d h k

or_right : (t : Ty) (cs ds : List Capability) (e : Typed) (m : Mark (Unit {0})) (b b' : Option Typing) → KnowTheSame cs ds → Both AreSame b b' →
    Both AreSame (option_and_then (λ y. option_map (λ w. typing w (or_caps t y.type cs y.caps) (disj e y.tree (at w m))) (rule.or_type t y.type)) b)
    (option_and_then (λ y. option_map (λ w. typing w (or_caps t y.type ds y.caps) (disj e y.tree (at w m))) (rule.or_type t y.type)) b')
or_right t cs ds e m b b' h j =
    then_both AreSame AreSame (λ y. option_map (λ w. typing w (or_caps t y.type cs y.caps) (disj e y.tree (at w m))) (rule.or_type t y.type)) (λ y. option_map (λ w. typing w (or_caps t y.type ds y.caps) (disj e y.tree (at w m))) (rule.or_type t y.type)) b b' j
    (by_same (λ y y'. Both AreSame (option_map (λ w. typing w (or_caps t y.type cs y.caps) (disj e y.tree (at w m))) (rule.or_type t y.type)) (option_map (λ w. typing w (or_caps t y'.type ds y'.caps) (disj e y'.tree (at w m))) (rule.or_type t y'.type)))
    (λ u v c d k. by_type (rule.or_type t u) (λ w. disj e v (at w m)) (or_caps t u cs c) (or_caps t u ds d) (or_known t u cs ds c d h k)))

or_same : (t : Ty) (cs ds : List Capability) (e : Typed) (m : Mark (Unit {0})) (b b' : Option Typing) → KnowTheSame cs ds → Both AreSame b b' → Both AreSame (or_typing t cs e m b) (or_typing t ds e m b')
or_same true_type cs ds e m b b' h j = record { type = refl; tree = refl; caps = h }
or_same t cs ds e m b b' h j = or_right t cs ds e m b b' h j

-- an operator of one operand that makes the same known
one_same : (o p : Option Typing) (f g : Ty → Typed → Option Typing) → Both AreSame o p → ((t : Ty) (e : Typed) → Both AreSame (f t e) (g t e)) → Both AreSame (option_and_then (λ a. f a.type a.tree) o) (option_and_then (λ a. g a.type a.tree) p)
one_same o p f g h k = then_both AreSame AreSame (λ a. f a.type a.tree) (λ a. g a.type a.tree) o p h (by_same (λ a b. Both AreSame (f a.type a.tree) (g b.type b.tree)) (λ t e c d l. k t e))

-- of the same types, and of the same expressions
at_one : {A : Type 0} (f : List Ty → A → Option Typing) (ts us : List Ty) (x y : A) → ts ≡ us → x ≡ y → Both AreSame (f ts x) (f us y)
at_one f ts us x y e k = subst (λ w. Both AreSame (f ts x) (f w y)) e (subst (λ w. Both AreSame (f ts x) (f ts w)) k (by_itself (f ts x)))

-- several typings
abbrev AllSame : List Typing → List Typing → Type 0
AllSame [] [] = Unit {0}
AllSame (a ∷ rest) (b ∷ bs) = AreSame a b × AllSame rest bs
AllSame xs ys = ⊥

abbrev NamedSame : List (List ℕ × Typing) → List (List ℕ × Typing) → Type 0
NamedSame [] [] = Unit {0}
NamedSame (a ∷ xs) (b ∷ ys) = (a.0 ≡ b.0) × AreSame a.1 b.1 × NamedSame xs ys
NamedSame xs ys = ⊥

types_one : (xs ys : List Typing) → AllSame xs ys → types_in xs ≡ types_in ys
types_one [] [] h = refl
types_one (a ∷ xs) (b ∷ ys) h = λ i. h.0.type i ∷ types_one xs ys h.1 i
types_one [] (b ∷ ys) h = absurd h
types_one (a ∷ xs) [] h = absurd h

trees_one : (xs ys : List Typing) → AllSame xs ys → trees_in xs ≡ trees_in ys
trees_one [] [] h = refl
trees_one (a ∷ xs) (b ∷ ys) h = λ i. tree (h.0.tree i) (trees_one xs ys h.1 i)
trees_one [] (b ∷ ys) h = absurd h
trees_one (a ∷ xs) [] h = absurd h

-- what a record is made of, by a part of each typing
fields_one : {A : Type 0} (part : Typing → A) → ((a b : Typing) → AreSame a b → part a ≡ part b) → (xs ys : List (List ℕ × Typing)) → NamedSame xs ys → map {B = List ℕ × A} (λ e. (e.0, part e.1)) xs ≡ map {B = List ℕ × A} (λ e. (e.0, part e.1)) ys
fields_one part k [] [] h = refl
fields_one part k (a ∷ xs) (b ∷ ys) h = λ i. (h.0 i, k a.1 b.1 h.1 i) ∷ fields_one part k xs ys h.2 i
fields_one part k [] (b ∷ ys) h = absurd h
fields_one part k (a ∷ xs) [] h = absurd h

module _ (schema : SchemaData) (env : EnvData) where
  mutual
    same : (cs ds : List Capability) → KnowTheSame cs ds → (e : Plain) → Both AreSame (types schema env cs e) (types schema env ds e)
    same cs ds h (lit l m) = by_itself (types schema env cs (lit l m))
    same cs ds h (var v m) = by_itself (types schema env cs (var v m))
    same cs ds h (slot i m) = by_itself (types schema env cs (slot i m))
    same cs ds h (ite x y z m) =
        then_both AreSame AreSame (λ a. if_typing a.type a.caps a.tree m (types schema env (cs ++ a.caps) y) (types schema env cs z)) (λ a. if_typing a.type a.caps a.tree m (types schema env (ds ++ a.caps) y) (types schema env ds z))
        (types schema env cs x) (types schema env ds x) (same cs ds h x)
        (by_same (λ a b. Both AreSame (if_typing a.type a.caps a.tree m (types schema env (cs ++ a.caps) y) (types schema env cs z)) (if_typing b.type b.caps b.tree m (types schema env (ds ++ b.caps) y) (types schema env ds z)))
        (λ t e c d k. if_same t c d e m (types schema env (cs ++ c) y) (types schema env (ds ++ d) y) (types schema env cs z) (types schema env ds z) k (same (cs ++ c) (ds ++ d) (appended cs ds c d h k) y) (same cs ds h z)))
    same cs ds h (conj x y m) =
        then_both AreSame AreSame (λ a. and_typing a.type a.caps a.tree m (types schema env (cs ++ a.caps) y)) (λ a. and_typing a.type a.caps a.tree m (types schema env (ds ++ a.caps) y))
        (types schema env cs x) (types schema env ds x) (same cs ds h x)
        (by_same (λ a b. Both AreSame (and_typing a.type a.caps a.tree m (types schema env (cs ++ a.caps) y)) (and_typing b.type b.caps b.tree m (types schema env (ds ++ b.caps) y)))
        (λ t e c d k. and_same t c d e m (types schema env (cs ++ c) y) (types schema env (ds ++ d) y) k (same (cs ++ c) (ds ++ d) (appended cs ds c d h k) y)))
    same cs ds h (disj x y m) =
        then_both AreSame AreSame (λ a. or_typing a.type a.caps a.tree m (types schema env cs y)) (λ a. or_typing a.type a.caps a.tree m (types schema env ds y))
        (types schema env cs x) (types schema env ds x) (same cs ds h x)
        (by_same (λ a b. Both AreSame (or_typing a.type a.caps a.tree m (types schema env cs y)) (or_typing b.type b.caps b.tree m (types schema env ds y)))
        (λ t e c d k. or_same t c d e m (types schema env cs y) (types schema env ds y) k (same cs ds h y)))
    same cs ds h (unary o x m) = one_same (types schema env cs x) (types schema env ds x) (λ t e. option_map (λ w. typing w [] (unary o e (at w m))) (rule.unary_type o t)) (λ t e. option_map (λ w. typing w [] (unary o e (at w m))) (rule.unary_type o t)) (same cs ds h x)
        (λ t e. by_itself (option_map (λ w. typing w [] (unary o e (at w m))) (rule.unary_type o t)))
    same cs ds h (binary o x y m) =
        one_same (types schema env cs x) (types schema env ds x)
        (λ t e. option_and_then (λ b. option_map (λ w. typing w (binary_caps o x y) (binary o e b.tree (at w m))) (rule.binary_type schema env o (has_cap cs (tag_known x y)) x y t b.type)) (types schema env cs y))
        (λ t e. option_and_then (λ b. option_map (λ w. typing w (binary_caps o x y) (binary o e b.tree (at w m))) (rule.binary_type schema env o (has_cap ds (tag_known x y)) x y t b.type)) (types schema env ds y)) (same cs ds h x)
        (λ t e. one_same (types schema env cs y) (types schema env ds y) (λ u f. option_map (λ w. typing w (binary_caps o x y) (binary o e f (at w m))) (rule.binary_type schema env o (has_cap cs (tag_known x y)) x y t u))
        (λ u f. option_map (λ w. typing w (binary_caps o x y) (binary o e f (at w m))) (rule.binary_type schema env o (has_cap ds (tag_known x y)) x y t u)) (same cs ds h y)
        (λ u f. by_known (has_cap cs (tag_known x y)) (has_cap ds (tag_known x y)) (known_same cs ds h (tag_known x y)) (λ b. rule.binary_type schema env o b x y t u) (λ w. binary o e f (at w m)) (binary_caps o x y)))
    same cs ds h (attr x n m) =
        one_same (types schema env cs x) (types schema env ds x) (λ t e. option_map (λ w. typing w [] (attr e n (at w m))) (rule.attr_type schema (has_cap cs (attribute_known x n)) t n))
        (λ t e. option_map (λ w. typing w [] (attr e n (at w m))) (rule.attr_type schema (has_cap ds (attribute_known x n)) t n)) (same cs ds h x)
        (λ t e. by_known (has_cap cs (attribute_known x n)) (has_cap ds (attribute_known x n)) (known_same cs ds h (attribute_known x n)) (λ b. rule.attr_type schema b t n) (λ w. attr e n (at w m)) [])
    same cs ds h (has x n m) =
        one_same (types schema env cs x) (types schema env ds x) (λ t e. option_map (λ w. typing w (has_caps (is_some (rule.attribute_of schema t n)) x n) (has e n (at w m))) (rule.has_type schema (has_cap cs (attribute_known x n)) t n))
        (λ t e. option_map (λ w. typing w (has_caps (is_some (rule.attribute_of schema t n)) x n) (has e n (at w m))) (rule.has_type schema (has_cap ds (attribute_known x n)) t n)) (same cs ds h x)
        (λ t e. by_known (has_cap cs (attribute_known x n)) (has_cap ds (attribute_known x n)) (known_same cs ds h (attribute_known x n)) (λ b. rule.has_type schema b t n) (λ w. has e n (at w m)) (has_caps (is_some (rule.attribute_of schema t n)) x n))
    same cs ds h (like x p m) = one_same (types schema env cs x) (types schema env ds x) (λ t e. option_map (λ w. typing w [] (like e p (at w m))) (rule.like_type t)) (λ t e. option_map (λ w. typing w [] (like e p (at w m))) (rule.like_type t)) (same cs ds h x)
        (λ t e. by_itself (option_map (λ w. typing w [] (like e p (at w m))) (rule.like_type t)))
    same cs ds h (is_type x n m) = one_same (types schema env cs x) (types schema env ds x) (λ t e. option_map (λ w. typing w [] (is_type e n (at w m))) (rule.is_type t n)) (λ t e. option_map (λ w. typing w [] (is_type e n (at w m))) (rule.is_type t n)) (same cs ds h x)
        (λ t e. by_itself (option_map (λ w. typing w [] (is_type e n (at w m))) (rule.is_type t n)))
    same cs ds h (call f xs m) =
        then_both AllSame AreSame (λ ys. option_map (λ t. typing t [] (call f (trees_in ys) (at t m))) (call_type (function_of f) xs (types_in ys))) (λ ys. option_map (λ t. typing t [] (call f (trees_in ys) (at t m))) (call_type (function_of f) xs (types_in ys)))
        (types_all schema env cs xs) (types_all schema env ds xs) (same_all cs ds h xs)
        (λ ys zs k. at_one (λ ts us. option_map (λ t. typing t [] (call f us (at t m))) (call_type (function_of f) xs ts)) (types_in ys) (types_in zs) (trees_in ys) (trees_in zs) (types_one ys zs k) (trees_one ys zs k))
    same cs ds h (set xs m) =
        then_both AllSame AreSame (λ ys. option_map (λ t. typing t [] (set (trees_in ys) (at t m))) (rule.set_type (types_in ys))) (λ ys. option_map (λ t. typing t [] (set (trees_in ys) (at t m))) (rule.set_type (types_in ys)))
        (types_all schema env cs xs) (types_all schema env ds xs) (same_all cs ds h xs)
        (λ ys zs k. at_one (λ ts us. option_map (λ t. typing t [] (set us (at t m))) (rule.set_type ts)) (types_in ys) (types_in zs) (trees_in ys) (trees_in zs) (types_one ys zs k) (trees_one ys zs k))
    same cs ds h (rec xs m) =
        map_both NamedSame AreSame (λ ys. typing (record_type ys) [] (rec (named_in ys) (at (record_type ys) m))) (λ ys. typing (record_type ys) [] (rec (named_in ys) (at (record_type ys) m)))
        (types_named schema env cs xs) (types_named schema env ds xs) (same_named cs ds h xs)
        (λ ys zs k.
        let t = ap (λ es. record_of (required_attrs es) ClosedAttributes) (fields_one (λ a. a.type) (λ a b e. e.type) ys zs k) in
        let u = ap (λ es. named_of es) (fields_one (λ a. a.tree) (λ a b e. e.tree) ys zs k) in
        record { type = t; tree = λ i. rec (u i) (at (t i) m); caps = itself [] })

    same_all : (cs ds : List Capability) → KnowTheSame cs ds → (xs : Trees (Mark (Unit {0}))) → Both AllSame (types_all schema env cs xs) (types_all schema env ds xs)
    same_all cs ds h no_trees = tt
    same_all cs ds h (tree x xs) =
        then_both AreSame AllSame (λ a. option_map (λ ys. a ∷ ys) (types_all schema env cs xs)) (λ a. option_map (λ ys. a ∷ ys) (types_all schema env ds xs)) (types schema env cs x) (types schema env ds x) (same cs ds h x)
        (λ a b k. map_both AllSame AllSame (λ ys. a ∷ ys) (λ ys. b ∷ ys) (types_all schema env cs xs) (types_all schema env ds xs) (same_all cs ds h xs) (λ ys zs l. (k, l)))

    same_named : (cs ds : List Capability) → KnowTheSame cs ds → (xs : Named (Mark (Unit {0}))) → Both NamedSame (types_named schema env cs xs) (types_named schema env ds xs)
    same_named cs ds h no_named = tt
    same_named cs ds h (named n x xs) =
        then_both AreSame NamedSame (λ a. option_map (λ ys. (n, a) ∷ ys) (types_named schema env cs xs)) (λ a. option_map (λ ys. (n, a) ∷ ys) (types_named schema env ds xs)) (types schema env cs x) (types schema env ds x) (same cs ds h x)
        (λ a b k. map_both NamedSame NamedSame (λ ys. (n, a) ∷ ys) (λ ys. (n, b) ∷ ys) (types_named schema env cs xs) (types_named schema env ds xs) (same_named cs ds h xs) (λ ys zs l. (refl, k, l)))

pub what_is_known_decides : WhatIsKnownDecides
what_is_known_decides schema env cs ds h e = known (types schema env cs e) (types schema env ds e) (same schema env cs ds h e)
