-- What typing says of an expression and its typed tree on a request and a store.
use Rattle.std.proofs.Common.{◌≡◌, ℕ, Bool, true, false, ◌||◌, List, [], ◌∷◌, ◌++◌, Option, Some, None, is_some, refl, sym, ap, ◌∙◌, subst}
use Rattle.std.specs.Prelude.{Ok, IfSome}
use Rattle.std.specs.Option.{option_and_then, option_map, option_map_or}
use Rattle.policy_values.specs.Value.{Val, truth, long, string, entity, set, rec, decimal, ip, datetime, duration}
use Rattle.entity_store.specs.declared.request.Request.{Request}
use Rattle.entity_store.specs.Store.{Store}
use Rattle.type_relations.specs.Join.{is_entity}
use Rattle.type_relations.specs.Member.{Member}
use Rattle.policy_core.specs.declared.outcome.Outcome.{Outcome}
use Rattle.policy_core.specs.declared.outcome.Outcome.TheVariants.{Value, Error}
use Rattle.policy_core.specs.Eval.{truth_of, eval}
use Rattle.policy_expressions.specs.Functions.{function_of}
use Rattle.policy_expressions.specs.Slots.{has_slot, some_has_slot, some_named_has_slot}
use Rattle.policy_expressions.specs.Tree.{Tree, lit, var, slot, ite, conj, disj, unary, binary, attr, has, like, is_type, call, set as set_tree, rec as rec_tree, Trees, no_trees, tree, Named, no_named, named, Mark, mark_of}
use Rattle.schema_types.specs.declared.kinds.Primitive.TheVariants.{Bool as BoolType, Long, String}
use Rattle.schema_types.specs.Ty.{Ty, true_type, false_type, primitive, any_entity, entity as entity_type, action}
use Rattle.schema_core.specs.EnvData.{LinkedEnvironment, declared_action}
use Rattle.schema_core.specs.Faults.{IsSchema}
use Rattle.schema_core.specs.Schema.{SchemaData}
use Rattle.policy_expressions.specs.Plain.{Plain}
use Rattle.typing_spec.specs.Capability.{Capability, has_cap}
use Rattle.typing_spec.specs.Holds.{AllHold}
use Rattle.typing_spec.specs.Conforms.{RequestConforms, StoreConforms, IsOf}
use Rattle.policy_expressions.specs.Keys.{HasKeysOnce, HaveKeysOnce, AreKeysOnce}
use Rattle.typing_spec.specs.Sound.{IsOfType, Fulfils}
use Rattle.typing_spec.specs.Typing.{Typed, Typing, typing, if_typing, and_typing, and_caps, or_typing, or_caps, trees_in, named_in, types_in, record_type, types, types_all, types_named, attribute_known, tag_known, at}
use Rattle.typing_spec.specs.Environment.{type_of_literal, type_of_variable}
use Rattle.typing_spec.specs.Signatures.{call_type}
use Rattle.typing_spec.specs.Rules as rule
use Rattle.typing_spec.proofs.Notes.{IsMarked, marked}
use Rattle.typing_spec.proofs.Soundness.{typing_is_sound}
use Rattle.level_spec.specs.Levels.{is_reached, gives_entity}
use Rattle.plain_lemmas.proofs.Booleans.{or_false_parts}

-- the outcome is no id
abbrev pub IsNoId : Outcome → Type 0
IsNoId (Value (entity u)) = ⊥
IsNoId o = Unit {0}

-- the typed expression is the expression wherever that is evaluated on the store; a branch that is evaluated is reached, and what
-- is not typed as an entity is no id.
module _ (q : Request) (s : Store) {A : Type 0} where
  abbrev mutual
    pub Fits : Tree A → Typed → Type 0
    Fits (lit l a) (lit m b) = l ≡ m
    Fits (var v a) (var w b) = v ≡ w
    Fits (slot i a) (slot j b) = Unit {0}
    Fits (ite x y z a) (ite x2 y2 z2 b) =
        Fits x x2 × (truth_of (eval x q s) ≡ Ok true → (is_reached y2 ≡ true) × Fits y y2) × (truth_of (eval x q s) ≡ Ok false → (is_reached z2 ≡ true) × Fits z z2)
    Fits (conj x y a) (conj x2 y2 b) = Fits x x2 × (truth_of (eval x q s) ≡ Ok true → Fits y y2)
    Fits (disj x y a) (disj x2 y2 b) = Fits x x2 × (truth_of (eval x q s) ≡ Ok false → Fits y y2)
    Fits (unary o x a) (unary p x2 b) = (o ≡ p) × Fits x x2
    Fits (binary o x y a) (binary p x2 y2 b) = (o ≡ p) × Fits x x2 × Fits y y2
    Fits (attr x n a) (attr x2 m b) = (n ≡ m) × Fits x x2 × (gives_entity x2 ≡ false → IsNoId (eval x q s))
    Fits (has x n a) (has x2 m b) = (n ≡ m) × Fits x x2 × (gives_entity x2 ≡ false → IsNoId (eval x q s))
    Fits (like x p a) (like x2 r b) = (p ≡ r) × Fits x x2
    Fits (is_type x n a) (is_type x2 m b) = (n ≡ m) × Fits x x2
    Fits (call f xs a) (call g ys b) = (f ≡ g) × FitAll xs ys
    Fits (set_tree xs a) (set_tree ys b) = FitAll xs ys
    Fits (rec_tree xs a) (rec_tree ys b) = FitNamed xs ys
    Fits e t = ⊥

    pub FitAll : Trees A → Trees (Mark (Option Ty)) → Type 0
    FitAll no_trees no_trees = Unit {0}
    FitAll (tree x xs) (tree y ys) = Fits x y × FitAll xs ys
    FitAll xs ys = ⊥

    pub FitNamed : Named A → Named (Mark (Option Ty)) → Type 0
    FitNamed no_named no_named = Unit {0}
    FitNamed (named k x xs) (named l y ys) = (k ≡ l) × Fits x y × FitNamed xs ys
    FitNamed xs ys = ⊥

-- what holds of a value where there is one
mapped : {X Y : Type 0} (o : Option X) (f : X → Y) (Q : Y → Type 0) → ((x : X) → o ≡ Some x → Q (f x)) → IfSome (option_map f o) Q
mapped None f Q h = tt
mapped (Some x) f Q h = h x refl

chained : {X Y : Type 0} (P : X → Type 0) (o : Option X) (f : X → Option Y) (Q : Y → Type 0) → IfSome o P → ((x : X) → P x → IfSome (f x) Q) → IfSome (option_and_then f o) Q
chained P None f Q h k = tt
chained P (Some x) f Q h k = k x h

three : {X : Type 0} (P Q R : X → Type 0) (o : Option X) → IfSome o P → IfSome o Q → IfSome o R → IfSome o (λ x. P x × Q x × R x)
three P Q R None h i k = tt
three P Q R (Some x) h i k = (h, i, k)

-- a value that is used as a boolean is one
is_truth : (o : Outcome) (b : Bool) → truth_of o ≡ Ok b → o ≡ Value (truth b)
is_truth (Value (truth c)) b e = let f : c ≡ b = cc in ap (λ z. Value (truth z)) f
is_truth (Value (long c)) b e = absurd (cc)
is_truth (Value (string c)) b e = absurd (cc)
is_truth (Value (entity c)) b e = absurd (cc)
is_truth (Value (set c)) b e = absurd (cc)
is_truth (Value (rec c)) b e = absurd (cc)
is_truth (Value (decimal c)) b e = absurd (cc)
is_truth (Value (ip c)) b e = absurd (cc)
is_truth (Value (datetime c)) b e = absurd (cc)
is_truth (Value (duration c)) b e = absurd (cc)
is_truth (Error c) b e = absurd (cc)

-- what is typed True is never false, and what is typed False never true
never_false : (o : Outcome) → IsOfType true_type o → truth_of o ≡ Ok false → ⊥
never_false o h e = let m : false ≡ true = subst (IsOfType true_type) (is_truth o false e) h in cc

never_true : (o : Outcome) → IsOfType false_type o → truth_of o ≡ Ok true → ⊥
never_true o h e = let m : true ≡ false = subst (IsOfType false_type) (is_truth o true e) h in cc

all_more : (q : Request) (s : Store) (cs ds : List Capability) → AllHold q s cs → AllHold q s ds → AllHold q s (cs ++ ds)
all_more q s [] ds h k = k
all_more q s (c ∷ cs) ds h k = (h.0, all_more q s cs ds h.1 k)

-- an id is a member of types of entities alone
id_member : (t : Ty) (v : Val) → is_entity t ≡ false → Member t v → IsNoId (Value v)
id_member any_entity (entity u) h m = absurd (cc)
id_member (entity_type ns) (entity u) h m = absurd (cc)
id_member (action n xs) (entity u) h m = absurd (cc)
id_member (primitive BoolType) (entity u) h m = absurd m
id_member (primitive Long) (entity u) h m = absurd m
id_member (primitive String) (entity u) h m = absurd m
id_member t (entity u) h m = absurd m
id_member t v h m = tt

no_id : (t : Ty) (o : Outcome) → IsOfType t o → is_entity t ≡ false → IsNoId o
no_id t (Value v) m h = id_member t v h m
no_id t (Error e) m h = tt

module _ (d : SchemaData) (schema : IsSchema d) (g : LinkedEnvironment) (q : Request) (request : RequestConforms d q) (of : IsOf d q g) (s : Store) (store : StoreConforms d s) where
  -- the typed expression fits, its top has the type, and what typing promises is kept
  abbrev Fitting : Plain → Typing → Type 0
  Fitting e r = Fits q s e r.tree

  abbrev Good : Plain → Typing → Type 0
  Good e r = Fulfils q s (eval e q s) r × IsMarked (mark_of e) r × Fitting e r

  truly : (x : Plain) (r : Typing) → Fulfils q s (eval x q s) r → truth_of (eval x q s) ≡ Ok true → AllHold q s r.caps
  truly x r h e = h.if_true (is_truth (eval x q s) true e)

  abbrev Reached : Plain → Typing → Type 0
  Reached e r = (is_reached r.tree ≡ true) × Fitting e r

  reached : (e : Plain) (r : Typing) → IsMarked (mark_of e) r → is_reached r.tree ≡ true
  reached e r h = ap (λ m. is_some m.note) h

  -- what is not typed as an entity is no id
  other : (e : Plain) (r : Typing) → Good e r → gives_entity r.tree ≡ false → IsNoId (eval e q s)
  other e r h k = no_id r.type (eval e q s) h.0.value (sym (ap (λ m. option_map_or is_entity m.note false) h.1) ∙ k)

  if_fits : (x y z : Plain) (m : Mark (Unit {0})) (r : Typing) → Good x r → (a b : Option Typing) → (AllHold q s r.caps → IfSome a (Reached y)) → IfSome b (Reached z) → IfSome (if_typing r.type r.caps r.tree m a b) (Fitting (ite x y z m))
  if_fits x y z m r h a b f k = here r.type refl
    where
      then_only : (o : Option Typing) → (AllHold q s r.caps → IfSome o (Reached y)) → (t : Typing) → o ≡ Some t → truth_of (eval x q s) ≡ Ok true → Reached y t
      then_only o f t e i = subst (λ o. IfSome o (Reached y)) e (f (truly x r h.0 i))

      else_only : (o : Option Typing) → IfSome o (Reached z) → (t : Typing) → o ≡ Some t → Reached z t
      else_only o k t e = subst (λ o. IfSome o (Reached z)) e k

      two : (a b : Option Typing) → (AllHold q s r.caps → IfSome a (Reached y)) → IfSome b (Reached z) → IfSome (if_typing (primitive BoolType) r.caps r.tree m a b) (Fitting (ite x y z m))
      two None b f k = tt
      two (Some t) None f k = tt
      two (Some t) (Some u) f k = mapped (rule.strict_join t.type u.type) _ (Fitting (ite x y z m)) (λ w e. (h.2, (λ i. f (truly x r h.0 i)), (λ i. k)))

      here : (t : Ty) → r.type ≡ t → IfSome (if_typing t r.caps r.tree m a b) (Fitting (ite x y z m))
      here true_type e = mapped a _ (Fitting (ite x y z m)) (λ w i. (h.2, then_only a f w i, (λ j. absurd (never_false (eval x q s) (subst (λ t. IsOfType t (eval x q s)) e h.0.value) j))))
      here false_type e = mapped b _ (Fitting (ite x y z m)) (λ w i. (h.2, (λ j. absurd (never_true (eval x q s) (subst (λ t. IsOfType t (eval x q s)) e h.0.value) j)), (λ j. else_only b k w i)))
      here (primitive BoolType) e = two a b f k
      here (primitive Long) e = tt
      here (primitive String) e = tt
      here t e = tt

  and_fits : (x y : Plain) (m : Mark (Unit {0})) (r : Typing) → Good x r → (b : Option Typing) → (AllHold q s r.caps → IfSome b (Fitting y)) → IfSome (and_typing r.type r.caps r.tree m b) (Fitting (conj x y m))
  and_fits x y m r h b f = here r.type refl
    where
      rest : (t : Ty) (b : Option Typing) → (AllHold q s r.caps → IfSome b (Fitting y)) → IfSome (option_and_then (λ y2. option_map (λ w. typing w (and_caps y2.type r.caps y2.caps) (conj r.tree y2.tree (at w m))) (rule.and_type t y2.type)) b) (Fitting (conj x y m))
      rest t None f = tt
      rest t (Some u) f = mapped (rule.and_type t u.type) _ (Fitting (conj x y m)) (λ w e. (h.2, (λ i. f (truly x r h.0 i))))

      here : (t : Ty) → r.type ≡ t → IfSome (and_typing t r.caps r.tree m b) (Fitting (conj x y m))
      here false_type e = (h.2, (λ j. absurd (never_true (eval x q s) (subst (λ t. IsOfType t (eval x q s)) e h.0.value) j)))
      here t e = rest t b f

  or_fits : (x y : Plain) (m : Mark (Unit {0})) (r : Typing) → Good x r → (b : Option Typing) → IfSome b (Fitting y) → IfSome (or_typing r.type r.caps r.tree m b) (Fitting (disj x y m))
  or_fits x y m r h b f = here r.type refl
    where
      rest : (t : Ty) (b : Option Typing) → IfSome b (Fitting y) → IfSome (option_and_then (λ y2. option_map (λ w. typing w (or_caps t y2.type r.caps y2.caps) (disj r.tree y2.tree (at w m))) (rule.or_type t y2.type)) b) (Fitting (disj x y m))
      rest t None f = tt
      rest t (Some u) f = mapped (rule.or_type t u.type) _ (Fitting (disj x y m)) (λ w e. (h.2, (λ i. f)))

      here : (t : Ty) → r.type ≡ t → IfSome (or_typing t r.caps r.tree m b) (Fitting (disj x y m))
      here true_type e = (h.2, (λ j. absurd (never_false (eval x q s) (subst (λ t. IsOfType t (eval x q s)) e h.0.value) j)))
      here t e = rest t b f

  abbrev g2 : List Capability → Plain → Option Typing
  g2 cs e = types d (declared_action g) cs e

  good : (e : Plain) → has_slot e ≡ false → HasKeysOnce e → (cs : List Capability) → AllHold q s cs → IfSome (g2 cs e) (Fitting e) → IfSome (g2 cs e) (Good e)
  good e f c cs h k =
      three (Fulfils q s (eval e q s)) (IsMarked (mark_of e)) (Fitting e) (g2 cs e) (typing_is_sound d schema g q request of s store cs h e f c) (marked d (declared_action g) cs e) k

  reached_some : (e : Plain) (cs : List Capability) → IfSome (g2 cs e) (Fitting e) → IfSome (g2 cs e) (Reached e)
  reached_some e cs k = here (g2 cs e) (marked d (declared_action g) cs e) k
    where
      here : (o : Option Typing) → IfSome o (IsMarked (mark_of e)) → IfSome o (Fitting e) → IfSome o (Reached e)
      here None i k = tt
      here (Some r) i k = (reached e r i, k)

  mutual
    pub fits : (e : Plain) → has_slot e ≡ false → HasKeysOnce e → (cs : List Capability) → AllHold q s cs → IfSome (g2 cs e) (Fitting e)
    fits (lit l m) w c cs h = mapped (type_of_literal d l) _ (Fitting (lit l m)) (λ t e. refl)
    fits (var v m) w c cs h = mapped (type_of_variable d (declared_action g) v) _ (Fitting (var v m)) (λ t e. refl)
    fits (slot i m) w c cs h = absurd (cc)
    fits (ite x y z m) w c cs h =
        let r1 = or_false_parts (has_slot x) (has_slot y || has_slot z) w in
        let r2 = or_false_parts (has_slot y) (has_slot z) r1.1 in
        chained (Good x) (g2 cs x) _ (Fitting (ite x y z m)) (good x r1.0 c.0 cs h (fits x r1.0 c.0 cs h))
        (λ r k. if_fits x y z m r k (g2 (cs ++ r.caps) y) (g2 cs z) (λ i. reached_some y (cs ++ r.caps) (fits y r2.0 c.1 (cs ++ r.caps) (all_more q s cs r.caps h i))) (reached_some z cs (fits z r2.1 c.2 cs h)))
    fits (conj x y m) w c cs h =
        let r1 = or_false_parts (has_slot x) (has_slot y) w in
        chained (Good x) (g2 cs x) _ (Fitting (conj x y m)) (good x r1.0 c.0 cs h (fits x r1.0 c.0 cs h))
        (λ r k. and_fits x y m r k (g2 (cs ++ r.caps) y) (λ i. fits y r1.1 c.1 (cs ++ r.caps) (all_more q s cs r.caps h i)))
    fits (disj x y m) w c cs h =
        let r1 = or_false_parts (has_slot x) (has_slot y) w in
        chained (Good x) (g2 cs x) _ (Fitting (disj x y m)) (good x r1.0 c.0 cs h (fits x r1.0 c.0 cs h))
        (λ r k. or_fits x y m r k (g2 cs y) (fits y r1.1 c.1 cs h))
    fits (unary o x m) w c cs h =
        chained (Fitting x) (g2 cs x) _ (Fitting (unary o x m)) (fits x w c cs h)
        (λ r k. mapped (rule.unary_type o r.type) _ (Fitting (unary o x m)) (λ t e. (refl, k)))
    fits (binary o x y m) w c cs h =
        let r1 = or_false_parts (has_slot x) (has_slot y) w in
        chained (Fitting x) (g2 cs x) _ (Fitting (binary o x y m)) (fits x r1.0 c.0 cs h)
        (λ r k. chained (Fitting y) (g2 cs y) _ (Fitting (binary o x y m)) (fits y r1.1 c.1 cs h)
        (λ u l. mapped (rule.binary_type d (declared_action g) o (has_cap cs (tag_known x y)) x y r.type u.type) _ (Fitting (binary o x y m)) (λ t e. (refl, k, l))))
    fits (attr x n m) w c cs h =
        chained (Good x) (g2 cs x) _ (Fitting (attr x n m)) (good x w c cs h (fits x w c cs h))
        (λ r k. mapped (rule.attr_type d (has_cap cs (attribute_known x n)) r.type n) _ (Fitting (attr x n m)) (λ t e. (refl, k.2, other x r k)))
    fits (has x n m) w c cs h =
        chained (Good x) (g2 cs x) _ (Fitting (has x n m)) (good x w c cs h (fits x w c cs h))
        (λ r k. mapped (rule.has_type d (has_cap cs (attribute_known x n)) r.type n) _ (Fitting (has x n m)) (λ t e. (refl, k.2, other x r k)))
    fits (like x p m) w c cs h =
        chained (Fitting x) (g2 cs x) _ (Fitting (like x p m)) (fits x w c cs h)
        (λ r k. mapped (rule.like_type r.type) _ (Fitting (like x p m)) (λ t e. (refl, k)))
    fits (is_type x n m) w c cs h =
        chained (Fitting x) (g2 cs x) _ (Fitting (is_type x n m)) (fits x w c cs h)
        (λ r k. mapped (rule.is_type r.type n) _ (Fitting (is_type x n m)) (λ t e. (refl, k)))
    fits (call f xs m) w c cs h =
        chained (λ ys. FitAll q s xs (trees_in ys)) (types_all d (declared_action g) cs xs) _ (Fitting (call f xs m)) (fit_all xs w c cs h)
        (λ ys k. mapped (call_type (function_of f) xs (types_in ys)) _ (Fitting (call f xs m)) (λ t e. (refl, k)))
    fits (set_tree xs m) w c cs h =
        chained (λ ys. FitAll q s xs (trees_in ys)) (types_all d (declared_action g) cs xs) _ (Fitting (set_tree xs m)) (fit_all xs w c cs h)
        (λ ys k. mapped (rule.set_type (types_in ys)) _ (Fitting (set_tree xs m)) (λ t e. k))
    fits (rec_tree xs m) w c cs h = of_fields (types_named d (declared_action g) cs xs) (fit_named xs w c cs h)
      where
        of_fields : (o : Option (List (List ℕ × Typing))) → IfSome o (λ ys. FitNamed q s xs (named_in ys)) → IfSome (option_map (λ ys. typing (record_type ys) [] (rec_tree (named_in ys) (at (record_type ys) m))) o) (Fitting (rec_tree xs m))
        of_fields None k = tt
        of_fields (Some ys) k = k

    fit_all : (xs : Trees (Mark (Unit {0}))) → some_has_slot xs ≡ false → HaveKeysOnce xs → (cs : List Capability) → AllHold q s cs → IfSome (types_all d (declared_action g) cs xs) (λ ys. FitAll q s xs (trees_in ys))
    fit_all no_trees w c cs h = tt
    fit_all (tree x xs) w c cs h =
        let r1 = or_false_parts (has_slot x) (some_has_slot xs) w in
        chained (Fitting x) (g2 cs x) _ (λ ys. FitAll q s (tree x xs) (trees_in ys)) (fits x r1.0 c.0 cs h)
        (λ r k. more_of (types_all d (declared_action g) cs xs) r k (fit_all xs r1.1 c.1 cs h))
      where
        more_of : (o : Option (List Typing)) (r : Typing) → Fits q s x r.tree → IfSome o (λ ys. FitAll q s xs (trees_in ys)) → IfSome (option_map (λ ys. r ∷ ys) o) (λ ys. FitAll q s (tree x xs) (trees_in ys))
        more_of None r k l = tt
        more_of (Some ys) r k l = (k, l)

    fit_named : (xs : Named (Mark (Unit {0}))) → some_named_has_slot xs ≡ false → AreKeysOnce xs → (cs : List Capability) → AllHold q s cs → IfSome (types_named d (declared_action g) cs xs) (λ ys. FitNamed q s xs (named_in ys))
    fit_named no_named w c cs h = tt
    fit_named (named n x xs) w c cs h =
        let r1 = or_false_parts (has_slot x) (some_named_has_slot xs) w in
        chained (Fitting x) (g2 cs x) _ (λ ys. FitNamed q s (named n x xs) (named_in ys)) (fits x r1.0 c.0 cs h)
        (λ r k. more_of (types_named d (declared_action g) cs xs) r k (fit_named xs r1.1 c.2 cs h))
      where
        more_of : (o : Option (List (List ℕ × Typing))) (r : Typing) → Fits q s x r.tree → IfSome o (λ ys. FitNamed q s xs (named_in ys)) → IfSome (option_map (λ ys. (n, r) ∷ ys) o) (λ ys. FitNamed q s (named n x xs) (named_in ys))
        more_of None r k l = tt
        more_of (Some ys) r k l = (refl, k, l)
