-- `==` and `is`, which look at ids and their types.
use Rattle.std.proofs.Common.{◌≡◌, ℕ, Bool, true, false, not, ◌||◌, List, [], ◌∷◌, Option, Some, None, is_some, refl, sym, ap, subst, ◌∙◌, IfSome}
use Rattle.std.specs.Prelude.{if◌then◌else◌}
use Rattle.std.specs.List.{list_all}
use Rattle.std.specs.Option.{option_map_or}
use Rattle.std.specs.Ordering.{is_eq}
use Rattle.std.specs.Cmp.{tied_itself}
use Rattle.std.proofs.lemmas.Cmp.{nat_list_cmp_total}
use Rattle.policy_values.specs.declared.entity_uid.EntityUID.{EntityUID}
use Rattle.policy_values.specs.Uid.{uid_cmp, exact_uid, uid_eq}
use Rattle.policy_values.specs.Value.{Val, truth, entity as id}
use Rattle.policy_values.specs.ValueOrder.{val_cmp}
use Rattle.policy_values.specs.Ties.{equal_of}
use Rattle.schema_types.specs.Names.{has_name}
use Rattle.schema_types.specs.Ty.{Ty, true_type, false_type, any_entity, entity, action}
use Rattle.type_relations.specs.Join.{text_eq, is_entity}
use Rattle.type_relations.specs.Member.{Member}
use Rattle.policy_core.specs.declared.outcome.Outcome.{Outcome}
use Rattle.policy_core.specs.declared.outcome.Outcome.TheVariants.{Value}
use Rattle.policy_core.specs.Eval.{with_value}
use Rattle.policy_core.specs.Operators.{is_value}
use Rattle.typing_spec.specs.Signatures.{bool_type}
use Rattle.typing_spec.specs.Environment.{truth_type}
use Rattle.typing_spec.specs.Rules.{bool_if, strict_join, are_disjoint, are_one, equal_type, is_one_of, is_type}
use Rattle.typing_spec.specs.Sound.{IsOfType}
use Rattle.typing_spec.proofs.Kept.{same_text}
use Rattle.typing_spec.proofs.Operators.{then_of, two, two_of, id_member, bool_when}
use Rattle.plain_lemmas.proofs.Booleans.{and_parts_of, false_of_not, false_of_not_true, not_both}

pub text_itself : (k : List ℕ) → text_eq k k ≡ true
text_itself k = ap is_eq (tied_itself nat_list_cmp_total k)

pub same_uid : (x y : EntityUID) → uid_eq x y ≡ true → x ≡ y
same_uid x y h = exact_uid x y (equal_of (uid_cmp x y) h)

pub one_name : (n k : List ℕ) → k ≡ n → has_name (n ∷ []) k ≡ true
one_name n k e = subst (λ m. has_name (n ∷ []) m ≡ true) (sym e) (ap (λ b. b || false) (text_itself n))

pub only_one_name : (n k : List ℕ) → has_name (n ∷ []) k ≡ true → k ≡ n
only_one_name n k h = same_text k n (first (text_eq k n) h)
  where
    first : (b : Bool) → (b || false) ≡ true → b ≡ true
    first true e = refl
    first false e = e

pub apart_names : (ms ns : List (List ℕ)) (k : List ℕ) → list_all (λ n. not (has_name ns n)) ms ≡ true → has_name ms k ≡ true → has_name ns k ≡ false
apart_names [] ns k h i = cc
apart_names (m ∷ ms) ns k h i =
    let r = and_parts_of (not (has_name ns m)) (list_all (λ n. not (has_name ns n)) ms) h in
    by (text_eq k m) refl (apart_names ms ns k r.1) i (false_of_not (has_name ns m) r.0)
  where
    by : (b : Bool) → text_eq k m ≡ b → (has_name ms k ≡ true → has_name ns k ≡ false) → (b || has_name ms k) ≡ true → has_name ns m ≡ false → has_name ns k ≡ false
    by true e rest j f = subst (λ l. has_name ns l ≡ false) (sym (same_text k m e)) f
    by false e rest j f = rest j

apart_ids : (ms ns : List (List ℕ)) (x y : EntityUID) → list_all (λ n. not (has_name ns n)) ms ≡ true → has_name ms x.entity_type ≡ true → has_name ns y.entity_type ≡ true → uid_eq x y ≡ false
apart_ids ms ns x y h i j =
    false_of_not_true (uid_eq x y) (λ e.
    not_both (has_name ns x.entity_type) (subst (λ u. has_name ns u.entity_type ≡ true) (sym (same_uid x y e)) j) (apart_names ms ns x.entity_type h i))

disjoint_ids : (t u : Ty) (x y : EntityUID) → are_disjoint t u ≡ true → Member t (id x) → Member u (id y) → uid_eq x y ≡ false
disjoint_ids (entity ms) (entity ns) x y e h i = apart_ids ms ns x y e h i
disjoint_ids (entity ms) (action n ys) x y e h i = apart_ids ms (n ∷ []) x y e h (one_name n y.entity_type i)
disjoint_ids (action m xs) (entity ns) x y e h i = apart_ids (m ∷ []) ns x y e (one_name m x.entity_type h) i
disjoint_ids (action m xs) (action n ys) x y e h i = apart_ids (m ∷ []) (n ∷ []) x y e (one_name m x.entity_type h) (one_name n y.entity_type i)
disjoint_ids t u x y e h i = absurd (cc)

disjoint_entities : (t u : Ty) → are_disjoint t u ≡ true → (is_entity t ≡ true) × (is_entity u ≡ true)
disjoint_entities (entity ms) (entity ns) e = (refl, refl)
disjoint_entities (entity ms) (action n ys) e = (refl, refl)
disjoint_entities (action m xs) (entity ns) e = (refl, refl)
disjoint_entities (action m xs) (action n ys) e = (refl, refl)
disjoint_entities t u e = absurd (cc)

pub truth_member : (b : Bool) → Member (truth_type b) (truth b)
truth_member true = refl
truth_member false = refl

abbrev pub equality : Val → Val → Outcome
equality v w = Value (truth (is_eq (val_cmp v w)))

equal_bool : (t u : Ty) (o p : Outcome) → IsOfType t o → IsOfType u p → IsOfType bool_type (two o p equality)
equal_bool t u o p h i = two_of t u bool_type o p equality h i (λ v w m n. tt)

-- an id that is known is the outcome
abbrev pub IsKnownAs : Outcome → EntityUID → Type 0
IsKnownAs o x = o ≡ Value (id x)

pub equal_of_type : (x y : Option EntityUID) (t u : Ty) (o p : Outcome) → IsOfType t o → IsOfType u p → IfSome x (IsKnownAs o) → IfSome y (IsKnownAs p) → IfSome (equal_type x y t u) (λ w. IsOfType w (two o p equality))
equal_of_type x y t u o p h i a b = by (are_disjoint t u) refl
  where
    known : (x y : Option EntityUID) → IfSome x (IsKnownAs o) → IfSome y (IsKnownAs p) → IfSome (option_map_or (λ b. Some (truth_type b)) (are_one x y) (bool_if (is_some (strict_join t u)))) (λ w. IsOfType w (two o p equality))
    known (Some k) (Some l) c d =
        subst (λ o. IsOfType (truth_type (uid_eq k l)) (two o p equality)) (sym c)
        (subst (λ p. IsOfType (truth_type (uid_eq k l)) (two (Value (id k)) p equality)) (sym d) (truth_member (uid_eq k l)))
    known None y c d = bool_when (is_some (strict_join t u)) (λ w. IsOfType w (two o p equality)) (λ _. equal_bool t u o p h i)
    known (Some k) None c d = bool_when (is_some (strict_join t u)) (λ w. IsOfType w (two o p equality)) (λ _. equal_bool t u o p h i)

    by : (c : Bool) → are_disjoint t u ≡ c → IfSome (if c then Some false_type else option_map_or (λ b. Some (truth_type b)) (are_one x y) (bool_if (is_some (strict_join t u)))) (λ w. IsOfType w (two o p equality))
    by true e =
        let r = disjoint_entities t u e in
        two_of t u false_type o p equality h i (λ v w m n.
        let c = id_member t v r.0 m in
        let d = id_member u w r.1 n in
        subst (λ v. IsOfType false_type (equality v w)) (sym c.1)
        (subst (λ w. IsOfType false_type (equality (id c.0) w)) (sym d.1)
        (disjoint_ids t u c.0 d.0 e (subst (Member t) c.1 m) (subst (Member u) d.1 n))))
    by false e = known x y a b

-- `is`
all_name : (ns : List (List ℕ)) (n k : List ℕ) → list_all (text_eq n) ns ≡ true → has_name ns k ≡ true → k ≡ n
all_name [] n k h i = cc
all_name (m ∷ ms) n k h i =
    let r = and_parts_of (text_eq n m) (list_all (text_eq n) ms) h in
    by (text_eq k m) refl (all_name ms n k r.1) i (same_text n m r.0)
  where
    by : (b : Bool) → text_eq k m ≡ b → (has_name ms k ≡ true → k ≡ n) → (b || has_name ms k) ≡ true → n ≡ m → k ≡ n
    by true e rest j f = same_text k m e ∙ sym f
    by false e rest j f = rest j

one_of : (ns : List (List ℕ)) (n k : List ℕ) → has_name ns k ≡ true → Member (is_one_of ns n) (truth (text_eq k n))
one_of ns n k h = by (has_name ns n) refl (list_all (text_eq n) ns) refl
  where
    by : (b : Bool) → has_name ns n ≡ b → (c : Bool) → list_all (text_eq n) ns ≡ c → Member (if not b then false_type else (if c then true_type else bool_type)) (truth (text_eq k n))
    by false e c f = false_of_not_true (text_eq k n) (λ g. not_both (has_name ns n) (subst (λ m. has_name ns m ≡ true) (same_text k n g) h) e)
    by true e true f = subst (λ m. text_eq m n ≡ true) (sym (all_name ns n k f h)) (text_itself n)
    by true e false f = tt

one_of_ids : (t : Ty) (ns : List (List ℕ)) (n : List ℕ) (o : Outcome) → is_entity t ≡ true → ((u : EntityUID) → Member t (id u) → has_name ns u.entity_type ≡ true) → IsOfType t o → IsOfType (is_one_of ns n) (with_value o (λ v. is_value v n))
one_of_ids t ns n o e f h =
    then_of t (is_one_of ns n) o (λ v. is_value v n) h (λ v m.
    let c = id_member t v e m in
    subst (λ v. IsOfType (is_one_of ns n) (is_value v n)) (sym c.1) (one_of ns n c.0.entity_type (f c.0 (subst (Member t) c.1 m))))

pub is_of : (t : Ty) (n : List ℕ) (o : Outcome) → IsOfType t o → IfSome (is_type t n) (λ w. IsOfType w (with_value o (λ v. is_value v n)))
is_of any_entity n o h =
    then_of any_entity bool_type o (λ v. is_value v n) h (λ v m. let c = id_member any_entity v refl m in subst (λ v. IsOfType bool_type (is_value v n)) (sym c.1) tt)
is_of (entity ns) n o h = one_of_ids (entity ns) ns n o refl (λ u m. m) h
is_of (action k xs) n o h = one_of_ids (action k xs) (k ∷ []) n o refl (λ u m. one_name k u.entity_type m) h
is_of t n o h = tt
