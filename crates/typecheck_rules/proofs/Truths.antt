-- What is found is so, and stands at a part of the expression.
use Rattle.std.proofs.Common.{◌≡◌, sym, Bool, true, false, List, [], ◌∷◌, ◌++◌, Option, Some, None, map, option_map, Contains, ℕ, ◌&&◌, refl, ap, subst}
use Rattle.std.specs.List.{AllByRecursion, list_all}
use Rattle.std.specs.Option.{option_map_or, option_and_then}
use Rattle.std.proofs.lemmas.List.Elements.{Contains-append_left, Contains-append_right, Contains-push, All-from_recursion}
use Rattle.schema_types.specs.Ty.{Ty, true_type, false_type}
use Rattle.schema_core.specs.Schema.{SchemaData}
use Rattle.schema_core.specs.EnvData.{EnvData}
use Rattle.policy_expressions.specs.declared.kinds.UnaryOp.{UnaryOp}
use Rattle.policy_expressions.specs.declared.kinds.PatternElem.{PatternElem}
use Rattle.policy_expressions.specs.declared.kinds.BinaryOp.{BinaryOp}
use Rattle.policy_expressions.specs.declared.functions.ExtensionFunction.{ExtensionFunction}
use Rattle.policy_expressions.specs.Functions.{function_of}
use Rattle.policy_expressions.specs.Tree.{lit, var, slot, ite, conj, disj, unary, binary, attr, has, like, is_type, call, set, rec, Trees, no_trees, tree, Named, no_named, named, Mark, named_of}
use Rattle.policy_expressions.specs.Plain.{Plain}
use Rattle.typing_spec.specs.Capability.{Capability, has_cap}
use Rattle.typing_spec.specs.Signatures.{bool_type, signature_of}
use Rattle.typing_spec.specs.Environment.{type_of_literal, type_of_variable}
use Rattle.typing_spec.specs.Typing.{Typed, Typing, attribute_known, tag_known, and_typing, or_typing, types_in}
use Rattle.findings.specs.declared.helps.LubContext.TheVariants as context
use Rattle.findings.specs.Finding.{Finding, UnexpectedType, UndefinedFunction}
use Rattle.findings.specs.Access.{attribute_access}
use Rattle.typecheck_rules.specs.Expected.{Expected, a_boolean, a_string, an_entity, an_owner, an_argument, no_help, like_help, test_help, contents_help, of_unary, left_of, right_of}
use Rattle.typecheck_rules.specs.Walked.{Walked, Success, Fail, findings_of, tree_of, has_typing, given_by, given_by_all, lends, trees_walked, both, expect, expect_if, one_walked, two_walked, all_walked, findings_of_all}
use Rattle.typecheck_rules.specs.Own.{no_join, set_found, call_found}
use Rattle.typecheck_rules.specs.Operators.{place, type_given, leaf_walked, unless_false, unless_true, reached_after, reached_besides, unary_given, unary_typing, unary_fitting, like_typing, like_fitting, is_typing, is_fitting, has_typing_of, has_fitting, attr_typing, attr_given, attr_found, attr_fitting, binary_given, binary_typing, binary_type_given, binary_own, binary_fitting, and_sides, or_sides, test_given, branches_found, if_typing_of, if_parts, set_typing, set_walked, Fields, parts_of, given_fields, record_typing, record_walked, arguments_fitting, arguments_walked, call_typing, call_fitting, call_walked}
use Rattle.typecheck_rules.specs.Walk.{walked, walked_all, walked_named}
use Rattle.typecheck_rules.specs.Truth.{Part, part, known_after, tested, parts, all_parts, named_parts, GiveEach, IsTrueAt, FindingsAreTrue}
use Rattle.typecheck_rules.proofs.Steps.{IfFalse}
use Rattle.typecheck_rules.proofs.Each.{Each, each_both, each_of, each_ended, each_expect, expect_gives, expect_if_gives}
use Rattle.typecheck_rules.proofs.Below.{Bars, BarsIf, IsLeast, boolean_bars, string_bars, entity_bars, owner_bars, argument_bars, arguments_least, unary_bars, left_bars, right_bars}
use Rattle.typecheck_rules.proofs.True.{At, MayGive, one_true, no_join_true, of_both_true, binary_true, attribute_true, set_true, call_true}

-- parts
behind : (e d : Part) (es : List Part) → Contains es d → Contains (e ∷ es) d
behind e d es h = Contains-append_right (e ∷ []) es d h

abbrev behind_first : List Part → List Part
behind_first [] = []
behind_first (p ∷ ps) = ps

-- the parts of an expression without itself
abbrev operands : SchemaData → EnvData → List Capability → Plain → List Part
operands schema env cs e = behind_first (parts schema env cs e)

parts_are : (schema : SchemaData) (env : EnvData) (cs : List Capability) (e : Plain) → parts schema env cs e ≡ part cs e ∷ operands schema env cs e
parts_are schema env cs (lit l m) = refl
parts_are schema env cs (var v m) = refl
parts_are schema env cs (slot i m) = refl
parts_are schema env cs (ite x y z m) = refl
parts_are schema env cs (conj x y m) = refl
parts_are schema env cs (disj x y m) = refl
parts_are schema env cs (unary o x m) = refl
parts_are schema env cs (binary o x y m) = refl
parts_are schema env cs (attr x n m) = refl
parts_are schema env cs (has x n m) = refl
parts_are schema env cs (like x p m) = refl
parts_are schema env cs (is_type x n m) = refl
parts_are schema env cs (call f xs m) = refl
parts_are schema env cs (set xs m) = refl
parts_are schema env cs (rec xs m) = refl

pub part_in : (schema : SchemaData) (env : EnvData) (cs : List Capability) (e : Plain) → Contains (parts schema env cs e) (part cs e)
part_in schema env cs e =
    subst (λ ps. Contains ps (part cs e)) (sym (parts_are schema env cs e)) (Contains-append_left (part cs e ∷ []) (operands schema env cs e) (part cs e) (Contains-push [] (part cs e)))

-- a test that is not known to be true or false
abbrev IsOpen : Ty → Type 0
IsOpen true_type = ⊥
IsOpen false_type = ⊥
IsOpen t = Unit {0}

module _ (schema : SchemaData) (env : EnvData) where
  -- at more parts
  wider : (ps qs : List Part) → ((e : Part) → Contains ps e → Contains qs e) → (fs : List Finding) → Each (IsTrueAt schema env ps) fs → Each (IsTrueAt schema env qs) fs
  wider ps qs k fs h = each_of (IsTrueAt schema env ps) (IsTrueAt schema env qs) (λ f t. record { part = t.part; among = k t.part t.among; at = t.at; so = t.so }) fs h

  module _ (ps : List Part) (cs : List Capability) where
    if_true : (b : Bool) {A : Type 0} (B : Type 0) → (A → B) → IfFalse b A → IfFalse b B
    if_true true B k h = tt
    if_true false B k h = k h

    barring : (x : Expected) (e : Plain) (v : Walked) → At schema env ps cs e → MayGive schema env ps cs e (type_given v) → Bars x → (t : Ty) → type_given v ≡ Some t →
        IfFalse (x.fits t) (IsTrueAt schema env ps (record { kind = UnexpectedType x.types t (x.help t); loc = place e }))
    barring x e v at borrowed bars t is = if_true (x.fits t) _ (λ h. record { part = record { known = cs; is = e }; among = at; at = refl; so = (borrowed t is, h) }) (bars t)

    expect_true : (x : Expected) (e : Plain) (v : Walked) → At schema env ps cs e → MayGive schema env ps cs e (type_given v) → Bars x → Each (IsTrueAt schema env ps) (findings_of v) →
        Each (IsTrueAt schema env ps) (findings_of (expect x (place e) v))
    expect_true x e v at borrowed bars h = each_expect (IsTrueAt schema env ps) x (place e) v (barring x e v at borrowed bars) h

    expect_if_true : (o : Option Expected) (e : Plain) (v : Walked) → At schema env ps cs e → MayGive schema env ps cs e (type_given v) → BarsIf o → Each (IsTrueAt schema env ps) (findings_of v) →
        Each (IsTrueAt schema env ps) (findings_of (expect_if o (place e) v))
    expect_if_true None e v at borrowed bars h = h
    expect_if_true (Some x) e v at borrowed bars h = expect_true x e v at borrowed bars h

    attr_own : (known : Bool) (x : Plain) (n : List ℕ) (m : Mark (Unit {0})) (a : Option Typing) → known ≡ has_cap cs (attribute_known x n) → At schema env ps cs (attr x n m) → MayGive schema env ps cs x (option_map (λ b. b.type) a) →
        Each (IsTrueAt schema env ps) (option_map_or (attr_found schema env known n m) a [])
    attr_own known x n m None asked at borrowed = tt
    attr_own known x n m (Some a) asked at borrowed = attribute_true schema env ps cs (attribute_access env a.tree n) known x n m a.type asked at (borrowed a.type refl)

    branches_true : (x y z : Plain) (m : Mark (Unit {0})) (s : Ty) (t u : Option Ty) → At schema env ps cs (ite x y z m) → (IsOpen s → MayGive schema env ps (known_after cs (tested schema env cs x)) y t) → (IsOpen s → MayGive schema env ps cs z u) →
        Each (IsTrueAt schema env ps) (branches_found m s t u)
    branches_true x y z m true_type t u at ly lz = tt
    branches_true x y z m false_type t u at ly lz = tt
    branches_true x y z m s t u at ly lz = of_both_true schema env ps cs (no_join context.Conditional m.loc) t u (λ a b p q. no_join_true schema env ps cs context.Conditional (ite x y z m) a b at (ly tt a p, lz tt b q))

    unless_false_true : (t : Ty) (w : Walked) → Each (IsTrueAt schema env ps) (findings_of w) → Each (IsTrueAt schema env ps) (findings_of (unless_false t w))
    unless_false_true false_type w h = tt
    unless_false_true _ w h = h

    unless_true_true : (t : Ty) (w : Walked) → Each (IsTrueAt schema env ps) (findings_of w) → Each (IsTrueAt schema env ps) (findings_of (unless_true t w))
    unless_true_true true_type w h = tt
    unless_true_true _ w h = h

    after_true : (v : Walked) (after : List Capability → Walked) (before : Walked) → ((a : Typing) → v ≡ Success a → Each (IsTrueAt schema env ps) (findings_of (after a.caps))) → ((t : Typed) (fs : List Finding) → v ≡ Fail t fs → Each (IsTrueAt schema env ps) (findings_of before)) →
        Each (IsTrueAt schema env ps) (findings_of (reached_after v after before))
    after_true (Success a) after before h k = unless_false_true a.type (after a.caps) (h a refl)
    after_true (Fail t fs) after before h k = k t fs refl

    besides_true : (v w : Walked) → Each (IsTrueAt schema env ps) (findings_of w) → Each (IsTrueAt schema env ps) (findings_of (reached_besides v w))
    besides_true (Success a) w h = unless_true_true a.type w h
    besides_true (Fail t fs) w h = h

    set_own : (xs : Trees (Mark (Unit {0}))) (m : Mark (Unit {0})) (o : Option (List Typing)) → At schema env ps cs (set xs m) → ((ys : List Typing) → o ≡ Some ys → types_in ys ≡ [] → xs ≡ no_trees) →
        ((ys : List Typing) → o ≡ Some ys → GiveEach schema env cs xs (types_in ys)) → Each (IsTrueAt schema env ps) (option_map_or (λ ys. set_found m.loc (types_in ys)) o [])
    set_own xs m None at k borrowed = tt
    set_own xs m (Some ys) at k borrowed = set_true schema env ps cs xs m (types_in ys) at (k ys refl) (borrowed ys refl)

    -- an operator has only true findings where its operands do, and its own are true
    one_is_true : (rule : Typing → Option Typing) (failed : Typed) (own : List Finding) (v : Walked) → Each (IsTrueAt schema env ps) (findings_of v) → Each (IsTrueAt schema env ps) own →
        Each (IsTrueAt schema env ps) (findings_of (one_walked rule failed own v))
    one_is_true rule failed own v h k =
        each_ended (IsTrueAt schema env ps) (has_typing v) (option_and_then rule (given_by v)) failed (findings_of v ++ own) (each_both (IsTrueAt schema env ps) (findings_of v) own h k)

    two_is_true : (rule : Typing → Typing → Option Typing) (failed : Typed) (own : List Finding) (v w : Walked) → Each (IsTrueAt schema env ps) (findings_of v) → Each (IsTrueAt schema env ps) (findings_of w) →
        Each (IsTrueAt schema env ps) own → Each (IsTrueAt schema env ps) (findings_of (two_walked rule failed own v w))
    two_is_true rule failed own v w h k i =
        each_ended (IsTrueAt schema env ps) (has_typing v && has_typing w) (both rule (given_by v) (given_by w)) failed (findings_of v ++ (findings_of w ++ own))
        (each_both (IsTrueAt schema env ps) (findings_of v) (findings_of w ++ own) h (each_both (IsTrueAt schema env ps) (findings_of w) own k i))

    all_is_true : (rule : List Typing → Option Typing) (failed : Typed) (found : List Finding) (ws : List Walked) → Each (IsTrueAt schema env ps) found → Each (IsTrueAt schema env ps) (findings_of (all_walked rule failed found ws))
    all_is_true rule failed found ws h = each_ended (IsTrueAt schema env ps) (list_all has_typing ws) (option_and_then rule (given_by_all ws)) failed found h

    unary_is_true : (o : UnaryOp) (m : Mark (Unit {0})) (v : Walked) → Each (IsTrueAt schema env ps) (findings_of v) → Each (IsTrueAt schema env ps) (findings_of (unary_fitting o m v))
    unary_is_true o m v h = one_is_true (unary_typing o m) (unary o (tree_of v) (lends (Some (unary_given o)) m)) [] v h tt

    like_is_true : (p : List PatternElem) (m : Mark (Unit {0})) (v : Walked) → Each (IsTrueAt schema env ps) (findings_of v) → Each (IsTrueAt schema env ps) (findings_of (like_fitting p m v))
    like_is_true p m v h = one_is_true (like_typing p m) (like (tree_of v) p (lends (Some bool_type) m)) [] v h tt

    is_is_true : (n : List ℕ) (m : Mark (Unit {0})) (v : Walked) → Each (IsTrueAt schema env ps) (findings_of v) → Each (IsTrueAt schema env ps) (findings_of (is_fitting n m v))
    is_is_true n m v h = one_is_true (is_typing n m) (is_type (tree_of v) n (lends (Some bool_type) m)) [] v h tt

    has_is_true : (known : Bool) (x : Plain) (n : List ℕ) (m : Mark (Unit {0})) (v : Walked) → Each (IsTrueAt schema env ps) (findings_of v) → Each (IsTrueAt schema env ps) (findings_of (has_fitting schema known x n m v))
    has_is_true known x n m v h = one_is_true (has_typing_of schema known x n m) (has (tree_of v) n (lends (Some bool_type) m)) [] v h tt

    attr_is_true : (known : Bool) (x : Plain) (n : List ℕ) (m : Mark (Unit {0})) (v : Walked) → known ≡ has_cap cs (attribute_known x n) → At schema env ps cs (attr x n m) → MayGive schema env ps cs x (type_given v) → Each (IsTrueAt schema env ps) (findings_of v) →
        Each (IsTrueAt schema env ps) (findings_of (attr_fitting schema env known n m v))
    attr_is_true known x n m v asked at borrowed h =
        one_is_true (attr_typing schema env known n m) (attr (tree_of v) n (lends (option_and_then (attr_given schema env n) (type_given v)) m)) (option_map_or (attr_found schema env known n m) (given_by v) []) v h (attr_own known x n m (given_by v) asked at borrowed)

    binary_is_true : (o : BinaryOp) (known : Bool) (x y : Plain) (m : Mark (Unit {0})) (v w : Walked) → known ≡ has_cap cs (tag_known x y) → At schema env ps cs x → At schema env ps cs y → At schema env ps cs (binary o x y m) →
        MayGive schema env ps cs x (type_given v) → MayGive schema env ps cs y (type_given w) →
        Each (IsTrueAt schema env ps) (findings_of v) → Each (IsTrueAt schema env ps) (findings_of w) → Each (IsTrueAt schema env ps) (findings_of (binary_fitting schema env o known x y m v w))
    binary_is_true o known x y m v w asked at to in_place lx ly h k =
        two_is_true (binary_typing schema env o known x y m) (binary o (tree_of v) (tree_of w) (lends (binary_given schema env o x y (type_given v)) m)) (binary_own schema env o known x y m (type_given v) (type_given w)) v w h k
        (binary_true schema env ps cs o known x y m (binary_type_given schema env o known x y (type_given v) (type_given w)) (type_given v) (type_given w) asked at to in_place lx ly)

    and_sides_true : (m : Mark (Unit {0})) (v w : Walked) → Each (IsTrueAt schema env ps) (findings_of v) → Each (IsTrueAt schema env ps) (findings_of w) → Each (IsTrueAt schema env ps) (findings_of (and_sides m v w))
    and_sides_true m v w h k =
        each_ended (IsTrueAt schema env ps) (has_typing v && has_typing w) (option_and_then (λ a. and_typing a.type a.caps a.tree m (given_by w)) (given_by v)) (conj (tree_of v) (tree_of w) (lends (Some bool_type) m))
        (findings_of v ++ findings_of w) (each_both (IsTrueAt schema env ps) (findings_of v) (findings_of w) h k)

    or_sides_true : (m : Mark (Unit {0})) (v w : Walked) → Each (IsTrueAt schema env ps) (findings_of v) → Each (IsTrueAt schema env ps) (findings_of w) → Each (IsTrueAt schema env ps) (findings_of (or_sides m v w))
    or_sides_true m v w h k =
        each_ended (IsTrueAt schema env ps) (has_typing v && has_typing w) (option_and_then (λ a. or_typing a.type a.caps a.tree m (given_by w)) (given_by v)) (disj (tree_of v) (tree_of w) (lends (Some bool_type) m))
        (findings_of v ++ findings_of w) (each_both (IsTrueAt schema env ps) (findings_of v) (findings_of w) h k)

    if_parts_true : (x y z : Plain) (m : Mark (Unit {0})) (u v w : Walked) → At schema env ps cs (ite x y z m) → (IsOpen (test_given u).type → MayGive schema env ps (known_after cs (tested schema env cs x)) y (type_given v)) →
        (IsOpen (test_given u).type → MayGive schema env ps cs z (type_given w)) → Each (IsTrueAt schema env ps) (findings_of u) → Each (IsTrueAt schema env ps) (findings_of v) → Each (IsTrueAt schema env ps) (findings_of w) →
        Each (IsTrueAt schema env ps) (findings_of (if_parts m u v w))
    if_parts_true x y z m u v w at ly lz h k i =
        each_ended (IsTrueAt schema env ps) (has_typing u && (has_typing v && has_typing w)) (if_typing_of m (test_given u) (given_by v) (given_by w)) (ite (tree_of u) (tree_of v) (tree_of w) (lends None m))
        (findings_of u ++ (findings_of v ++ (findings_of w ++ branches_found m (test_given u).type (type_given v) (type_given w))))
        (each_both (IsTrueAt schema env ps) (findings_of u) (findings_of v ++ (findings_of w ++ branches_found m (test_given u).type (type_given v) (type_given w))) h
        (each_both (IsTrueAt schema env ps) (findings_of v) (findings_of w ++ branches_found m (test_given u).type (type_given v) (type_given w)) k
        (each_both (IsTrueAt schema env ps) (findings_of w) (branches_found m (test_given u).type (type_given v) (type_given w)) i (branches_true x y z m (test_given u).type (type_given v) (type_given w) at ly lz))))

    set_is_true : (xs : Trees (Mark (Unit {0}))) (m : Mark (Unit {0})) (ws : List Walked) → At schema env ps cs (set xs m) → ((ys : List Typing) → given_by_all ws ≡ Some ys → types_in ys ≡ [] → xs ≡ no_trees) →
        ((ys : List Typing) → given_by_all ws ≡ Some ys → GiveEach schema env cs xs (types_in ys)) →
        Each (IsTrueAt schema env ps) (findings_of_all ws) → Each (IsTrueAt schema env ps) (findings_of (set_walked m ws))
    set_is_true xs m ws at k borrowed h =
        all_is_true (set_typing m) (set (trees_walked ws) (lends None m)) (findings_of_all ws ++ option_map_or (λ ys. set_found m.loc (types_in ys)) (given_by_all ws) []) ws
        (each_both (IsTrueAt schema env ps) (findings_of_all ws) (option_map_or (λ ys. set_found m.loc (types_in ys)) (given_by_all ws) []) h (set_own xs m (given_by_all ws) at k borrowed))

    record_is_true : (m : Mark (Unit {0})) (es : Fields) → Each (IsTrueAt schema env ps) (findings_of_all (parts_of es)) → Each (IsTrueAt schema env ps) (findings_of (record_walked m es))
    record_is_true m es h =
        each_ended (IsTrueAt schema env ps) (list_all has_typing (parts_of es)) (option_map (record_typing m) (given_fields es)) (rec (named_of (map (λ e. (e.0, tree_of e.1)) es)) (lends None m)) (findings_of_all (parts_of es)) h

    call_fitting_true : (f : List ℕ) (g : ExtensionFunction) (xs : Trees (Mark (Unit {0}))) (m : Mark (Unit {0})) (own : List Finding) (ws : List Walked) → Each (IsTrueAt schema env ps) own → Each (IsTrueAt schema env ps) (findings_of_all ws) →
        Each (IsTrueAt schema env ps) (findings_of (call_fitting f g xs m own ws))
    call_fitting_true f g xs m own ws h k =
        all_is_true (call_typing f (Some g) xs m) (call f (trees_walked ws) (lends (Some (signature_of g).result) m)) (own ++ findings_of_all ws) ws (each_both (IsTrueAt schema env ps) own (findings_of_all ws) h k)

    -- arguments
    abbrev AreBorrowed : Trees (Mark (Unit {0})) → List Walked → Type 0
    AreBorrowed (tree x xs) (w ∷ ws) = MayGive schema env ps cs x (type_given w) × AreBorrowed xs ws
    AreBorrowed xs ws = Unit {0}

    fitting_true : (ts : List Ty) (xs : Trees (Mark (Unit {0}))) (ws : List Walked) → AllByRecursion IsLeast ts → ((e : Part) → Contains (all_parts schema env cs xs) e → Contains ps e) → AreBorrowed xs ws →
        Each (IsTrueAt schema env ps) (findings_of_all ws) → Each (IsTrueAt schema env ps) (findings_of_all (arguments_fitting ts xs ws))
    fitting_true [] xs ws least k borrowed h = h
    fitting_true (t ∷ ts) no_trees ws least k borrowed h = h
    fitting_true (t ∷ ts) (tree x xs) [] least k borrowed h = h
    fitting_true (t ∷ ts) (tree x xs) (w ∷ ws) least k borrowed h =
        let parted = split (findings_of w) (findings_of_all ws) h in
        each_both (IsTrueAt schema env ps) (findings_of (expect (an_argument t) (place x) w)) (findings_of_all (arguments_fitting ts xs ws))
        (expect_true (an_argument t) x w (k _ (Contains-append_left (parts schema env cs x) (all_parts schema env cs xs) _ (part_in schema env cs x))) borrowed.0 (argument_bars t least.0) parted.0)
        (fitting_true ts xs ws least.1 (λ e i. k e (Contains-append_right (parts schema env cs x) (all_parts schema env cs xs) e i)) borrowed.1 parted.1)
      where
        split : (fs gs : List Finding) → Each (IsTrueAt schema env ps) (fs ++ gs) → Each (IsTrueAt schema env ps) fs × Each (IsTrueAt schema env ps) gs
        split [] gs i = (tt, i)
        split (f ∷ fs) gs i = let p = split fs gs i.1 in ((i.0, p.0), p.1)

    call_is_true : (f : List ℕ) (o : Option ExtensionFunction) (xs : Trees (Mark (Unit {0}))) (m : Mark (Unit {0})) (ws : List Walked) → function_of f ≡ o → At schema env ps cs (call f xs m) →
        ((e : Part) → Contains (all_parts schema env cs xs) e → Contains ps e) → AreBorrowed xs ws → Each (IsTrueAt schema env ps) (findings_of_all ws) → Each (IsTrueAt schema env ps) (findings_of (call_walked f o xs m ws))
    call_is_true f None xs m ws e at k borrowed h = one_true schema env ps cs (UndefinedFunction f) (call f xs m) at (refl, e)
    call_is_true f (Some g) xs m ws e at k borrowed h = by (call_found g xs m.loc) (call_found g xs m.loc) (call_true schema env ps cs f g xs m e at)
      where
        by : (own all : List Finding) → Each (IsTrueAt schema env ps) all → Each (IsTrueAt schema env ps) (findings_of (call_fitting f g xs m all (arguments_walked own (signature_of g).arguments xs ws)))
        by [] all i =
            call_fitting_true f g xs m all (arguments_fitting (signature_of g).arguments xs ws) i (fitting_true (signature_of g).arguments xs ws (arguments_least g) k borrowed h)
        by (d ∷ own) all i = call_fitting_true f g xs m all ws i h

leaf_true : (schema : SchemaData) (env : EnvData) (ps : List Part) (part : Mark (Option Ty) → Typed) (m : Mark (Unit {0})) (o : Option Ty) → Each (IsTrueAt schema env ps) (findings_of (leaf_walked part m o))
leaf_true schema env ps part m None = tt
leaf_true schema env ps part m (Some t) = tt

module _ (schema : SchemaData) (env : EnvData) where
  -- all that is found of the expression is true at one of its parts
  abbrev Truth : List Capability → Plain → Walked → Type 0
  Truth cs e w = Each (IsTrueAt schema env (parts schema env cs e)) (findings_of w)

  -- the parts of an expression
  abbrev ps : List Capability → Plain → List Part
  ps cs e = parts schema env cs e

  abbrev all : List Capability → Trees (Mark (Unit {0})) → List Part
  all cs xs = all_parts schema env cs xs

  -- those of an operand are among those of its operator
  abbrev Within : List Part → List Part → Type 0
  Within qs rs = (d : Part) → Contains qs d → Contains rs d

  first : (qs rs : List Part) → Within qs (qs ++ rs)
  first qs rs d i = Contains-append_left qs rs d i

  second : (qs rs : List Part) → Within rs (qs ++ rs)
  second qs rs d i = Contains-append_right qs rs d i

  below : (cs : List Capability) (e : Plain) (qs : List Part) → Within qs (operands schema env cs e) → Within qs (ps cs e)
  below cs e qs k d i = subst (λ l. Contains l d) (sym (parts_are schema env cs e)) (behind (part cs e) d (operands schema env cs e) (k d i))

  same : (qs : List Part) → Within qs qs
  same qs d i = i

  -- the operand is a part, and what is true of it is true of its operator
  operand_at : (cs ds : List Capability) (e x : Plain) → Within (ps ds x) (operands schema env cs e) → At schema env (ps cs e) ds x
  operand_at cs ds e x k = below cs e (ps ds x) k _ (part_in schema env ds x)

  up : (cs ds : List Capability) (e x : Plain) → Within (ps ds x) (operands schema env cs e) → (w : Walked) → Truth ds x w → Truth cs e w
  up cs ds e x k w h = wider schema env (ps ds x) (ps cs e) (below cs e (ps ds x) k) (findings_of w) h

  -- what a part comes to is what it gives
  borrowed : (qs : List Part) (cs : List Capability) (x : Plain) → MayGive schema env qs cs x (type_given (walked schema env cs x))
  borrowed qs cs x t h = h

  all_given : (qs : List Part) (cs : List Capability) (xs : Trees (Mark (Unit {0}))) → AreBorrowed schema env qs cs xs (walked_all schema env cs xs)
  all_given qs cs no_trees = tt
  all_given qs cs (tree x xs) = (borrowed qs cs x, all_given qs cs xs)

  -- an operand of which something is expected
  expected : (cs ds : List Capability) (e x : Plain) (o : Expected) → Within (ps ds x) (operands schema env cs e) → Bars o → Truth ds x (walked schema env ds x) →
      Truth cs e (expect o (place x) (walked schema env ds x))
  expected cs ds e x o k bars h =
      expect_true schema env (ps cs e) ds o x (walked schema env ds x) (operand_at cs ds e x k) (borrowed (ps cs e) ds x) bars (up cs ds e x k (walked schema env ds x) h)

  expected_if : (cs ds : List Capability) (e x : Plain) (o : Option Expected) → Within (ps ds x) (operands schema env cs e) → BarsIf o → Truth ds x (walked schema env ds x) →
      Truth cs e (expect_if o (place x) (walked schema env ds x))
  expected_if cs ds e x o k bars h =
      expect_if_true schema env (ps cs e) ds o x (walked schema env ds x) (operand_at cs ds e x k) (borrowed (ps cs e) ds x) bars (up cs ds e x k (walked schema env ds x) h)

  -- what is known behind a test
  known_where : (cs : List Capability) (v : Walked) (a : Typing) → v ≡ Success a → known_after cs v ≡ cs ++ a.caps
  known_where cs v a is = ap (known_after cs) is

  known_failed : (cs : List Capability) (v : Walked) (t : Typed) (fs : List Finding) → v ≡ Fail t fs → known_after cs v ≡ cs
  known_failed cs v t fs is = ap (known_after cs) is

  -- the part behind a test, by what the test comes to
  reached_true : (qs : List Part) (cs : List Capability) (v : Walked) (after : List Capability → Walked) → Each (IsTrueAt schema env qs) (findings_of (after (known_after cs v))) →
      Each (IsTrueAt schema env qs) (findings_of (reached_after v (λ ds. after (cs ++ ds)) (after cs)))
  reached_true qs cs v after h =
      after_true schema env qs cs v (λ ds. after (cs ++ ds)) (after cs) (λ a is. subst (λ ds. Each (IsTrueAt schema env qs) (findings_of (after ds))) (known_where cs v a is) h)
      (λ t fs is. subst (λ ds. Each (IsTrueAt schema env qs) (findings_of (after ds))) (known_failed cs v t fs is) h)

  -- the branches of an `if` whose test is open are both walked
  after_given : (qs : List Part) (u : Walked) (cs : List Capability) (y : Plain) → IsOpen (test_given u).type →
      MayGive schema env qs (known_after cs u) y (type_given (reached_after u (λ ds. walked schema env (cs ++ ds) y) (walked schema env cs y)))
  after_given qs (Fail t fs) cs y h = borrowed qs cs y
  after_given qs (Success a) cs y h = by a.type h
    where
      by : (s : Ty) → IsOpen s → MayGive schema env qs (cs ++ a.caps) y (type_given (unless_false s (walked schema env (cs ++ a.caps) y)))
      by true_type i = absurd i
      by false_type i = absurd i
      by s i = borrowed qs (cs ++ a.caps) y

  besides_given : (qs : List Part) (u : Walked) (cs : List Capability) (z : Plain) → IsOpen (test_given u).type → MayGive schema env qs cs z (type_given (reached_besides u (walked schema env cs z)))
  besides_given qs (Fail t fs) cs z h = borrowed qs cs z
  besides_given qs (Success a) cs z h = by a.type h
    where
      by : (s : Ty) → IsOpen s → MayGive schema env qs cs z (type_given (unless_true s (walked schema env cs z)))
      by true_type i = absurd i
      by false_type i = absurd i
      by s i = borrowed qs cs z

  -- where each element gives a type, these are the types that they give
  each_given : (cs : List Capability) (xs : Trees (Mark (Unit {0}))) (ys : List Typing) → given_by_all (walked_all schema env cs xs) ≡ Some ys → GiveEach schema env cs xs (types_in ys)
  each_given cs no_trees [] h = tt
  each_given cs no_trees (y ∷ ys) h = absurd (cc h)
  each_given cs (tree x xs) ys h = by (given_by (walked schema env cs x)) refl (given_by_all (walked_all schema env cs xs)) (each_given cs xs) h
    where
      by : (o : Option Typing) → given_by (walked schema env cs x) ≡ o → (os : Option (List Typing)) → ((zs : List Typing) → os ≡ Some zs → GiveEach schema env cs xs (types_in zs)) →
          option_and_then (λ a. option_map (λ more. a ∷ more) os) o ≡ Some ys → GiveEach schema env cs (tree x xs) (types_in ys)
      by None e os k i = absurd (cc i)
      by (Some a) e None k i = absurd (cc i)
      by (Some a) e (Some more) k i =
          let same : a ∷ more ≡ ys = cc i in
          subst (λ zs. GiveEach schema env cs (tree x xs) (types_in zs)) same (ap (option_map (λ b. b.type)) e, k more refl)

  -- operands without types are none
  no_operands : (cs : List Capability) (xs : Trees (Mark (Unit {0}))) (ys : List Typing) → given_by_all (walked_all schema env cs xs) ≡ Some ys → types_in ys ≡ [] → xs ≡ no_trees
  no_operands cs no_trees ys h e = refl
  no_operands cs (tree x xs) ys h e = by (given_by (walked schema env cs x)) (given_by_all (walked_all schema env cs xs)) ys h e
    where
      by : (o : Option Typing) (os : Option (List Typing)) (ys : List Typing) → option_and_then (λ a. option_map (λ more. a ∷ more) os) o ≡ Some ys → types_in ys ≡ [] → tree x xs ≡ no_trees
      by None os ys h e = cc
      by (Some a) None ys h e = cc
      by (Some a) (Some more) [] h e = cc
      by (Some a) (Some more) (y ∷ ys) h e = cc

  mutual
    true_of : (cs : List Capability) (e : Plain) → Truth cs e (walked schema env cs e)
    true_of cs (lit l m) = leaf_true schema env _ (lit l) m (type_of_literal schema l)
    true_of cs (var v m) = leaf_true schema env _ (var v) m (type_of_variable schema env v)
    true_of cs (slot i m) = tt
    true_of cs (ite x y z m) =
        let e = ite x y z m in
        let u = tested schema env cs x in
        let ds = known_after cs u in
        let rest = ps ds y ++ ps cs z in
        let in_y = λ (p : Part) (i : Contains (ps ds y) p). second (ps cs x) rest p (first (ps ds y) (ps cs z) p i) in
        let in_z = λ (p : Part) (i : Contains (ps cs z) p). second (ps cs x) rest p (second (ps ds y) (ps cs z) p i) in
        if_parts_true schema env (ps cs e) cs x y z m u (reached_after u (λ ds. walked schema env (cs ++ ds) y) (walked schema env cs y)) (reached_besides u (walked schema env cs z)) (part_in schema env cs e)
        (after_given (ps cs e) u cs y) (besides_given (ps cs e) u cs z)
        (expected cs cs e x a_boolean (first (ps cs x) rest) boolean_bars (true_of cs x))
        (reached_true (ps cs e) cs u (λ ds. walked schema env ds y) (up cs ds e y in_y (walked schema env ds y) (true_of ds y)))
        (besides_true schema env (ps cs e) cs u (walked schema env cs z) (up cs cs e z in_z (walked schema env cs z) (true_of cs z)))
    true_of cs (conj x y m) =
        let e = conj x y m in
        let v = tested schema env cs x in
        let ds = known_after cs v in
        and_sides_true schema env (ps cs e) cs m v (reached_after v (λ ds. tested schema env (cs ++ ds) y) (tested schema env cs y))
        (expected cs cs e x a_boolean (first (ps cs x) (ps ds y)) boolean_bars (true_of cs x))
        (reached_true (ps cs e) cs v (λ ds. tested schema env ds y) (expected cs ds e y a_boolean (second (ps cs x) (ps ds y)) boolean_bars (true_of ds y)))
    true_of cs (disj x y m) =
        let e = disj x y m in
        let v = tested schema env cs x in
        or_sides_true schema env (ps cs e) cs m v (reached_besides v (tested schema env cs y))
        (expected cs cs e x a_boolean (first (ps cs x) (ps cs y)) boolean_bars (true_of cs x))
        (besides_true schema env (ps cs e) cs v (tested schema env cs y) (expected cs cs e y a_boolean (second (ps cs x) (ps cs y)) boolean_bars (true_of cs y)))
    true_of cs (unary o x m) =
        unary_is_true schema env (ps cs (unary o x m)) cs o m (expect (of_unary o) (place x) (walked schema env cs x))
        (expected cs cs (unary o x m) x (of_unary o) (same (ps cs x)) (unary_bars o) (true_of cs x))
    true_of cs (binary o x y m) =
        let e = binary o x y m in
        binary_is_true schema env (ps cs e) cs o (has_cap cs (tag_known x y)) x y m (expect_if (left_of o) (place x) (walked schema env cs x)) (expect_if (right_of o) (place y) (walked schema env cs y)) refl
        (operand_at cs cs e x (first (ps cs x) (ps cs y))) (operand_at cs cs e y (second (ps cs x) (ps cs y))) (part_in schema env cs e)
        (λ t h. expect_if_gives (left_of o) (place x) (walked schema env cs x) t h) (λ t h. expect_if_gives (right_of o) (place y) (walked schema env cs y) t h)
        (expected_if cs cs e x (left_of o) (first (ps cs x) (ps cs y)) (left_bars o) (true_of cs x)) (expected_if cs cs e y (right_of o) (second (ps cs x) (ps cs y)) (right_bars o) (true_of cs y))
    true_of cs (attr x n m) =
        attr_is_true schema env (ps cs (attr x n m)) cs (has_cap cs (attribute_known x n)) x n m (expect (an_owner no_help) (place x) (walked schema env cs x)) refl (part_in schema env cs (attr x n m))
        (λ t h. expect_gives (an_owner no_help) (place x) (walked schema env cs x) t h)
        (expected cs cs (attr x n m) x (an_owner no_help) (same (ps cs x)) (owner_bars no_help) (true_of cs x))
    true_of cs (has x n m) =
        has_is_true schema env (ps cs (has x n m)) cs (has_cap cs (attribute_known x n)) x n m (expect (an_owner contents_help) (place x) (walked schema env cs x))
        (expected cs cs (has x n m) x (an_owner contents_help) (same (ps cs x)) (owner_bars contents_help) (true_of cs x))
    true_of cs (like x p m) =
        like_is_true schema env (ps cs (like x p m)) cs p m (expect (a_string like_help) (place x) (walked schema env cs x))
        (expected cs cs (like x p m) x (a_string like_help) (same (ps cs x)) (string_bars like_help) (true_of cs x))
    true_of cs (is_type x n m) =
        is_is_true schema env (ps cs (is_type x n m)) cs n m (expect (an_entity test_help) (place x) (walked schema env cs x))
        (expected cs cs (is_type x n m) x (an_entity test_help) (same (ps cs x)) (entity_bars test_help) (true_of cs x))
    true_of cs (call f xs m) =
        let e = call f xs m in
        let within = below cs e (all cs xs) (same (all cs xs)) in
        call_is_true schema env (ps cs e) cs f (function_of f) xs m (walked_all schema env cs xs) refl (part_in schema env cs e) within (all_given (ps cs e) cs xs)
        (wider schema env (all cs xs) (ps cs e) within (findings_of_all (walked_all schema env cs xs)) (true_of_all cs xs))
    true_of cs (set xs m) =
        let e = set xs m in
        set_is_true schema env (ps cs e) cs xs m (walked_all schema env cs xs) (part_in schema env cs e) (no_operands cs xs) (each_given cs xs)
        (wider schema env (all cs xs) (ps cs e) (below cs e (all cs xs) (same (all cs xs))) (findings_of_all (walked_all schema env cs xs)) (true_of_all cs xs))
    true_of cs (rec xs m) =
        let e = rec xs m in
        let qs = named_parts schema env cs xs in
        record_is_true schema env (ps cs e) cs m (walked_named schema env cs xs)
        (wider schema env qs (ps cs e) (below cs e qs (same qs)) (findings_of_all (parts_of (walked_named schema env cs xs))) (true_of_named cs xs))

    true_of_all : (cs : List Capability) (xs : Trees (Mark (Unit {0}))) → Each (IsTrueAt schema env (all cs xs)) (findings_of_all (walked_all schema env cs xs))
    true_of_all cs no_trees = tt
    true_of_all cs (tree x xs) =
        each_both (IsTrueAt schema env (all cs (tree x xs))) (findings_of (walked schema env cs x)) (findings_of_all (walked_all schema env cs xs))
        (wider schema env (ps cs x) (all cs (tree x xs)) (first (ps cs x) (all cs xs)) (findings_of (walked schema env cs x)) (true_of cs x))
        (wider schema env (all cs xs) (all cs (tree x xs)) (second (ps cs x) (all cs xs)) (findings_of_all (walked_all schema env cs xs)) (true_of_all cs xs))

    true_of_named : (cs : List Capability) (xs : Named (Mark (Unit {0}))) → Each (IsTrueAt schema env (named_parts schema env cs xs)) (findings_of_all (parts_of (walked_named schema env cs xs)))
    true_of_named cs no_named = tt
    true_of_named cs (named k x xs) =
        let qs = named_parts schema env cs xs in
        each_both (IsTrueAt schema env (ps cs x ++ qs)) (findings_of (walked schema env cs x)) (findings_of_all (parts_of (walked_named schema env cs xs)))
        (wider schema env (ps cs x) (ps cs x ++ qs) (first (ps cs x) qs) (findings_of (walked schema env cs x)) (true_of cs x))
        (wider schema env qs (ps cs x ++ qs) (second (ps cs x) qs) (findings_of_all (parts_of (walked_named schema env cs xs))) (true_of_named cs xs))

pub findings_true : FindingsAreTrue
findings_true schema env cs e = All-from_recursion (IsTrueAt schema env (parts schema env cs e)) (findings_of (walked schema env cs e)) (true_of schema env cs e)
