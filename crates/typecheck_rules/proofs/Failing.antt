-- Each operator that has no type comes to a finding, where its operands do.
use Rattle.std.proofs.Common.{◌≡◌, sym, ap, subst, true≢false, ℕ, Bool, true, false, ◌&&◌, List, [], ◌∷◌, ◌++◌, Option, Some, None, Result, Ok, Err, map, option_map, refl, ◌⊎◌, inl, inr}
use Rattle.std.specs.Bool.{⊤}
use Rattle.std.specs.List.{list_all}
use Rattle.std.specs.Option.{option_and_then, option_map_or}
use Rattle.std.specs.Result.{result_ok}
use Rattle.schema_types.specs.declared.kinds.Primitive.TheVariants.{Bool as BoolType, Long, String}
use Rattle.schema_types.specs.declared.kinds.LubHelp.{LubHelp}
use Rattle.schema_types.specs.Ty.{Ty, true_type, false_type, primitive}
use Rattle.schema_core.specs.Schema.{SchemaData}
use Rattle.schema_core.specs.EnvData.{EnvData}
use Rattle.type_relations.specs.declared.mode.SubtypeMode.TheVariants.{Strict}
use Rattle.type_relations.specs.Join.{join, join_all}
use Rattle.policy_expressions.specs.declared.kinds.Loc.{Loc}
use Rattle.policy_expressions.specs.declared.kinds.PatternElem.{PatternElem}
use Rattle.policy_expressions.specs.declared.kinds.UnaryOp.{UnaryOp}
use Rattle.policy_expressions.specs.declared.kinds.BinaryOp.{BinaryOp}
use Rattle.policy_expressions.specs.Tree.{set, rec, named_of, Mark}
use Rattle.policy_expressions.specs.Plain.{Plain}
use Rattle.typing_spec.specs.Capability.{Capability}
use Rattle.typing_spec.specs.Rules as rule
use Rattle.typing_spec.specs.Rules.{attribute_of}
use Rattle.typing_spec.specs.Typing.{Typed, Typing, typing, types_in}
use Rattle.findings.specs.declared.helps.LubContext.TheVariants as context
use Rattle.findings.specs.Finding.{Finding}
use Rattle.findings.specs.Access.{attribute_access}
use Rattle.typing_spec.specs.Operands.{is_boolean}
use Rattle.typecheck_rules.specs.Expected.{a_boolean, a_string, an_entity, an_owner, no_help, like_help, test_help, contents_help, of_unary, left_of, right_of}
use Rattle.typecheck_rules.specs.Walked.{Walked, Success, Fail, tree_of, lends, trees_walked, has_typing, given_by, given_by_all, expect, expect_if, ended, findings_of_all}
use Rattle.typecheck_rules.specs.Own.{incompatible, set_found}
use Rattle.typecheck_rules.specs.Operators.{place, unless_false, unless_true, unary_fitting, unary_walked, like_fitting, like_walked, is_fitting, is_walked, has_fitting, has_walked, attr_found, attr_fitting, attr_walked, binary_fitting, binary_walked, and_sides, and_walked, or_sides, or_walked, if_parts, if_walked, set_typing, set_walked, Fields, parts_of, given_fields, record_typing, record_walked}
use Rattle.typecheck_rules.proofs.Lists.{AllTyped, SomeFails, typed_or_not}
use Rattle.typecheck_rules.proofs.Found.{NonEmpty, prefix, HasFinding, Holds, Found, found_mapped, ended_full, ended_found, Fitted, fitted, fitted_if, unary_gives, like_gives, is_gives, has_gives, attr_gives, binary_gives, is_reached, is_besides, and_gives, or_gives, joined}

-- operators of one operand
unary_fits : (o : UnaryOp) (m : Mark (Unit {0})) (v : Walked) → Fitted (Some (of_unary o)) v → HasFinding (unary_fitting o m v)
unary_fits o m (Success a) h = ended_found _ _ [] (found_mapped _ (rule.unary_type o a.type) [] (unary_gives o a.type [] h))
unary_fits o m (Fail t fs) h = ended_full false _ _ (fs ++ []) (prefix fs [] h)

pub unary_reported : (o : UnaryOp) (m : Mark (Unit {0})) (l : Option Loc) (v : Walked) → HasFinding v → HasFinding (unary_walked o m l v)
unary_reported o m l v h = unary_fits o m (expect (of_unary o) l v) (fitted (of_unary o) l v h)

like_fits : (p : List PatternElem) (m : Mark (Unit {0})) (v : Walked) → Fitted (Some (a_string like_help)) v → HasFinding (like_fitting p m v)
like_fits p m (Success a) h = ended_found _ _ [] (found_mapped _ (rule.like_type a.type) [] (like_gives a.type [] h))
like_fits p m (Fail t fs) h = ended_full false _ _ (fs ++ []) (prefix fs [] h)

pub like_reported : (p : List PatternElem) (m : Mark (Unit {0})) (l : Option Loc) (v : Walked) → HasFinding v → HasFinding (like_walked p m l v)
like_reported p m l v h = like_fits p m (expect (a_string like_help) l v) (fitted (a_string like_help) l v h)

is_fits : (n : List ℕ) (m : Mark (Unit {0})) (v : Walked) → Fitted (Some (an_entity test_help)) v → HasFinding (is_fitting n m v)
is_fits n m (Success a) h = ended_found _ _ [] (found_mapped _ (rule.is_type a.type n) [] (is_gives n a.type [] h))
is_fits n m (Fail t fs) h = ended_full false _ _ (fs ++ []) (prefix fs [] h)

pub is_reported : (n : List ℕ) (m : Mark (Unit {0})) (l : Option Loc) (v : Walked) → HasFinding v → HasFinding (is_walked n m l v)
is_reported n m l v h = is_fits n m (expect (an_entity test_help) l v) (fitted (an_entity test_help) l v h)

module _ (schema : SchemaData) where
  has_fits : (known : Bool) (x : Plain) (n : List ℕ) (m : Mark (Unit {0})) (v : Walked) → Fitted (Some (an_owner contents_help)) v → HasFinding (has_fitting schema known x n m v)
  has_fits known x n m (Success a) h = ended_found _ _ [] (found_mapped _ (rule.has_type schema known a.type n) [] (has_gives schema known n a.type [] h))
  has_fits known x n m (Fail t fs) h = ended_full false _ _ (fs ++ []) (prefix fs [] h)

  pub has_reported : (known : Bool) (x : Plain) (n : List ℕ) (m : Mark (Unit {0})) (v : Walked) → HasFinding v → HasFinding (has_walked schema known x n m v)
  has_reported known x n m v h = has_fits known x n m (expect (an_owner contents_help) (place x) v) (fitted (an_owner contents_help) (place x) v h)

  module _ (env : EnvData) where
    attr_fits : (known : Bool) (n : List ℕ) (m : Mark (Unit {0})) (v : Walked) → Fitted (Some (an_owner no_help)) v → HasFinding (attr_fitting schema env known n m v)
    attr_fits known n m (Success a) h =
        ended_found _ _ (attr_found schema env known n m a)
        (found_mapped _ (rule.attr_type schema known a.type n) (attr_found schema env known n m a) (attr_gives schema known n m.loc (attribute_access env a.tree n) a.type (attribute_of schema a.type n)))
    attr_fits known n m (Fail t fs) h = ended_full false _ _ _ (prefix fs _ h)

    pub attr_reported : (known : Bool) (n : List ℕ) (m : Mark (Unit {0})) (l : Option Loc) (v : Walked) → HasFinding v → HasFinding (attr_walked schema env known n m l v)
    attr_reported known n m l v h = attr_fits known n m (expect (an_owner no_help) l v) (fitted (an_owner no_help) l v h)

    -- of two
    binary_fits : (o : BinaryOp) (known : Bool) (x y : Plain) (m : Mark (Unit {0})) (v w : Walked) → Fitted (left_of o) v → Fitted (right_of o) w → HasFinding (binary_fitting schema env o known x y m v w)
    binary_fits o known x y m (Success a) (Success b) h k =
        ended_found _ _ _ (found_mapped _ (rule.binary_type schema env o known x y a.type b.type) _ (binary_gives schema env o known x y (place x) (place y) m.loc a.type b.type h k))
    binary_fits o known x y m (Success a) (Fail u gs) h k = ended_full false _ _ _ (prefix gs _ k)
    binary_fits o known x y m (Fail t fs) w h k = ended_full false _ _ _ (prefix fs _ h)

    pub binary_reported : (o : BinaryOp) (known : Bool) (x y : Plain) (m : Mark (Unit {0})) (v w : Walked) → HasFinding v → HasFinding w → HasFinding (binary_walked schema env o known x y m v w)
    binary_reported o known x y m v w h k = binary_fits o known x y m (expect_if (left_of o) (place x) v) (expect_if (right_of o) (place y) w) (fitted_if (left_of o) (place x) v h) (fitted_if (right_of o) (place y) w k)

-- `&&`
and_right_fits : (m : Mark (Unit {0})) (t : Ty) (cs : List Capability) (x : Typed) (w : Walked) → Holds (is_reached t) → Fitted (Some a_boolean) w → HasFinding (and_sides m (Success (typing t cs x)) w)
and_right_fits m true_type cs x (Success b) h k = ended_found _ _ [] (found_mapped _ (rule.and_type true_type b.type) [] (and_gives true_type b.type [] h k))
and_right_fits m (primitive BoolType) cs x (Success b) h k = ended_found _ _ [] (found_mapped _ (rule.and_type (primitive BoolType) b.type) [] (and_gives (primitive BoolType) b.type [] h k))
and_right_fits m true_type cs x (Fail u gs) h k = ended_full false _ _ gs k
and_right_fits m (primitive BoolType) cs x (Fail u gs) h k = ended_full false _ _ gs k
and_right_fits m (primitive Long) cs x w h k = absurd h
and_right_fits m (primitive String) cs x w h k = absurd h
and_right_fits m _ cs x w h k = absurd h

and_fits : (m : Mark (Unit {0})) (r : Option Loc) (t : Ty) (cs : List Capability) (x : Typed) (after : Walked) → Holds (is_boolean t) → HasFinding after →
    HasFinding (and_sides m (Success (typing t cs x)) (unless_false t (expect a_boolean r after)))
and_fits m r false_type cs x after h k = tt
and_fits m r true_type cs x after h k = and_right_fits m true_type cs x (expect a_boolean r after) tt (fitted a_boolean r after k)
and_fits m r (primitive BoolType) cs x after h k = and_right_fits m (primitive BoolType) cs x (expect a_boolean r after) tt (fitted a_boolean r after k)
and_fits m r (primitive Long) cs x after h k = absurd h
and_fits m r (primitive String) cs x after h k = absurd h
and_fits m r _ cs x after h k = absurd h

and_left_fits : (m : Mark (Unit {0})) (r : Option Loc) (v : Walked) (after : List Capability → Walked) (before : Walked) → Fitted (Some a_boolean) v → ((ds : List Capability) → HasFinding (after ds)) →
    HasFinding (and_walked m r v after before)
and_left_fits m r (Success a) after before h k = and_fits m r a.type a.caps a.tree (after a.caps) h (k a.caps)
and_left_fits m r (Fail t fs) after before h k = ended_full false _ _ _ (prefix fs _ h)

pub and_is_reported : (m : Mark (Unit {0})) (l r : Option Loc) (v : Walked) (after : List Capability → Walked) (before : Walked) → HasFinding v → ((ds : List Capability) → HasFinding (after ds)) →
    HasFinding (and_walked m r (expect a_boolean l v) after before)
and_is_reported m l r v after before h k = and_left_fits m r (expect a_boolean l v) after before (fitted a_boolean l v h) k

-- `||`
or_right_fits : (m : Mark (Unit {0})) (t : Ty) (cs : List Capability) (x : Typed) (w : Walked) → Holds (is_besides t) → Fitted (Some a_boolean) w → HasFinding (or_sides m (Success (typing t cs x)) w)
or_right_fits m false_type cs x (Success b) h k = ended_found _ _ [] (found_mapped _ (rule.or_type false_type b.type) [] (or_gives false_type b.type [] h k))
or_right_fits m (primitive BoolType) cs x (Success b) h k = ended_found _ _ [] (found_mapped _ (rule.or_type (primitive BoolType) b.type) [] (or_gives (primitive BoolType) b.type [] h k))
or_right_fits m false_type cs x (Fail u gs) h k = ended_full false _ _ gs k
or_right_fits m (primitive BoolType) cs x (Fail u gs) h k = ended_full false _ _ gs k
or_right_fits m (primitive Long) cs x w h k = absurd h
or_right_fits m (primitive String) cs x w h k = absurd h
or_right_fits m _ cs x w h k = absurd h

or_fits : (m : Mark (Unit {0})) (r : Option Loc) (t : Ty) (cs : List Capability) (x : Typed) (w : Walked) → Holds (is_boolean t) → HasFinding w →
    HasFinding (or_sides m (Success (typing t cs x)) (unless_true t (expect a_boolean r w)))
or_fits m r true_type cs x w h k = tt
or_fits m r false_type cs x w h k = or_right_fits m false_type cs x (expect a_boolean r w) tt (fitted a_boolean r w k)
or_fits m r (primitive BoolType) cs x w h k = or_right_fits m (primitive BoolType) cs x (expect a_boolean r w) tt (fitted a_boolean r w k)
or_fits m r (primitive Long) cs x w h k = absurd h
or_fits m r (primitive String) cs x w h k = absurd h
or_fits m r _ cs x w h k = absurd h

or_left_fits : (m : Mark (Unit {0})) (r : Option Loc) (v w : Walked) → Fitted (Some a_boolean) v → HasFinding w → HasFinding (or_walked m r v w)
or_left_fits m r (Success a) w h k = or_fits m r a.type a.caps a.tree w h k
or_left_fits m r (Fail t fs) w h k = ended_full false _ _ _ (prefix fs _ h)

pub or_is_reported : (m : Mark (Unit {0})) (l r : Option Loc) (v w : Walked) → HasFinding v → HasFinding w → HasFinding (or_walked m r (expect a_boolean l v) w)
or_is_reported m l r v w h k = or_left_fits m r (expect a_boolean l v) w (fitted a_boolean l v h) k

-- `if`
join_fits : (m : Mark (Unit {0})) (cs : List Capability) (x : Typed) (a b : Typing) (j : Result Ty LubHelp) (make : Ty → Typing) (failed : Typed) →
    HasFinding (ended true (option_map make (result_ok j)) failed ([] ++ ([] ++ ([] ++ incompatible context.Conditional m.loc (a.type ∷ b.type ∷ []) j))))
join_fits m cs x a b (Ok t) make failed = tt
join_fits m cs x a b (Err h) make failed = tt

if_fits : (m : Mark (Unit {0})) (t : Ty) (cs : List Capability) (x : Typed) (v w : Walked) → Holds (is_boolean t) → HasFinding v → HasFinding w →
    HasFinding (if_parts m (Success (typing t cs x)) (unless_false t v) (unless_true t w))
if_fits m true_type cs x (Success a) w h k i = tt
if_fits m true_type cs x (Fail t fs) w h k i = ended_full false _ _ _ (prefix fs _ k)
if_fits m false_type cs x v (Success b) h k i = tt
if_fits m false_type cs x v (Fail u gs) h k i = ended_full false _ _ _ (prefix gs _ i)
if_fits m (primitive BoolType) cs x (Success a) (Success b) h k i = join_fits m cs x a b (join Strict a.type b.type) _ _
if_fits m (primitive BoolType) cs x (Success a) (Fail u gs) h k i = ended_full false _ _ _ (prefix gs _ i)
if_fits m (primitive BoolType) cs x (Fail t fs) w h k i = ended_full false _ _ _ (prefix fs _ k)
if_fits m (primitive Long) cs x v w h k i = absurd h
if_fits m (primitive String) cs x v w h k i = absurd h
if_fits m _ cs x v w h k i = absurd h

if_test_fits : (m : Mark (Unit {0})) (u : Walked) (after : List Capability → Walked) (before w : Walked) → Fitted (Some a_boolean) u → ((ds : List Capability) → HasFinding (after ds)) → HasFinding w →
    HasFinding (if_walked m u after before w)
if_test_fits m (Success a) after before w h k i = if_fits m a.type a.caps a.tree (after a.caps) w h (k a.caps) i
if_test_fits m (Fail t fs) after before w h k i = ended_full false _ _ _ (prefix fs _ h)

pub if_is_reported : (m : Mark (Unit {0})) (l : Option Loc) (u : Walked) (after : List Capability → Walked) (before w : Walked) → HasFinding u → ((ds : List Capability) → HasFinding (after ds)) → HasFinding w →
    HasFinding (if_walked m (expect a_boolean l u) after before w)
if_is_reported m l u after before w h k i = if_test_fits m (expect a_boolean l u) after before w (fitted a_boolean l u h) k i

-- several operands
abbrev pub HaveFindings : List Walked → Type 0
HaveFindings [] = ⊤
HaveFindings (w ∷ ws) = HasFinding w × HaveFindings ws

pub some_found : (ws : List Walked) → HaveFindings ws → list_all has_typing ws ≡ false → NonEmpty (findings_of_all ws)
some_found [] h e = absurd (true≢false e)
some_found (Success a ∷ ws) h e = some_found ws h.1 e
some_found (Fail t fs ∷ ws) h e = prefix fs (findings_of_all ws) h.0

pub all_given : (ts : List Typing) → given_by_all (map Success ts) ≡ Some ts
all_given [] = refl
all_given (a ∷ ts) = ap (option_map (λ xs. a ∷ xs)) (all_given ts)

pub all_typed : (ts : List Typing) → list_all has_typing (map Success ts) ≡ true
all_typed [] = refl
all_typed (a ∷ ts) = all_typed ts

pub none_found : (ts : List Typing) → findings_of_all (map Success ts) ≡ []
none_found [] = refl
none_found (a ∷ ts) = none_found ts

set_gives : (m : Mark (Unit {0})) (ts : List Ty) → Found (rule.set_type ts) (set_found m.loc ts)
set_gives m [] = tt
set_gives m (t ∷ ts) = found_mapped _ (result_ok (join_all Strict (t ∷ ts))) _ (joined context.Set m.loc (t ∷ ts) (join_all Strict (t ∷ ts)))

pub set_reported : (m : Mark (Unit {0})) (ws : List Walked) → HaveFindings ws → HasFinding (set_walked m ws)
set_reported m ws h = by (typed_or_not ws)
  where
    typed : (ts : List Typing) (failed : Typed) → HasFinding (ended true (set_typing m ts) failed ([] ++ set_found m.loc (types_in ts)))
    typed ts failed = ended_found _ failed (set_found m.loc (types_in ts)) (found_mapped _ (rule.set_type (types_in ts)) (set_found m.loc (types_in ts)) (set_gives m (types_in ts)))

    all : (ts : List Typing) (failed : Typed) → HasFinding (ended (list_all has_typing (map Success ts)) (option_and_then (set_typing m) (given_by_all (map Success ts))) failed
        (findings_of_all (map Success ts) ++ option_map_or (λ ys. set_found m.loc (types_in ys)) (given_by_all (map Success ts)) []))
    all ts failed =
        subst (λ b. HasFinding (ended b (option_and_then (set_typing m) (given_by_all (map Success ts))) failed (findings_of_all (map Success ts) ++ option_map_or (λ ys. set_found m.loc (types_in ys)) (given_by_all (map Success ts)) []))) (sym (all_typed ts))
        (subst (λ o. HasFinding (ended true (option_and_then (set_typing m) o) failed (findings_of_all (map Success ts) ++ option_map_or (λ ys. set_found m.loc (types_in ys)) o []))) (sym (all_given ts))
        (subst (λ fs. HasFinding (ended true (set_typing m ts) failed (fs ++ set_found m.loc (types_in ts)))) (sym (none_found ts)) (typed ts failed)))

    by : AllTyped ws ⊎ SomeFails ws → HasFinding (set_walked m ws)
    by (inl k) = subst (λ vs. HasFinding (set_walked m vs)) (sym k.1) (all k.0 (set (trees_walked (map Success k.0)) (lends None m)))
    by (inr k) = ended_full (list_all has_typing ws) _ _ _ (prefix (findings_of_all ws) _ (some_found ws h k.0))

fields_given : (es : Fields) → list_all has_typing (parts_of es) ≡ true → Found (given_fields es) []
fields_given [] e = tt
fields_given (e ∷ es) t = by e.1 t (fields_given es)
  where
    next : (a : Typing) (o : Option (List (List ℕ × Typing))) → Found o [] → Found (option_map (λ ys. (e.0, a) ∷ ys) o) []
    next a None h = h
    next a (Some ys) h = tt

    by : (w : Walked) → (has_typing w && list_all has_typing (parts_of es)) ≡ true → (list_all has_typing (parts_of es) ≡ true → Found (given_fields es) []) →
        Found (option_and_then (λ a. option_map (λ ys. (e.0, a) ∷ ys) (given_fields es)) (given_by w)) []
    by (Success a) d k = next a (given_fields es) (k d)
    by (Fail t fs) d k = absurd (true≢false (sym d))

pub record_reported : (m : Mark (Unit {0})) (es : Fields) → HaveFindings (parts_of es) → HasFinding (record_walked m es)
record_reported m es h = by (list_all has_typing (parts_of es)) refl
  where
    some : (o : Option (List (List ℕ × Typing))) (t : Typed) (fs : List Finding) → Found o [] → HasFinding (ended true (option_map (record_typing m) o) t fs)
    some None t fs k = absurd k
    some (Some ys) t fs k = tt

    by : (b : Bool) → list_all has_typing (parts_of es) ≡ b → HasFinding (record_walked m es)
    by true e = subst (λ b. HasFinding (ended b (option_map (record_typing m) (given_fields es)) (rec (named_of (map (λ e. (e.0, tree_of e.1)) es)) (lends None m)) (findings_of_all (parts_of es)))) (sym e) (some (given_fields es) (rec (named_of (map (λ e. (e.0, tree_of e.1)) es)) (lends None m)) (findings_of_all (parts_of es)) (fields_given es e))
    by false e = ended_full (list_all has_typing (parts_of es)) _ _ (findings_of_all (parts_of es)) (some_found (parts_of es) h e)
