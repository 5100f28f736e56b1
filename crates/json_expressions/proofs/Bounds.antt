-- What is read of expressions that may be nested too deep is what reading them at any depth gives, bounded.
use Rattle.std.proofs.Common.{◌≡◌, ℕ, ◌<◌, ◌↔◌, List, [], ◌∷◌, fold, max, map, Bool, true, false, Option, Some, None, option_map, Result, Ok, Err, IfOk, arith, refl, sym, ap, ◌∙◌}
use Rattle.std.specs.Prelude.{nat_lt, option_and_then, if◌then◌else◌}
use Rattle.std.proofs.lemmas.Bool.Decides.{nat_tests}
use Rattle.policy_expressions.specs.Tree.{Mark, lit, var, slot, ite, conj, disj, unary, binary, attr, has, like, is_type, call, set, rec, depth_of, deepest, deepest_named, trees_of, named_of, with_mark}
use Rattle.policy_expressions.specs.declared.expr.BuildError.{BuildError}
use Rattle.policy_expressions.specs.declared.expr.BuildError.TheVariants as build
use Rattle.policy_expressions.specs.declared.kinds.Loc.{Loc}
use Rattle.policy_expressions.specs.declared.kinds.PatternElem.{PatternElem}
use Rattle.policy_expressions.specs.declared.kinds.UnaryOp.{UnaryOp}
use Rattle.json_expressions.specs.Nesting.{within, all_within, fields_within}
use Rattle.json_expressions.specs.Forms.{Plain, binary_tree, call_tree, chained, else_of, folded, get_tree, has_tree, if_tree, in_turn, join_tree, like_tree, listed_tree, of_one, paired, placed, record_tree, set_tree, type_test_tree, unary_tree}
use Rattle.json_expressions.specs.Reads.{Read, bounded, bounded_field, build_of, listed_read, on_all, on_name, on_one, on_three, on_two, placed_read}
use Rattle.json_expressions.specs.Exprs.{named_tree}
use Rattle.json_values.specs.Lists.{with_first, with_field}
use Rattle.json_expressions.specs.declared.nesting.Bounded.TheVariants.{Within, Nested}
use Rattle.json_expressions.specs.declared.forms.Junction.{Junction}
use Rattle.json_expressions.specs.declared.forms.Junction.TheVariants.{All, Any}
use Rattle.json_expressions.specs.declared.forms.ListForm.{ListForm}
use Rattle.json_expressions.specs.declared.forms.ListForm.TheVariants as listed

-- ---- builders

chosen : (r : Read) (t : Plain) (built : Result Plain BuildError) (b : Bool) → nat_lt 400 (depth_of t) ≡ b → built ≡ build_of r → IfOk built (λ e. e ≡ t)
    → ((built ≡ Err build.Nested) ↔ (400 < depth_of t)) → r ≡ (if b then Nested else Within t)
chosen (Within x) t (Ok e) true test is ok nested = absurd (cc (nested.1 (grind (arith, nat_tests))))
chosen (Within x) t (Ok e) false test is ok nested = cc
chosen (Within x) t (Err e) b test is ok nested = cc
chosen Nested t (Ok e) b test is ok nested = cc
chosen Nested t (Err e) true test is ok nested = refl
chosen Nested t (Err e) false test is ok nested = let deep = nested.0 is in grind (arith, nat_tests)

-- what a builder of the expression gives is the expression, unless it is nested too deep
pub settled : (r : Read) (t : Plain) (built : Result Plain BuildError) → built ≡ build_of r → IfOk built (λ e. e ≡ t) → ((built ≡ Err build.Nested) ↔ (400 < depth_of t)) → r ≡ bounded t
settled r t built is ok nested = chosen r t built (nat_lt 400 (depth_of t)) refl is ok nested

too_deep : (t : Plain) → 400 < depth_of t → Nested ≡ bounded t
too_deep t h = by_test (nat_lt 400 (depth_of t)) refl
  where
    by_test : (b : Bool) → nat_lt 400 (depth_of t) ≡ b → Nested ≡ (if b then Nested else Within t)
    by_test true e = refl
    by_test false e = grind (arith, nat_tests)

-- ---- one, two and three operands

one_by : (f : Plain → Plain) (x : Plain) → depth_of x < depth_of (f x) → (b : Bool) → nat_lt 400 (depth_of x) ≡ b → on_one f (if b then Nested else Within x) ≡ bounded (f x)
one_by f x deeper true e = too_deep (f x) (grind (arith, nat_tests))
one_by f x deeper false e = refl

one_read : (f : Plain → Plain) (x : Plain) → depth_of x < depth_of (f x) → on_one f (bounded x) ≡ bounded (f x)
one_read f x deeper = one_by f x deeper (nat_lt 400 (depth_of x)) refl

two_by : (f : Plain → Plain → Plain) (x y : Plain) → depth_of x < depth_of (f x y) → depth_of y < depth_of (f x y) → (b c : Bool) → nat_lt 400 (depth_of x) ≡ b → nat_lt 400 (depth_of y) ≡ c
    → on_two f (if b then Nested else Within x) (if c then Nested else Within y) ≡ bounded (f x y)
two_by f x y left right true c e g = too_deep (f x y) (grind (arith, nat_tests))
two_by f x y left right false true e g = too_deep (f x y) (grind (arith, nat_tests))
two_by f x y left right false false e g = refl

two_read : (f : Plain → Plain → Plain) (x y : Plain) → depth_of x < depth_of (f x y) → depth_of y < depth_of (f x y) → on_two f (bounded x) (bounded y) ≡ bounded (f x y)
two_read f x y left right = two_by f x y left right (nat_lt 400 (depth_of x)) (nat_lt 400 (depth_of y)) refl refl

-- two that were read, joined, are what is read of both
pub join_read : (j : Junction) (x y : Plain) → on_two (join_tree j) (bounded x) (bounded y) ≡ bounded (join_tree j x y)
join_read All x y = two_read (join_tree All) x y (omega arith) (omega arith)
join_read Any x y = two_read (join_tree Any) x y (omega arith) (omega arith)

if_by : (x y z : Plain) (b : Bool) → nat_lt 400 (depth_of x) ≡ b → on_three if_tree (if b then Nested else Within x) (bounded y) (bounded z) ≡ bounded (if_tree x y z)
if_by x y z true e = too_deep (if_tree x y z) (grind (arith, nat_tests))
if_by x y z false e = two_read (if_tree x) y z (omega arith) (omega arith)

if_read : (x y z : Plain) → on_three if_tree (bounded x) (bounded y) (bounded z) ≡ bounded (if_tree x y z)
if_read x y z = if_by x y z (nat_lt 400 (depth_of x)) refl

-- ---- lists of operands

module _ {A B : Type 0} (h : A → B) where
  fold_read : (f : A → A → A) (g : B → B → B) → ((x y : A) → g (h x) (h y) ≡ h (f x y)) → (x : A) (xs : List A) → fold g (h x) (map h xs) ≡ h (fold f x xs)
  fold_read f g e x [] = refl
  fold_read f g e x (y ∷ ys) = ap (λ z. fold g z (map h ys)) (e x y) ∙ fold_read f g e (f x y) ys

  folded_read : (f : A → A → A) (g : B → B → B) → ((x y : A) → g (h x) (h y) ≡ h (f x y)) → (xs : List A) → folded g (map h xs) ≡ option_map h (folded f xs)
  folded_read f g e [] = refl
  folded_read f g e (x ∷ xs) = ap Some (fold_read f g e x xs)

  one_more_branch : (f : A → A → A → A) (g : B → B → B → B) → ((x y z : A) → g (h x) (h y) (h z) ≡ h (f x y z)) → (x y : A) (o : Option A) → option_map (g (h x) (h y)) (option_map h o) ≡ option_map h (option_map (f x y) o)
  one_more_branch f g e x y None = refl
  one_more_branch f g e x y (Some z) = ap Some (e x y z)

  else_read : (f : A → A → A → A) (g : B → B → B → B) → ((x y z : A) → g (h x) (h y) (h z) ≡ h (f x y z)) → (xs : List A) → else_of g (map h xs) ≡ option_map h (else_of f xs)
  else_read f g e [] = refl
  else_read f g e (x ∷ []) = refl
  else_read f g e (x ∷ y ∷ zs) = ap (option_map (g (h x) (h y))) (else_read f g e zs) ∙ one_more_branch f g e x y (else_of f zs)

  chained_read : (f : A → A → A → A) (g : B → B → B → B) → ((x y z : A) → g (h x) (h y) (h z) ≡ h (f x y z)) → (xs : List A) → chained g (map h xs) ≡ option_map h (chained f xs)
  chained_read f g e [] = refl
  chained_read f g e (x ∷ []) = refl
  chained_read f g e (x ∷ y ∷ zs) = else_read f g e (x ∷ y ∷ zs)

  paired_read : (f : A → A → A) (g : B → B → B) → ((x y : A) → g (h x) (h y) ≡ h (f x y)) → (xs : List A) → paired g (map h xs) ≡ option_map h (paired f xs)
  paired_read f g e [] = refl
  paired_read f g e (x ∷ []) = refl
  paired_read f g e (x ∷ y ∷ []) = ap Some (e x y)
  paired_read f g e (x ∷ y ∷ z ∷ zs) = refl

listed_is : (form : ListForm) (xs : List Plain) → listed_read form (map bounded xs) ≡ option_map bounded (listed_tree form xs)
listed_is (listed.Fold j) xs = folded_read bounded (join_tree j) (on_two (join_tree j)) (join_read j) xs
listed_is listed.If xs = chained_read bounded if_tree (on_three if_tree) if_read xs
listed_is (listed.Binary op) xs = paired_read bounded (binary_tree op) (on_two (binary_tree op)) (λ x y. two_read (binary_tree op) x y (omega arith) (omega arith)) xs

-- what is made of the operands that were read is what is read of what is made of them
pub listed_reads : (form : ListForm) (os : Option (List Plain)) → option_and_then (listed_read form) (option_map (map bounded) os) ≡ option_map bounded (option_and_then (listed_tree form) os)
listed_reads form None = refl
listed_reads form (Some xs) = listed_is form xs

one_reads : (f : Plain → Plain) → ((x : Plain) → depth_of x < depth_of (f x)) → (o : Option Plain) → option_map (on_one f) (option_map bounded o) ≡ option_map bounded (option_map f o)
one_reads f deeper None = refl
one_reads f deeper (Some x) = ap Some (one_read f x (deeper x))

pub like_reads : (p : List PatternElem) (o : Option Plain) → option_map (on_one (like_tree p)) (option_map bounded o) ≡ option_map bounded (option_map (like_tree p) o)
like_reads p o = one_reads (like_tree p) (λ x. omega arith) o

pub type_test_reads : (t : List ℕ) (o : Option Plain) → option_map (on_one (type_test_tree t)) (option_map bounded o) ≡ option_map bounded (option_map (type_test_tree t) o)
type_test_reads t o = one_reads (type_test_tree t) (λ x. omega arith) o

pub unary_reads : (op : UnaryOp) (o : Option Plain) → option_map (on_one (unary_tree op)) (option_map bounded o) ≡ option_map bounded (option_map (unary_tree op) o)
unary_reads op o = one_reads (unary_tree op) (λ x. omega arith) o

-- ---- names behind an operand

named_read : (f : Plain → List ℕ → Plain) → ((x : Plain) (n : List ℕ) → depth_of x < depth_of (f x n)) → (x : Plain) (names : List (List ℕ)) → fold (on_name f) (bounded x) names ≡ bounded (fold f x names)
named_read f deeper x [] = refl
named_read f deeper x (n ∷ ns) = ap (λ r. fold (on_name f) r ns) (one_read (λ y. f y n) x (deeper x n)) ∙ named_read f deeper (f x n) ns

get_is : (x : Plain) (names : List (List ℕ)) → in_turn (on_name get_tree) names (bounded x) ≡ option_map bounded (in_turn get_tree names x)
get_is x [] = refl
get_is x (n ∷ ns) = ap Some (named_read get_tree (λ y m. omega arith) x (n ∷ ns))

pub get_reads : (names : List (List ℕ)) (o : Option Plain) → option_and_then (in_turn (on_name get_tree) names) (option_map bounded o) ≡ option_map bounded (named_tree (Some names) (in_turn get_tree) o)
get_reads names None = refl
get_reads names (Some x) = get_is x names

has_is : (x : Plain) (names : List (List ℕ)) → of_one (on_name has_tree) names (bounded x) ≡ option_map bounded (of_one has_tree names x)
has_is x [] = refl
has_is x (n ∷ []) = ap Some (one_read (λ y. has_tree y n) x (omega arith))
has_is x (n ∷ m ∷ ns) = refl

pub has_reads : (names : List (List ℕ)) (o : Option Plain) → option_and_then (of_one (on_name has_tree) names) (option_map bounded o) ≡ option_map bounded (named_tree (Some names) (of_one has_tree) o)
has_reads names None = refl
has_reads names (Some x) = has_is x names

-- ---- sets and records

all_by : (x : Plain) (xs : List Plain) (b c : Bool) → nat_lt 400 (depth_of x) ≡ b → nat_lt 400 (deepest (trees_of xs)) ≡ c
    → with_first (within (if b then Nested else Within x)) (if c then None else Some xs) ≡ (if nat_lt 400 (max (depth_of x) (deepest (trees_of xs))) then None else Some (x ∷ xs))
all_by x xs b c e f = by_test b c (nat_lt 400 (max (depth_of x) (deepest (trees_of xs)))) e f refl
  where
    by_test : (b c d : Bool) → nat_lt 400 (depth_of x) ≡ b → nat_lt 400 (deepest (trees_of xs)) ≡ c → nat_lt 400 (max (depth_of x) (deepest (trees_of xs))) ≡ d
        → with_first (within (if b then Nested else Within x)) (if c then None else Some xs) ≡ (if d then None else Some (x ∷ xs))
    by_test true c true e f g = refl
    by_test true c false e f g = grind (arith, nat_tests)
    by_test false true true e f g = refl
    by_test false true false e f g = grind (arith, nat_tests)
    by_test false false true e f g = grind (arith, nat_tests)
    by_test false false false e f g = refl

all_read : (xs : List Plain) → all_within (map bounded xs) ≡ (if nat_lt 400 (deepest (trees_of xs)) then None else Some xs)
all_read [] = refl
all_read (x ∷ xs) = ap (with_first (within (bounded x))) (all_read xs) ∙ all_by x xs (nat_lt 400 (depth_of x)) (nat_lt 400 (deepest (trees_of xs))) refl refl

module _ (f : List Plain → Plain) (deeper : (xs : List Plain) → deepest (trees_of xs) < depth_of (f xs)) where
  all_by_test : (xs : List Plain) (b : Bool) → nat_lt 400 (deepest (trees_of xs)) ≡ b → on_all f (if b then None else Some xs) ≡ bounded (f xs)
  all_by_test xs true e = let d = deeper xs in too_deep (f xs) (grind (arith, nat_tests))
  all_by_test xs false e = refl

  all_reads : (os : Option (List Plain)) → option_map (λ rs. on_all f (all_within rs)) (option_map (map bounded) os) ≡ option_map bounded (option_map f os)
  all_reads None = refl
  all_reads (Some xs) = ap Some (ap (on_all f) (all_read xs) ∙ all_by_test xs (nat_lt 400 (deepest (trees_of xs))) refl)

pub set_reads : (os : Option (List Plain)) → option_map (λ rs. on_all set_tree (all_within rs)) (option_map (map bounded) os) ≡ option_map bounded (option_map set_tree os)
set_reads os = all_reads set_tree (λ xs. omega arith) os

pub call_reads : (name : List ℕ) (os : Option (List Plain)) → option_map (λ rs. on_all (call_tree name) (all_within rs)) (option_map (map bounded) os) ≡ option_map bounded (option_map (call_tree name) os)
call_reads name os = all_reads (call_tree name) (λ xs. omega arith) os

fields_by : (k : List ℕ) (x : Plain) (es : List (List ℕ × Plain)) (b c d : Bool) → nat_lt 400 (depth_of x) ≡ b → nat_lt 400 (deepest_named (named_of es)) ≡ c → nat_lt 400 (max (depth_of x) (deepest_named (named_of es))) ≡ d
    → with_field k (within (if b then Nested else Within x)) (if c then None else Some es) ≡ (if d then None else Some ((k, x) ∷ es))
fields_by k x es true c true e f g = refl
fields_by k x es true c false e f g = grind (arith, nat_tests)
fields_by k x es false true true e f g = refl
fields_by k x es false true false e f g = grind (arith, nat_tests)
fields_by k x es false false true e f g = grind (arith, nat_tests)
fields_by k x es false false false e f g = refl

fields_read : (es : List (List ℕ × Plain)) → fields_within (map bounded_field es) ≡ (if nat_lt 400 (deepest_named (named_of es)) then None else Some es)
fields_read [] = refl
fields_read (e ∷ es) = ap (with_field e.0 (within (bounded e.1))) (fields_read es) ∙ fields_by e.0 e.1 es (nat_lt 400 (depth_of e.1)) (nat_lt 400 (deepest_named (named_of es))) _ refl refl refl

record_by : (es : List (List ℕ × Plain)) (b : Bool) → nat_lt 400 (deepest_named (named_of es)) ≡ b → on_all record_tree (if b then None else Some es) ≡ bounded (record_tree es)
record_by es true e = too_deep (record_tree es) (grind (arith, nat_tests))
record_by es false e = refl

pub record_reads : (os : Option (List (List ℕ × Plain))) → option_map (λ rs. on_all record_tree (fields_within rs)) (option_map (map bounded_field) os) ≡ option_map bounded (option_map record_tree os)
record_reads None = refl
record_reads (Some es) = ap Some (ap (on_all record_tree) (fields_read es) ∙ record_by es (nat_lt 400 (deepest_named (named_of es))) refl)

-- ---- places

depth_of-with_mark : (x : Plain) (m : Mark (Unit {0})) → depth_of (with_mark x m) ≡ depth_of x
depth_of-with_mark (lit l a) m = refl
depth_of-with_mark (var v a) m = refl
depth_of-with_mark (slot i a) m = refl
depth_of-with_mark (ite x y z a) m = refl
depth_of-with_mark (conj x y a) m = refl
depth_of-with_mark (disj x y a) m = refl
depth_of-with_mark (unary o x a) m = refl
depth_of-with_mark (binary o x y a) m = refl
depth_of-with_mark (attr x n a) m = refl
depth_of-with_mark (has x n a) m = refl
depth_of-with_mark (like x p a) m = refl
depth_of-with_mark (is_type x t a) m = refl
depth_of-with_mark (call f xs a) m = refl
depth_of-with_mark (set xs a) m = refl
depth_of-with_mark (rec xs a) m = refl

placed_by : (l : Loc) (x : Plain) (b : Bool) → placed_read l (if b then Nested else Within x) ≡ (if b then Nested else Within (placed l x))
placed_by l x true = refl
placed_by l x false = refl

placed_is : (l : Loc) (x : Plain) → placed_read l (bounded x) ≡ bounded (placed l x)
placed_is l x = placed_by l x (nat_lt 400 (depth_of x)) ∙ ap (λ n. if nat_lt 400 n then Nested else Within (placed l x)) (sym (depth_of-with_mark x (record { note = tt; loc = Some l })))

pub placed_reads : (l : Loc) (o : Option Plain) → option_map (placed_read l) (option_map bounded o) ≡ option_map bounded (option_map (placed l) o)
placed_reads l None = refl
placed_reads l (Some x) = ap Some (placed_is l x)
