-- Operators of several operands come to what their parts say, and steps of the loops that take operands apart.
use Rattle.std.proofs.Common.{◌≡◌, ℕ, zero, suc, ◌+◌, List, [], ◌∷◌, ◌++◌, Option, Some, None, option_map, map, drop, refl, sym, ap, ◌∙◌, append_assoc, add-one}
use Rattle.std.specs.List.{list_all, slice_get}
use Rattle.std.specs.Option.{option_and_then, option_map_or}
use Rattle.policy_expressions.specs.declared.functions.ExtensionFunction.{ExtensionFunction}
use Rattle.policy_expressions.specs.Plain.{Plain}
use Rattle.policy_expressions.specs.Tree.{set, call, rec, Trees, no_trees, tree, trees_of, Named, named, named_of, Mark, mark_of}
use Rattle.schema_types.specs.Ty.{Ty}
use Rattle.typing_spec.specs.Signatures.{call_type, signature_of}
use Rattle.typing_spec.specs.Typing.{Typing, typing, types_in, trees_in, named_in}
use Rattle.findings.specs.Finding.{Finding}
use Rattle.typecheck_rules.specs.Own.{set_found}
use Rattle.typecheck_rules.specs.Walked.{Walked, Success, Fail, ended, lends, has_typing, given_by_all, trees_walked, findings_of_all}
use Rattle.typecheck_rules.specs.Operators.{Fields, parts_of, given_fields, set_walked, record_walked, call_fitting, arguments_fitting}
use Rattle.typecheck_operators.specs.Parts.{types_given, fields_given, trees_in_fields, argument_walked, set_by, set_in_parts, record_by, record_in_parts, call_by, call_in_parts}

module _ {A B C : Type 0} where
  map_twice : (f : B → C) (g : A → B) (o : Option A) → option_map f (option_map g o) ≡ option_map (λ x. f (g x)) o
  map_twice f g None = refl
  map_twice f g (Some x) = refl

  then_mapped : (f : B → Option C) (g : A → B) (o : Option A) → option_and_then f (option_map g o) ≡ option_and_then (λ x. f (g x)) o
  then_mapped f g None = refl
  then_mapped f g (Some x) = refl

  or_mapped : (f : B → C) (g : A → B) (d : C) (o : Option A) → option_map_or f (option_map g o) d ≡ option_map_or (λ x. f (g x)) o d
  or_mapped f g d None = refl
  or_mapped f g d (Some x) = refl

  mapped_then : (f : B → C) (g : A → Option B) (o : Option A) → option_map f (option_and_then g o) ≡ option_and_then (λ x. option_map f (g x)) o
  mapped_then f g None = refl
  mapped_then f g (Some x) = refl

-- one more operand that gives a typing
module _ {B : Type 0} (k : List Ty → Trees (Mark (Option Ty)) → B) (a : Typing) (ws : List Walked) where
  one_more : option_map (λ ys. k (a.type ∷ types_in ys) (tree a.tree (trees_in ys))) (given_by_all ws) ≡ option_map (λ ts. k (a.type ∷ ts) (tree a.tree (trees_walked ws))) (types_given ws)
      → option_map (λ ys. k (types_in ys) (trees_in ys)) (option_map (λ ys. a ∷ ys) (given_by_all ws)) ≡ option_map (λ ts. k ts (tree a.tree (trees_walked ws))) (option_map (λ ts. a.type ∷ ts) (types_given ws))
  one_more ih =
      map_twice (λ ys. k (types_in ys) (trees_in ys)) (λ ys. a ∷ ys) (given_by_all ws) ∙ ih
      ∙ sym (map_twice (λ ts. k ts (tree a.tree (trees_walked ws))) (λ ts. a.type ∷ ts) (types_given ws))

-- what operands give, by their types and their expressions
all_given : {B : Type 0} → (k : List Ty → Trees (Mark (Option Ty)) → B) (ws : List Walked)
    → option_map (λ ys. k (types_in ys) (trees_in ys)) (given_by_all ws) ≡ option_map (λ ts. k ts (trees_walked ws)) (types_given ws)
all_given k [] = refl
all_given k (Success a ∷ ws) = one_more k a ws (all_given (λ ts xs. k (a.type ∷ ts) (tree a.tree xs)) ws)
all_given {B} k (Fail t fs ∷ ws) = by (mark_of t).note (λ u. all_given (λ ts xs. k (u ∷ ts) (tree t xs)) ws)
  where
    by : (o : Option Ty)
        → ((u : Ty) → option_map (λ ys. k (u ∷ types_in ys) (tree t (trees_in ys))) (given_by_all ws) ≡ option_map (λ ts. k (u ∷ ts) (tree t (trees_walked ws))) (types_given ws))
        → option_map (λ ys. k (types_in ys) (trees_in ys)) (option_and_then (λ x. option_map (λ xs. x ∷ xs) (given_by_all ws)) (option_map (λ u. typing u [] t) o))
        ≡ option_map (λ ts. k ts (tree t (trees_walked ws))) (option_and_then (λ x. option_map (λ xs. x ∷ xs) (types_given ws)) (option_map (λ a. a.type) (option_map (λ u. typing u [] t) o)))
    by None ih = refl
    by (Some u) ih = one_more k (typing u [] t) ws (ih u)

then_given : {C : Type 0} → (h : List Ty → Trees (Mark (Option Ty)) → Option C) (ws : List Walked)
    → option_and_then (λ ys. h (types_in ys) (trees_in ys)) (given_by_all ws) ≡ option_and_then (λ ts. h ts (trees_walked ws)) (types_given ws)
then_given {C} h ws =
    sym (then_mapped both (λ ys. (types_in ys, trees_in ys)) (given_by_all ws))
    ∙ ap (option_and_then both) (all_given (λ ts xs. (ts, xs)) ws)
    ∙ then_mapped both (λ ts. (ts, trees_walked ws)) (types_given ws)
  where
    both : List Ty × Trees (Mark (Option Ty)) → Option C
    both p = h p.0 p.1

or_given : {C : Type 0} → (h : List Ty → C) (d : C) (ws : List Walked) → option_map_or (λ ys. h (types_in ys)) (given_by_all ws) d ≡ option_map_or h (types_given ws) d
or_given h d ws =
    sym (or_mapped h types_in d (given_by_all ws))
    ∙ ap (λ o. option_map_or h o d) (all_given (λ ts xs. ts) ws)
    ∙ or_mapped h (λ ts. ts) d (types_given ws)

pub set_by_parts : (m : Mark (Unit {0})) (ws : List Walked) → set_in_parts m (list_all has_typing ws) (types_given ws) (trees_walked ws) (findings_of_all ws) ≡ set_walked m ws
set_by_parts m ws = λ i.
    ended (list_all has_typing ws) (sym (then_given (λ ts xs. set_by m xs ts) ws) i) (set (trees_walked ws) (lends None m)) (findings_of_all ws ++ sym (or_given (set_found m.loc) [] ws) i)

pub call_by_parts : (f : List ℕ) (g : ExtensionFunction) (xs : Trees (Mark (Unit {0}))) (m : Mark (Unit {0})) (own : List Finding) (ws : List Walked)
    → call_in_parts f g xs m (list_all has_typing ws) (types_given ws) (trees_walked ws) (own ++ findings_of_all ws) ≡ call_fitting f g xs m own ws
call_by_parts f g xs m own ws = λ i.
    ended (list_all has_typing ws)
    ((mapped_then (call_by f m (trees_walked ws)) (call_type (Some g) xs) (types_given ws) ∙ sym (then_given (λ ts ys. option_map (call_by f m ys) (call_type (Some g) xs ts)) ws)) i)
    (call f (trees_walked ws) (lends (Some (signature_of g).result) m)) (own ++ findings_of_all ws)

-- the same of fields
module _ {B : Type 0} (k : List (List ℕ × Ty) → Named (Mark (Option Ty)) → B) (n : List ℕ) (a : Typing) (es : Fields) where
  field_more : option_map (λ ys. k ((n, a.type) ∷ map (λ e. (e.0, e.1.type)) ys) (named n a.tree (named_in ys))) (given_fields es) ≡ option_map (λ ts. k ((n, a.type) ∷ ts) (named n a.tree (named_of (trees_in_fields es)))) (fields_given es)
      → option_map (λ ys. k (map (λ e. (e.0, e.1.type)) ys) (named_in ys)) (option_map (λ ys. (n, a) ∷ ys) (given_fields es)) ≡ option_map (λ ts. k ts (named n a.tree (named_of (trees_in_fields es)))) (option_map (λ ts. (n, a.type) ∷ ts) (fields_given es))
  field_more ih =
      map_twice (λ ys. k (map (λ e. (e.0, e.1.type)) ys) (named_in ys)) (λ ys. (n, a) ∷ ys) (given_fields es) ∙ ih
      ∙ sym (map_twice (λ ts. k ts (named n a.tree (named_of (trees_in_fields es)))) (λ ts. (n, a.type) ∷ ts) (fields_given es))

all_fields_given : {B : Type 0} → (k : List (List ℕ × Ty) → Named (Mark (Option Ty)) → B) (es : Fields)
    → option_map (λ ys. k (map (λ e. (e.0, e.1.type)) ys) (named_in ys)) (given_fields es) ≡ option_map (λ ts. k ts (named_of (trees_in_fields es))) (fields_given es)
all_fields_given k [] = refl
all_fields_given k ((n, Success a) ∷ es) = field_more k n a es (all_fields_given (λ ts xs. k ((n, a.type) ∷ ts) (named n a.tree xs)) es)
all_fields_given {B} k ((n, Fail t fs) ∷ es) = by (mark_of t).note (λ u. all_fields_given (λ ts xs. k ((n, u) ∷ ts) (named n t xs)) es)
  where
    by : (o : Option Ty)
        → ((u : Ty) → option_map (λ ys. k ((n, u) ∷ map (λ e. (e.0, e.1.type)) ys) (named n t (named_in ys))) (given_fields es) ≡ option_map (λ ts. k ((n, u) ∷ ts) (named n t (named_of (trees_in_fields es)))) (fields_given es))
        → option_map (λ ys. k (map (λ e. (e.0, e.1.type)) ys) (named_in ys)) (option_and_then (λ x. option_map (λ xs. (n, x) ∷ xs) (given_fields es)) (option_map (λ u. typing u [] t) o))
        ≡ option_map (λ ts. k ts (named n t (named_of (trees_in_fields es)))) (option_and_then (λ x. option_map (λ xs. (n, x) ∷ xs) (fields_given es)) (option_map (λ a. a.type) (option_map (λ u. typing u [] t) o)))
    by None ih = refl
    by (Some u) ih = field_more k n (typing u [] t) es (ih u)

pub record_by_parts : (m : Mark (Unit {0})) (es : Fields) → record_in_parts m (list_all has_typing (parts_of es)) (fields_given es) (named_of (trees_in_fields es)) (findings_of_all (parts_of es)) ≡ record_walked m es
record_by_parts m es = λ i.
    ended (list_all has_typing (parts_of es)) (sym (all_fields_given (λ ts xs. record_by m xs ts) es) i)
    (rec (named_of (trees_in_fields es)) (lends None m)) (findings_of_all (parts_of es))

-- nothing is expected of arguments that no expression stands for
none_expected : (ts : List Ty) (ws : List Walked) → arguments_fitting ts no_trees ws ≡ ws
none_expected [] ws = refl
none_expected (t ∷ ts) ws = refl

-- the next argument, and those behind it
argument_next : (i : ℕ) (ts : List Ty) (xs : List Plain) (w : Walked) (ws : List Walked)
    → arguments_fitting (drop i ts) (trees_of (drop i xs)) (w ∷ ws) ≡ argument_walked (slice_get ts i) (slice_get xs i) w ∷ arguments_fitting (drop (suc i) ts) (trees_of (drop (suc i) xs)) ws
argument_next zero [] xs w ws = refl
argument_next zero (t ∷ ts) [] w ws = ap (λ vs. w ∷ vs) (sym (none_expected ts ws))
argument_next zero (t ∷ ts) (x ∷ xs) w ws = refl
argument_next (suc i) [] xs w ws = refl
argument_next (suc i) (t ∷ ts) [] w ws = none_expected (drop i ts) (w ∷ ws) ∙ at (slice_get ts i)
  where
    at : (o : Option Ty) → w ∷ ws ≡ argument_walked o None w ∷ arguments_fitting (drop (suc i) ts) no_trees ws
    at None = ap (λ vs. w ∷ vs) (sym (none_expected (drop (suc i) ts) ws))
    at (Some u) = ap (λ vs. w ∷ vs) (sym (none_expected (drop (suc i) ts) ws))
argument_next (suc i) (t ∷ ts) (x ∷ xs) w ws = argument_next i ts xs w ws

-- behind the arguments so far
pub arguments_more : (done new : List Walked) (all : List Walked) (i : ℕ) (ts : List Ty) (xs : List Plain) (w : Walked) (ws : List Walked)
    → new ≡ done ++ argument_walked (slice_get ts i) (slice_get xs i) w ∷ []
    → done ++ arguments_fitting (drop i ts) (trees_of (drop i xs)) (w ∷ ws) ≡ all
    → new ++ arguments_fitting (drop (i + 1) ts) (trees_of (drop (i + 1) xs)) ws ≡ all
arguments_more done new all i ts xs w ws pushed h =
    ap (λ j. new ++ arguments_fitting (drop j ts) (trees_of (drop j xs)) ws) (add-one i)
    ∙ ap (λ vs. vs ++ arguments_fitting (drop (suc i) ts) (trees_of (drop (suc i) xs)) ws) pushed
    ∙ append_assoc done (argument_walked (slice_get ts i) (slice_get xs i) w ∷ []) (arguments_fitting (drop (suc i) ts) (trees_of (drop (suc i) xs)) ws)
    ∙ ap (λ vs. done ++ vs) (sym (argument_next i ts xs w ws))
    ∙ h
