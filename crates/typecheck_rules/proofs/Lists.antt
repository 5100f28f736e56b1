-- Operators of several operands.
use Rattle.std.proofs.Common.{◌≡◌, ◌∙◌, sym, ap, subst, ℕ, Bool, true, false, ◌&&◌, List, [], ◌∷◌, ◌++◌, Option, Some, None, cond, map, option_map, refl, ◌⊎◌, inl, inr, if◌then◌else◌}
use Rattle.std.specs.List.{list_all}
use Rattle.std.specs.Option.{option_and_then}
use Rattle.schema_types.specs.Ty.{Ty}
use Rattle.policy_expressions.specs.declared.functions.ExtensionFunction.{ExtensionFunction}
use Rattle.policy_expressions.specs.Tree.{call, Trees, no_trees, tree, Mark}
use Rattle.typing_spec.specs.Signatures.{same_type, same_types, signature_of, has_count, has_literals, has_readable}
use Rattle.typing_spec.specs.Typing.{Typed, Typing, typing, at, types_in, trees_in}
use Rattle.findings.specs.Finding.{Finding}
use Rattle.typecheck_rules.specs.Expected.{an_argument}
use Rattle.typecheck_rules.specs.Walked.{Walked, Success, Fail, typing_of, findings_of, has_typing, given_by, expect, ended, all_some, given_by_all, findings_of_all, all_walked}
use Rattle.typecheck_rules.specs.Own.{call_found}
use Rattle.typecheck_rules.specs.Operators.{place, arguments_fitting, arguments_walked, call_typing, call_fitting, call_walked, Fields, parts_of, given_fields}
use Rattle.typecheck_rules.specs.Faults.{at_typed, call_faults}
use Rattle.typecheck_rules.proofs.Parts.{Sub, sub_self, sub_both}
use Rattle.typecheck_rules.proofs.Steps.{ended_typing, ended_says, IfFalse, if_false, expect_says, expect_fails, expect_exact}

-- the typings of all, where each has one
abbrev pub typings_of : List Walked → Option (List Typing)
typings_of ws = all_some (map typing_of ws)

abbrev pub typings_of_fields : Fields → Option (List (List ℕ × Typing))
typings_of_fields [] = Some []
typings_of_fields (e ∷ es) = option_and_then (λ a. option_map (λ ys. (e.0, a) ∷ ys) (typings_of_fields es)) (typing_of e.1)

cond_map : {A B : Type 0} (f : A → B) (b : Bool) (o : Option A) → cond b (option_map f o) None ≡ option_map f (cond b o None)
cond_map f true o = refl
cond_map f false o = refl

cond_then : {A B : Type 0} (f : A → Option B) (b : Bool) (o : Option A) → cond b (option_and_then f o) None ≡ option_and_then f (cond b o None)
cond_then f true o = refl
cond_then f false o = refl

given_typings : (ws : List Walked) → cond (list_all has_typing ws) (given_by_all ws) None ≡ typings_of ws
given_typings [] = refl
given_typings (Success a ∷ ws) = cond_map (λ xs. a ∷ xs) (list_all has_typing ws) (given_by_all ws) ∙ ap (option_map (λ xs. a ∷ xs)) (given_typings ws)
given_typings (Fail t fs ∷ ws) = refl

given_typings_of_fields : (es : Fields) → cond (list_all has_typing (parts_of es)) (given_fields es) None ≡ typings_of_fields es
given_typings_of_fields [] = refl
given_typings_of_fields (e ∷ es) = by e.1 (given_typings_of_fields es)
  where
    by : (w : Walked) → cond (list_all has_typing (parts_of es)) (given_fields es) None ≡ typings_of_fields es → cond (has_typing w && list_all has_typing (parts_of es)) (option_and_then (λ a. option_map (λ ys. (e.0, a) ∷ ys) (given_fields es)) (given_by w)) None ≡
        option_and_then (λ a. option_map (λ ys. (e.0, a) ∷ ys) (typings_of_fields es)) (typing_of w)
    by (Success a) h = cond_map (λ ys. (e.0, a) ∷ ys) (list_all has_typing (parts_of es)) (given_fields es) ∙ ap (option_map (λ ys. (e.0, a) ∷ ys)) h
    by (Fail t fs) h = refl

pub all_exact : (rule : List Typing → Option Typing) (failed : Typed) (found : List Finding) (ws : List Walked) → typing_of (all_walked rule failed found ws) ≡ option_and_then rule (typings_of ws)
all_exact rule failed found ws =
    ended_typing (list_all has_typing ws) (option_and_then rule (given_by_all ws)) failed found ∙
    (cond_then rule (list_all has_typing ws) (given_by_all ws) ∙ ap (option_and_then rule) (given_typings ws))

pub fields_exact : (make : List (List ℕ × Typing) → Typing) (failed : Typed) (found : List Finding) (es : Fields) →
    typing_of (ended (list_all has_typing (parts_of es)) (option_map make (given_fields es)) failed found) ≡ option_map make (typings_of_fields es)
fields_exact make failed found es =
    ended_typing (list_all has_typing (parts_of es)) (option_map make (given_fields es)) failed found ∙
    (cond_map make (list_all has_typing (parts_of es)) (given_fields es) ∙ ap (option_map make) (given_typings_of_fields es))

-- either all have typings or not
abbrev pub AllTyped : List Walked → Type 0
AllTyped ws = (ts : List Typing) × (ws ≡ map Success ts)

abbrev pub SomeFails : List Walked → Type 0
SomeFails ws = (list_all has_typing ws ≡ false) × (typings_of ws ≡ None)

pub typed_or_not : (ws : List Walked) → AllTyped ws ⊎ SomeFails ws
typed_or_not [] = inl ([], refl)
typed_or_not (Success a ∷ ws) = by (typed_or_not ws)
  where
    by : AllTyped ws ⊎ SomeFails ws → AllTyped (Success a ∷ ws) ⊎ SomeFails (Success a ∷ ws)
    by (inl h) = inl (a ∷ h.0, ap (λ vs. Success a ∷ vs) h.1)
    by (inr h) = inr (h.0, ap (option_map (λ xs. a ∷ xs)) h.1)
typed_or_not (Fail t fs ∷ ws) = inr (refl, refl)

pub typings_of_typed : (ts : List Typing) → typings_of (map Success ts) ≡ Some ts
typings_of_typed [] = refl
typings_of_typed (a ∷ ts) = ap (option_map (λ xs. a ∷ xs)) (typings_of_typed ts)

-- a step of several operands that says what failed operands found says all faults
pub all_reported : (s : List Walked → Walked) (ws : List Walked) (fs : List Finding) → (list_all has_typing ws ≡ false → Sub fs (findings_of (s ws))) →
    Sub (at_typed (typings_of ws) fs (λ ts. findings_of (s (map Success ts)))) (findings_of (s ws))
all_reported s ws fs tells = by (typed_or_not ws)
  where
    by : AllTyped ws ⊎ SomeFails ws → Sub (at_typed (typings_of ws) fs (λ ts. findings_of (s (map Success ts)))) (findings_of (s ws))
    by (inl h) =
        subst (λ vs. Sub (at_typed (typings_of vs) fs (λ ts. findings_of (s (map Success ts)))) (findings_of (s vs))) (sym h.1)
        (subst (λ o. Sub (at_typed o fs (λ ts. findings_of (s (map Success ts)))) (findings_of (s (map Success h.0)))) (sym (typings_of_typed h.0)) (sub_self (findings_of (s (map Success h.0)))))
    by (inr h) = subst (λ o. Sub (at_typed o fs (λ ts. findings_of (s (map Success ts)))) (findings_of (s ws))) (sym h.1) (tells h.0)

pub all_says : (rule : List Typing → Option Typing) (failed : Typed) (found fs : List Finding) (ws : List Walked) → list_all has_typing ws ≡ false → Sub fs found → Sub fs (findings_of (all_walked rule failed found ws))
all_says rule failed found fs ws e h = ended_says (list_all has_typing ws) (option_and_then rule (given_by_all ws)) failed found fs e h

-- arguments that have to be of their types
then_map : {A B C : Type 0} (k : B → Option C) (f : A → B) (o : Option A) → option_and_then k (option_map f o) ≡ option_and_then (λ x. k (f x)) o
then_map k f None = refl
then_map k f (Some x) = refl

then_then : {A B C : Type 0} (k : B → Option C) (f : A → Option B) (o : Option A) → option_and_then k (option_and_then f o) ≡ option_and_then (λ x. option_and_then k (f x)) o
then_then k f None = refl
then_then k f (Some x) = refl

one_refused : (b c : Bool) (P : Type 0) → IfFalse (b && c) P → IfFalse b P
one_refused true c P h = tt
one_refused false c P h = h

rest_refused : (b c : Bool) (P : Type 0) → IfFalse (b && c) P → IfFalse c P
rest_refused true c P h = h
rest_refused false c P h = if_false c h

abbrev Refused : (List Typing → Option Typing) → List Ty → Type 0
Refused k ts = (ys : List Typing) → IfFalse (same_types (types_in ys) ts) (k ys ≡ None)

pub arguments_exact : (ts : List Ty) (xs : Trees (Mark (Unit {0}))) (ws : List Walked) (k : List Typing → Option Typing) → Refused k ts →
    option_and_then k (typings_of (arguments_fitting ts xs ws)) ≡ option_and_then k (typings_of ws)
arguments_exact [] xs ws k h = refl
arguments_exact (t ∷ ts) no_trees ws k h = refl
arguments_exact (t ∷ ts) (tree x xs) [] k h = refl
arguments_exact (t ∷ ts) (tree x xs) (w ∷ ws) k h =
    let a = then_then k (λ b. option_map (λ ys. b ∷ ys) (typings_of (arguments_fitting ts xs ws))) (typing_of (expect (an_argument t) (place x) w)) in
    let d = then_then k (λ b. option_map (λ ys. b ∷ ys) (typings_of ws)) (typing_of w) in
    let c = within (λ k2 h2. arguments_exact ts xs ws k2 h2) (typing_of (expect (an_argument t) (place x) w)) in
    let e = expect_exact (an_argument t) (place x) (λ b. option_and_then k (option_map (λ ys. b ∷ ys) (typings_of ws))) (λ b. refuses b (typings_of ws)) w in
    a ∙ (c ∙ (e ∙ sym d))
  where
    within : ((k2 : List Typing → Option Typing) → Refused k2 ts → option_and_then k2 (typings_of (arguments_fitting ts xs ws)) ≡ option_and_then k2 (typings_of ws)) → (o : Option Typing) →
        option_and_then (λ b. option_and_then k (option_map (λ ys. b ∷ ys) (typings_of (arguments_fitting ts xs ws)))) o ≡ option_and_then (λ b. option_and_then k (option_map (λ ys. b ∷ ys) (typings_of ws))) o
    within ih None = refl
    within ih (Some b) =
        then_map k (λ ys. b ∷ ys) (typings_of (arguments_fitting ts xs ws)) ∙
        (ih (λ ys. k (b ∷ ys)) (λ ys. rest_refused (same_type b.type t) (same_types (types_in ys) ts) (k (b ∷ ys) ≡ None) (h (b ∷ ys))) ∙ sym (then_map k (λ ys. b ∷ ys) (typings_of ws)))

    refuses : (b : Typing) (o : Option (List Typing)) → IfFalse (same_type b.type t) (option_and_then k (option_map (λ ys. b ∷ ys) o) ≡ None)
    refuses b None = if_false (same_type b.type t) refl
    refuses b (Some zs) = one_refused (same_type b.type t) (same_types (types_in zs) ts) (k (b ∷ zs) ≡ None) (h (b ∷ zs))

-- a call whose arguments don't fit has no type
call_refuses : (f : List ℕ) (g : ExtensionFunction) (xs : Trees (Mark (Unit {0}))) (m : Mark (Unit {0})) → Refused (call_typing f (Some g) xs m) (signature_of g).arguments
call_refuses f g xs m ys = by (has_count g xs && (has_literals g xs && has_readable g xs)) (same_types (types_in ys) (signature_of g).arguments)
  where
    by : (b c : Bool) → IfFalse c (option_map (λ t. typing t [] (call f (trees_in ys) (at t m))) (if b && c then Some (signature_of g).result else None) ≡ None)
    by b true = tt
    by true false = refl
    by false false = refl

pub call_exact : (f : List ℕ) (o : Option ExtensionFunction) (xs : Trees (Mark (Unit {0}))) (m : Mark (Unit {0})) (ws : List Walked) →
    typing_of (call_walked f o xs m ws) ≡ option_and_then (call_typing f o xs m) (typings_of ws)
call_exact f None xs m ws = by (typings_of ws)
  where
    by : (o : Option (List Typing)) → None ≡ option_and_then (call_typing f None xs m) o
    by None = refl
    by (Some ys) = refl
call_exact f (Some g) xs m ws = by (call_found g xs m.loc) (call_found g xs m.loc)
  where
    by : (own fs : List Finding) → typing_of (call_fitting f g xs m fs (arguments_walked own (signature_of g).arguments xs ws)) ≡ option_and_then (call_typing f (Some g) xs m) (typings_of ws)
    by [] fs = all_exact (call_typing f (Some g) xs m) _ _ (arguments_fitting (signature_of g).arguments xs ws) ∙ arguments_exact (signature_of g).arguments xs ws (call_typing f (Some g) xs m) (call_refuses f g xs m)
    by (e ∷ own) fs = all_exact (call_typing f (Some g) xs m) _ _ ws

-- arguments that failed stay so, and all is reported
pub arguments_fail : (ts : List Ty) (xs : Trees (Mark (Unit {0}))) (ws : List Walked) → list_all has_typing ws ≡ false → list_all has_typing (arguments_fitting ts xs ws) ≡ false
arguments_fail [] xs ws e = e
arguments_fail (t ∷ ts) no_trees ws e = e
arguments_fail (t ∷ ts) (tree x xs) [] e = e
arguments_fail (t ∷ ts) (tree x xs) (Success a ∷ ws) e = ap (λ b. has_typing (expect (an_argument t) (place x) (Success a)) && b) (arguments_fail ts xs ws e) ∙ and_false (has_typing (expect (an_argument t) (place x) (Success a)))
  where
    and_false : (b : Bool) → (b && false) ≡ false
    and_false true = refl
    and_false false = refl
arguments_fail (t ∷ ts) (tree x xs) (Fail u gs ∷ ws) e = ap (λ b. b && list_all has_typing (arguments_fitting ts xs ws)) (expect_fails (an_argument t) (place x) (Fail u gs) refl)

pub arguments_say : (ts : List Ty) (xs : Trees (Mark (Unit {0}))) (ws : List Walked) → Sub (findings_of_all ws) (findings_of_all (arguments_fitting ts xs ws))
arguments_say [] xs ws = sub_self (findings_of_all ws)
arguments_say (t ∷ ts) no_trees ws = sub_self (findings_of_all ws)
arguments_say (t ∷ ts) (tree x xs) [] = sub_self []
arguments_say (t ∷ ts) (tree x xs) (w ∷ ws) =
    sub_both (findings_of w) (findings_of_all ws) (findings_of (expect (an_argument t) (place x) w)) (findings_of_all (arguments_fitting ts xs ws)) (expect_says (an_argument t) (place x) w) (arguments_say ts xs ws)

pub call_reported : (f : List ℕ) (o : Option ExtensionFunction) (xs : Trees (Mark (Unit {0}))) (m : Mark (Unit {0})) (ws : List Walked) (fs : List Finding) → Sub fs (findings_of_all ws) →
    Sub (call_faults f o xs m (typings_of ws) fs) (findings_of (call_walked f o xs m ws))
call_reported f None xs m ws fs h = sub_self (findings_of (call_walked f None xs m ws))
call_reported f (Some g) xs m ws fs h = all_reported (call_walked f (Some g) xs m) ws (call_found g xs m.loc ++ fs) (by (call_found g xs m.loc) (call_found g xs m.loc))
  where
    by : (own all : List Finding) → list_all has_typing ws ≡ false → Sub (all ++ fs) (findings_of (call_fitting f g xs m all (arguments_walked own (signature_of g).arguments xs ws)))
    by [] all e =
        all_says (call_typing f (Some g) xs m) _ (all ++ findings_of_all (arguments_fitting (signature_of g).arguments xs ws)) (all ++ fs) (arguments_fitting (signature_of g).arguments xs ws)
        (arguments_fail (signature_of g).arguments xs ws e)
        (sub_both all fs all (findings_of_all (arguments_fitting (signature_of g).arguments xs ws)) (sub_self all) (λ f i. arguments_say (signature_of g).arguments xs ws f (h f i)))
    by (d ∷ own) all e = all_says (call_typing f (Some g) xs m) _ (all ++ findings_of_all ws) (all ++ fs) ws e (sub_both all fs all (findings_of_all ws) (sub_self all) h)
