-- A call that has no type comes to a finding.
use Rattle.std.proofs.Common.{◌≡◌, sym, subst, true≢false, arith, ℕ, Bool, true, false, ◌&&◌, List, [], ◌∷◌, ◌++◌, length, Option, Some, None, map, refl, ◌⊎◌, inl, inr}
use Rattle.std.specs.Bool.{⊤}
use Rattle.std.specs.List.{list_all}
use Rattle.std.specs.Option.{option_and_then, option_map_or}
use Rattle.std.proofs.lemmas.Bool.{eqb-true}
use Rattle.schema_types.specs.Ty.{Ty}
use Rattle.policy_expressions.specs.declared.kinds.Loc.{Loc}
use Rattle.policy_expressions.specs.declared.functions.ExtensionFunction.{ExtensionFunction}
use Rattle.policy_expressions.specs.Tree.{call, Trees, no_trees, tree, Mark}
use Rattle.typing_spec.specs.Signatures.{same_type, same_types, signature_of, count_of, only_text, is_readable, has_count, has_literals, has_readable, call_type}
use Rattle.typing_spec.specs.Typing.{Typed, Typing, types_in}
use Rattle.findings.specs.Finding.{Finding}
use Rattle.typecheck_rules.specs.Expected.{an_argument}
use Rattle.typecheck_rules.specs.Walked.{Walked, Success, Fail, has_typing, given_by_all, lends, trees_walked, ended, findings_of_all}
use Rattle.typecheck_rules.specs.Own.{if_not, text_found, call_found}
use Rattle.typecheck_rules.specs.Operators.{place, arguments_fitting, arguments_walked, call_typing, call_fitting, call_walked}
use Rattle.typecheck_rules.proofs.Lists.{AllTyped, SomeFails, typed_or_not}
use Rattle.typecheck_rules.proofs.Found.{NonEmpty, prefix, back, HasFinding, Holds, found_mapped, ended_full, ended_found, Fitted, fitted, gives_both}
use Rattle.typecheck_rules.proofs.Failing.{HaveFindings, some_found, all_given, all_typed}

-- there are as many operands as were walked, and as many as there are types
abbrev pub AreWalked : Trees (Mark (Unit {0})) → List Walked → Type 0
AreWalked no_trees [] = ⊤
AreWalked (tree x xs) (w ∷ ws) = AreWalked xs ws
AreWalked xs ws = ⊥

abbrev AreCounted : List Ty → Trees (Mark (Unit {0})) → Type 0
AreCounted [] no_trees = ⊤
AreCounted (t ∷ ts) (tree x xs) = AreCounted ts xs
AreCounted ts xs = ⊥

counted : (ts : List Ty) (xs : Trees (Mark (Unit {0}))) → count_of xs ≡ length ts → AreCounted ts xs
counted [] no_trees e = tt
counted [] (tree x xs) e = absurd (omega arith)
counted (t ∷ ts) no_trees e = absurd (omega arith)
counted (t ∷ ts) (tree x xs) e = counted ts xs (omega arith)

-- each operand fits its type
abbrev AllFit : List Ty → List Walked → Type 0
AllFit [] [] = ⊤
AllFit (t ∷ ts) (w ∷ ws) = Fitted (Some (an_argument t)) w × AllFit ts ws
AllFit ts ws = ⊥

arguments_fit : (ts : List Ty) (xs : Trees (Mark (Unit {0}))) (ws : List Walked) → AreCounted ts xs → AreWalked xs ws → HaveFindings ws → AllFit ts (arguments_fitting ts xs ws)
arguments_fit [] no_trees [] c d h = tt
arguments_fit [] no_trees (w ∷ ws) c d h = absurd d
arguments_fit [] (tree x xs) ws c d h = absurd c
arguments_fit (t ∷ ts) no_trees ws c d h = absurd c
arguments_fit (t ∷ ts) (tree x xs) [] c d h = absurd d
arguments_fit (t ∷ ts) (tree x xs) (w ∷ ws) c d h = (fitted (an_argument t) (place x) w h.0, arguments_fit ts xs ws c d h.1)

fit_found : (ts : List Ty) (ws : List Walked) → AllFit ts ws → HaveFindings ws
fit_found [] [] h = tt
fit_found [] (w ∷ ws) h = absurd h
fit_found (t ∷ ts) [] h = absurd h
fit_found (t ∷ ts) (Success a ∷ ws) h = (tt, fit_found ts ws h.1)
fit_found (t ∷ ts) (Fail u fs ∷ ws) h = (h.0, fit_found ts ws h.1)

both_hold : (b c : Bool) → Holds b → Holds c → Holds (b && c)
both_hold true c h k = k
both_hold false c h k = absurd h

fit_same : (ts : List Ty) (ys : List Typing) → AllFit ts (map Success ys) → Holds (same_types (types_in ys) ts)
fit_same [] [] h = tt
fit_same [] (y ∷ ys) h = absurd h
fit_same (t ∷ ts) [] h = absurd h
fit_same (t ∷ ts) (y ∷ ys) h = both_hold (same_type y.type t) (same_types (types_in ys) ts) h.0 (fit_same ts ys h.1)

-- a call of which nothing is found has the form of its function
full_unless : (b : Bool) (fs : List Finding) → NonEmpty fs → b ≡ false → NonEmpty (if_not b fs)
full_unless true fs h e = absurd (true≢false e)
full_unless false fs h e = h

text_full : (f : ExtensionFunction) (l : Option Loc) (o : Option (List ℕ)) → option_map_or (is_readable f) o true ≡ false → NonEmpty (text_found f l o)
text_full f l None e = absurd (true≢false e)
text_full f l (Some t) e = tt

formed : (b c d : Bool) (fs gs hs : List Finding) → NonEmpty fs → (c ≡ false → NonEmpty gs) → NonEmpty hs → (if_not b fs ++ (if_not c gs ++ if_not d hs)) ≡ [] → Holds (b && (d && c))
formed true true true fs gs hs h k i e = tt
formed true true false fs gs hs h k i e = absurd (subst NonEmpty e i)
formed true false d fs gs hs h k i e = absurd (subst NonEmpty e (prefix gs (if_not d hs) (k refl)))
formed false c d fs gs hs h k i e = absurd (subst NonEmpty e (prefix fs (if_not c gs ++ if_not d hs) h))

call_formed : (g : ExtensionFunction) (xs : Trees (Mark (Unit {0}))) (l : Option Loc) → call_found g xs l ≡ [] → Holds (has_count g xs && (has_literals g xs && has_readable g xs))
call_formed g xs l e = formed (has_count g xs) (has_readable g xs) (has_literals g xs) _ (text_found g l (only_text xs)) _ tt (text_full g l (only_text xs)) tt e

first_holds : (b c : Bool) → Holds (b && c) → b ≡ true
first_holds true c h = refl
first_holds false c h = absurd h

module _ (f : List ℕ) (g : ExtensionFunction) (xs : Trees (Mark (Unit {0}))) (m : Mark (Unit {0})) where
  abbrev failed_call : List Walked → Typed
  failed_call ws = call f (trees_walked ws) (lends (Some (signature_of g).result) m)

  typed_call : (ys : List Typing) (t : Typed) (fs : List Finding) → Holds (has_count g xs && (has_literals g xs && has_readable g xs)) → Holds (same_types (types_in ys) (signature_of g).arguments) →
      HasFinding (ended true (call_typing f (Some g) xs m ys) t fs)
  typed_call ys t fs h k =
      ended_found (call_typing f (Some g) xs m ys) t fs
      (found_mapped _ (call_type (Some g) xs (types_in ys)) fs (gives_both (has_count g xs && (has_literals g xs && has_readable g xs)) (same_types (types_in ys) (signature_of g).arguments) (signature_of g).result fs h k))

  all_typed_call : (ys : List Typing) (t : Typed) (fs : List Finding) → Holds (has_count g xs && (has_literals g xs && has_readable g xs)) → Holds (same_types (types_in ys) (signature_of g).arguments) →
      HasFinding (ended (list_all has_typing (map Success ys)) (option_and_then (call_typing f (Some g) xs m) (given_by_all (map Success ys))) t fs)
  all_typed_call ys t fs h k =
      subst (λ b. HasFinding (ended b (option_and_then (call_typing f (Some g) xs m) (given_by_all (map Success ys))) t fs)) (sym (all_typed ys))
      (subst (λ o. HasFinding (ended true (option_and_then (call_typing f (Some g) xs m) o) t fs)) (sym (all_given ys)) (typed_call ys t fs h k))

  fitting_reported : (own : List Finding) (ws : List Walked) → Holds (has_count g xs && (has_literals g xs && has_readable g xs)) → AllFit (signature_of g).arguments ws → HasFinding (call_fitting f g xs m own ws)
  fitting_reported own ws h k = by (typed_or_not ws)
    where
      by : AllTyped ws ⊎ SomeFails ws → HasFinding (call_fitting f g xs m own ws)
      by (inl i) =
          subst (λ vs. HasFinding (call_fitting f g xs m own vs)) (sym i.1)
          (all_typed_call i.0 (failed_call (map Success i.0)) (own ++ findings_of_all (map Success i.0)) h (fit_same (signature_of g).arguments i.0 (subst (AllFit (signature_of g).arguments) i.1 k)))
      by (inr i) = ended_full (list_all has_typing ws) _ _ (own ++ findings_of_all ws) (back own (findings_of_all ws) (some_found ws (fit_found (signature_of g).arguments ws k) i.0))

  defined_reported : (ws : List Walked) → AreWalked xs ws → HaveFindings ws → HasFinding (call_walked f (Some g) xs m ws)
  defined_reported ws d h = by (call_found g xs m.loc) refl
    where
      by : (own : List Finding) → call_found g xs m.loc ≡ own → HasFinding (call_fitting f g xs m (call_found g xs m.loc) (arguments_walked (call_found g xs m.loc) (signature_of g).arguments xs ws))
      by [] e =
          subst (λ fs. HasFinding (call_fitting f g xs m fs (arguments_walked fs (signature_of g).arguments xs ws))) (sym e)
          (fitting_reported [] (arguments_fitting (signature_of g).arguments xs ws) (call_formed g xs m.loc e)
          (arguments_fit (signature_of g).arguments xs ws (counted (signature_of g).arguments xs (eqb-true (count_of xs) (length (signature_of g).arguments) (first_holds (has_count g xs) _ (call_formed g xs m.loc e)))) d h))
      by (p ∷ own) e =
          subst (λ fs. HasFinding (call_fitting f g xs m fs (arguments_walked fs (signature_of g).arguments xs ws))) (sym e)
          (ended_full (list_all has_typing ws) _ _ (p ∷ (own ++ findings_of_all ws)) tt)

pub call_reported : (f : List ℕ) (o : Option ExtensionFunction) (xs : Trees (Mark (Unit {0}))) (m : Mark (Unit {0})) (ws : List Walked) → AreWalked xs ws → HaveFindings ws → HasFinding (call_walked f o xs m ws)
call_reported f None xs m ws d h = tt
call_reported f (Some g) xs m ws d h = defined_reported f g xs m ws d h
