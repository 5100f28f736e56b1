-- Calls: their number of arguments, and a text that can't be read.
use Rattle.std.proofs.Common.{◌≡◌, ◌⊎◌, inl, inr, ℕ, Bool, true, false, List, [], ◌∷◌, length, Option, Some, None, refl, sym, ap, ◌∙◌, subst, arith}
use Rattle.std.specs.Prelude.{if◌then◌else◌, is_none}
use Rattle.std.specs.Option.{option_map_or, option_and_then}
use Rattle.policy_expressions.specs.declared.kinds.Loc.{Loc}
use Rattle.policy_expressions.specs.declared.functions.UnaryFunction.TheVariants as unary
use Rattle.policy_expressions.specs.declared.functions.BinaryFunction.TheVariants as binary
use Rattle.policy_expressions.specs.declared.functions.ExtensionFunction.{ExtensionFunction}
use Rattle.policy_expressions.specs.declared.functions.ExtensionFunction.TheVariants.{Unary, Binary}
use Rattle.policy_expressions.specs.Tree.{Tree, Trees, trees_of}
use Rattle.typing_spec.specs.Signatures.{is_readable, only_text, count_of, has_readable}
use Rattle.typing_spec.specs.declared.argument_check.ArgumentCheck.{ArgumentCheck}
use Rattle.typing_spec.specs.declared.argument_check.ArgumentCheck.TheVariants as checks
use Rattle.typing_spec.specs.Arguments.{constructor_of, message, unreadable, refusal}
use Rattle.typing_spec.specs.Table.{check_of}
use Rattle.findings.specs.Finding.{Finding, FunctionArgumentValidation}
use Rattle.typecheck_rules.specs.Own.{if_not, text_found}
use Rattle.typecheck_rules.specs.Walked.{one}

module _ {A : Type 0} where
  pub count_is_length : (xs : List (Tree A)) → count_of (trees_of xs) ≡ length xs
  count_is_length [] = refl
  count_is_length (x ∷ xs) = omega (arith, count_is_length xs)

-- a function that reads texts, or one that reads none
abbrev Reads : ExtensionFunction → Type 0
Reads g = ((check : ArgumentCheck) × (g ≡ constructor_of check)) ⊎ ((check_of g ≡ None) × ((t : List ℕ) → is_readable g t ≡ true))

reads : (g : ExtensionFunction) → Reads g
reads (Unary unary.Decimal) = inl (checks.Decimal, refl)
reads (Unary unary.Ip) = inl (checks.Ip, refl)
reads (Unary unary.Datetime) = inl (checks.Datetime, refl)
reads (Unary unary.Duration) = inl (checks.Duration, refl)
reads (Unary unary.IsIpv4) = inr (refl, λ t. refl)
reads (Unary unary.IsIpv6) = inr (refl, λ t. refl)
reads (Unary unary.IsLoopback) = inr (refl, λ t. refl)
reads (Unary unary.IsMulticast) = inr (refl, λ t. refl)
reads (Unary unary.ToDate) = inr (refl, λ t. refl)
reads (Unary unary.ToTime) = inr (refl, λ t. refl)
reads (Unary unary.ToMilliseconds) = inr (refl, λ t. refl)
reads (Unary unary.ToSeconds) = inr (refl, λ t. refl)
reads (Unary unary.ToMinutes) = inr (refl, λ t. refl)
reads (Unary unary.ToHours) = inr (refl, λ t. refl)
reads (Unary unary.ToDays) = inr (refl, λ t. refl)
reads (Binary binary.LessThan) = inr (refl, λ t. refl)
reads (Binary binary.LessThanOrEqual) = inr (refl, λ t. refl)
reads (Binary binary.GreaterThan) = inr (refl, λ t. refl)
reads (Binary binary.GreaterThanOrEqual) = inr (refl, λ t. refl)
reads (Binary binary.IsInRange) = inr (refl, λ t. refl)
reads (Binary binary.Offset) = inr (refl, λ t. refl)
reads (Binary binary.DurationSince) = inr (refl, λ t. refl)

check_of_constructor : (check : ArgumentCheck) → check_of (constructor_of check) ≡ Some check
check_of_constructor checks.Decimal = refl
check_of_constructor checks.Ip = refl
check_of_constructor checks.Datetime = refl
check_of_constructor checks.Duration = refl

-- what is found of a text, by what is said of it
abbrev said : Option Loc → Option (List ℕ) → List Finding
said l o = option_map_or (λ m. one (FunctionArgumentValidation m) l) o []

read_or_said : (l : Option Loc) (b : Bool) (m : List ℕ) → if_not b (one (FunctionArgumentValidation m) l) ≡ said l (if b then None else Some m)
read_or_said l true m = refl
read_or_said l false m = refl

read_if_silent : (b : Bool) (m : List ℕ) → b ≡ is_none (if b then None else Some m)
read_if_silent true m = refl
read_if_silent false m = refl

text_reported : (check : ArgumentCheck) (l : Option Loc) (o : Option (List ℕ)) → if_not (option_map_or (is_readable (constructor_of check)) o true) (text_found (constructor_of check) l o) ≡ said l (option_and_then (unreadable check) o)
text_reported check l None = refl
text_reported check l (Some t) =
    ap (λ c. if_not (is_readable (constructor_of check) t) (one (FunctionArgumentValidation (option_map_or (λ k. message k t) c [])) l)) (check_of_constructor check)
    ∙ read_or_said l (is_readable (constructor_of check) t) (message check t)

text_read : (check : ArgumentCheck) (o : Option (List ℕ)) → option_map_or (is_readable (constructor_of check)) o true ≡ is_none (option_and_then (unreadable check) o)
text_read check None = refl
text_read check (Some t) = read_if_silent (is_readable (constructor_of check) t) (message check t)

always_read : (g : ExtensionFunction) → ((t : List ℕ) → is_readable g t ≡ true) → (o : Option (List ℕ)) → option_map_or (is_readable g) o true ≡ true
always_read g h None = refl
always_read g h (Some t) = h t

module _ {A : Type 0} (xs : Trees A) where
  refused_by_check : (check : ArgumentCheck) → refusal (check_of (constructor_of check)) xs ≡ option_and_then (unreadable check) (only_text xs)
  refused_by_check check = ap (λ c. refusal c xs) (check_of_constructor check)

  -- a text is read exactly where nothing is said of it
  pub readable_unless_refused : (g : ExtensionFunction) → has_readable g xs ≡ is_none (refusal (check_of g) xs)
  readable_unless_refused g = by (reads g)
    where
      by : Reads g → has_readable g xs ≡ is_none (refusal (check_of g) xs)
      by (inl (check, e)) = subst (λ f. has_readable f xs ≡ is_none (refusal (check_of f) xs)) (sym e) (text_read check (only_text xs) ∙ ap is_none (sym (refused_by_check check)))
      by (inr (e, h)) = always_read g h (only_text xs) ∙ ap (λ c. is_none (refusal c xs)) (sym e)

  -- and else what is said is found
  pub text_found_if_refused : (g : ExtensionFunction) (l : Option Loc) → if_not (has_readable g xs) (text_found g l (only_text xs)) ≡ said l (refusal (check_of g) xs)
  text_found_if_refused g l = by (reads g)
    where
      by : Reads g → if_not (has_readable g xs) (text_found g l (only_text xs)) ≡ said l (refusal (check_of g) xs)
      by (inl (check, e)) = subst (λ f. if_not (has_readable f xs) (text_found f l (only_text xs)) ≡ said l (refusal (check_of f) xs)) (sym e) (text_reported check l (only_text xs) ∙ ap (said l) (sym (refused_by_check check)))
      by (inr (e, h)) = ap (λ b. if_not b (text_found g l (only_text xs))) (always_read g h (only_text xs)) ∙ ap (λ c. said l (refusal c xs)) (sym e)
