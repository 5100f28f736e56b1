-- With all extensions each function that makes values is there.
use Rattle.std.proofs.Common.{◌≡◌, ℕ, Bool, true, false, ◌||◌, cond, List, [], ◌∷◌, Option, Some, None, is_some, refl, sym, ap, ◌∙◌}
use Rattle.std.specs.Prelude.{option_map}
use Rattle.std.specs.List.{list_any, find}
use Rattle.std.specs.Ordering.{is_eq}
use Rattle.policy_values.specs.Uid.{text_cmp}
use Rattle.policy_expressions.specs.Functions.{functions, function_of}
use Rattle.typing_spec.specs.Table.{function_at, is_function, typed}
use Rattle.typing_spec.specs.Types.{FunctionType, Extensions}
use Rattle.conformance.specs.declared.misfits.Constructor.{Constructor}
use Rattle.conformance.specs.declared.misfits.Constructor.TheVariants.{Decimal, Ip, Datetime, Duration}
use Rattle.conformance.specs.Misfits.{name_of, knows}
use Rattle.conformance.specs.RequestRules.{first_request_fault}
use Rattle.conformance.specs.Laws.{AllFunctionsAreKnown}

found_any : (p : FunctionType → Bool) (fs : List FunctionType) → list_any p fs ≡ is_some (find p fs)
found_any p [] = refl
found_any p (f ∷ fs) = by (p f) (found_any p fs)
  where
    by : (b : Bool) → list_any p fs ≡ is_some (find p fs) → (b || list_any p fs) ≡ is_some (cond b (Some f) (find p fs))
    by true h = refl
    by false h = h

module _ (e : Extensions) (all : (name : List ℕ) → function_at e.function_types name ≡ option_map (typed name) (function_of name)) where
  at_name : (name : List ℕ) → is_function e.function_types name ≡ is_some (option_map (typed name) (function_of name))
  at_name name = found_any (λ f. is_eq (text_cmp name f.name)) e.function_types ∙ ap is_some (all name)

  each_known : (c : Constructor) → knows e c ≡ true
  unfolding functions
  each_known Decimal = at_name (name_of Decimal)
  each_known Ip = at_name (name_of Ip)
  each_known Datetime = at_name (name_of Datetime)
  each_known Duration = at_name (name_of Duration)

pub all_known : AllFunctionsAreKnown
all_known e all schema q = λ i. first_request_fault schema (λ c. each_known e all c i) q
