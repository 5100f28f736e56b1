-- Operators of several operands, by what their operands give, one part after another.
use Rattle.std.specs.Prelude.{ℕ, Bool, List, [], ◌∷◌, ◌++◌, Option, Some, None, map, option_map}
use Rattle.std.specs.Option.{option_and_then, option_map_or}
use Rattle.schema_types.specs.declared.kinds.OpenTag.TheVariants.{ClosedAttributes}
use Rattle.schema_types.specs.Required.{required_attrs}
use Rattle.schema_types.specs.Ty.{Ty, record_of}
use Rattle.policy_expressions.specs.declared.functions.ExtensionFunction.{ExtensionFunction}
use Rattle.policy_expressions.specs.Tree.{set, call, rec, Trees, Named, Mark}
use Rattle.policy_expressions.specs.Plain.{Plain}
use Rattle.typing_spec.specs.Signatures.{call_type, signature_of}
use Rattle.typing_spec.specs.Rules.{set_type}
use Rattle.typing_spec.specs.Typing.{Typed, Typing, typing, at}
use Rattle.typecheck_rules.specs.Expected.{an_argument}
use Rattle.findings.specs.Finding.{Finding}
use Rattle.typecheck_rules.specs.Own.{set_found}
use Rattle.typecheck_rules.specs.Walked.{Walked, ended, expect, lends, all_some, tree_of}
use Rattle.typecheck_rules.specs.Operators.{Fields, place, type_given}

-- the types that operands give, where each gives one
abbrev pub types_given : List Walked → Option (List Ty)
types_given ws = all_some (map type_given ws)

abbrev pub fields_given : Fields → Option (List (List ℕ × Ty))
fields_given [] = Some []
fields_given (e ∷ es) =
    option_and_then (λ t. option_map (λ ts. (e.0, t) ∷ ts) (fields_given es)) (type_given e.1)

-- the expressions of fields
abbrev pub trees_in_fields : Fields → List (List ℕ × Typed)
trees_in_fields es = map (λ e. (e.0, tree_of e.1)) es

-- an argument, where a type is expected of it
abbrev pub argument_walked : Option Ty → Option Plain → Walked → Walked
argument_walked (Some t) (Some x) w = expect (an_argument t) (place x) w
argument_walked t x w = w

-- a set literal
abbrev pub set_by : Mark (Unit {0}) → Trees (Mark (Option Ty)) → List Ty → Option Typing
set_by m xs ts = option_map (λ t. typing t [] (set xs (at t m))) (set_type ts)

abbrev pub set_by_type : Mark (Unit {0}) → Bool → Option Ty → Trees (Mark (Option Ty)) → List Finding → Walked
set_by_type m ok t xs fs =
    ended ok (option_map (λ u. typing u [] (set xs (at u m))) t) (set xs (lends None m)) fs

abbrev pub set_in_parts : Mark (Unit {0}) → Bool → Option (List Ty) →
    Trees (Mark (Option Ty)) → List Finding → Walked
set_in_parts m ok ts xs fs = ended ok (option_and_then (set_by m xs) ts)
    (set xs (lends None m)) (fs ++ option_map_or (set_found m.loc) ts [])

-- a record literal
abbrev pub record_by : Mark (Unit {0}) → Named (Mark (Option Ty)) → List (List ℕ × Ty) → Typing
record_by m xs ts = typing (record_of (required_attrs ts) ClosedAttributes)
    [] (rec xs (at (record_of (required_attrs ts) ClosedAttributes) m))

abbrev pub record_in_parts : Mark (Unit {0}) → Bool →
    Option (List (List ℕ × Ty)) → Named (Mark (Option Ty)) → List Finding → Walked
record_in_parts m ok ts xs fs = ended ok (option_map (record_by m xs) ts) (rec xs (lends None m)) fs

-- a call, with all that is found
abbrev pub call_by : List ℕ → Mark (Unit {0}) → Trees (Mark (Option Ty)) → Ty → Typing
call_by f m ys t = typing t [] (call f ys (at t m))

abbrev pub call_by_type : List ℕ → ExtensionFunction → Mark (Unit {0}) →
    Bool → Option Ty → Trees (Mark (Option Ty)) → List Finding → Walked
call_by_type f g m ok t ys fs =
    ended ok (option_map (call_by f m ys) t) (call f ys (lends (Some (signature_of g).result) m)) fs

abbrev pub call_in_parts : List ℕ → ExtensionFunction → Trees (Mark (Unit {0})) →
    Mark (Unit {0}) → Bool → Option (List Ty) → Trees (Mark (Option Ty)) → List Finding → Walked
call_in_parts f g xs m ok ts ys fs = call_by_type f g m ok (option_and_then (call_type (Some g) xs) ts) ys fs
