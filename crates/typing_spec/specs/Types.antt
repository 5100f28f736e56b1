-- Extensions and their functions as plain data.
use Rattle.std.specs.Prelude.{ℕ, List, ◌++◌, Option, None, codes, refl}
use Rattle.std.specs.Coded.{Coded, coded×, coded_ℕ, coded_list, coded_option, code_by}
use Rattle.schema_types.specs.Ty.{Ty}
use Rattle.schema_types.specs.TyCode.{coded_ty}
use Rattle.typing_spec.specs.Signatures.{Signature}
use Rattle.typing_spec.specs.declared.argument_check.ArgumentCheck.{ArgumentCheck}
use Rattle.typing_spec.specs.contracts.argument_check.ArgumentCheck.{the_row as check_row}

-- a function: its name, what it takes and gives, and how a literal argument is checked, where one is
pub record FunctionType : Type 0 where
  pub name : List ℕ
  pub signature : Signature
  pub check : Option ArgumentCheck

-- an extension: its name, its functions, and its types that are compared by `<` and `<=`
pub record Extension : Type 0 where
  pub name : List ℕ
  pub function_types : List FunctionType
  pub overloading : List (List ℕ)

-- several extensions that are used together: their functions, and their types that are compared so
pub record Extensions : Type 0 where
  pub function_types : List FunctionType
  pub overloading : List (List ℕ)

-- the function of a name that takes and gives these, of which no literal is checked
abbrev pub unchecked : List ℕ → List Ty → Ty → FunctionType
unchecked name ts t = record { name = name; signature = record { arguments = ts; result = t }; check = None }

abbrev pub function_type_text : FunctionType → List ℕ
function_type_text f = codes "<extension function type " ++ (f.name ++ codes ">")

abbrev pub schema_text : Extension → List ℕ
schema_text e = codes "<extension schema " ++ (e.name ++ codes ">")

-- each is stored as the tuple of its parts
abbrev names : Coded (List (List ℕ))
names = coded_list (coded_list coded_ℕ)

abbrev coded_signature : Coded Signature
coded_signature =
    code_by (List Ty × Ty)
    (coded× (coded_list coded_ty) coded_ty)
    (λ s. (s.arguments, s.result))
    (λ p. record { arguments = p.0; result = p.1 })
    (λ _. refl)

abbrev pub coded_function_type : Coded FunctionType
coded_function_type =
    code_by (List ℕ × (Signature × Option ArgumentCheck))
    (coded× (coded_list coded_ℕ) (coded× coded_signature (coded_option check_row.coded)))
    (λ f. (f.name, (f.signature, f.check)))
    (λ p. record { name = p.0; signature = p.1.0; check = p.1.1 })
    (λ _. refl)

abbrev pub coded_extension : Coded Extension
coded_extension =
    code_by (List ℕ × (List FunctionType × List (List ℕ)))
    (coded× (coded_list coded_ℕ) (coded× (coded_list coded_function_type) names))
    (λ e. (e.name, (e.function_types, e.overloading)))
    (λ p. record { name = p.0; function_types = p.1.0; overloading = p.1.1 })
    (λ _. refl)

abbrev pub coded_extensions : Coded Extensions
coded_extensions =
    code_by (List FunctionType × List (List ℕ))
    (coded× (coded_list coded_function_type) names)
    (λ e. (e.function_types, e.overloading))
    (λ p. record { function_types = p.0; overloading = p.1 })
    (λ _. refl)
