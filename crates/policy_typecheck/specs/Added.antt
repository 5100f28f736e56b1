-- Lists that grow by what they do not hold.
use Rattle.std.specs.Prelude.{Bool, List, [], ◌∷◌, ◌++◌, fold, if◌then◌else◌}
use Rattle.std.specs.List.{list_any}
use Rattle.typing_spec.specs.Bare.{is_same}
use Rattle.findings.specs.declared.error.ValidationError.{ValidationError}
use Rattle.findings.specs.declared.error.ValidationWarning.{ValidationWarning}
use Rattle.findings.specs.contracts.error.ValidationError.{the_row as errors}
use Rattle.findings.specs.contracts.error.ValidationWarning.{the_row as warnings}

-- whether two are one: the same in all that they say
abbrev pub same_error : ValidationError → ValidationError → Bool
same_error = is_same errors.coded

abbrev pub same_warning : ValidationWarning → ValidationWarning → Bool
same_warning = is_same warnings.coded

-- whether a list holds an equal item
abbrev pub holds : {T : Type 0} → (T → T → Bool) → List T → T → Bool
holds eq xs x = list_any (λ y. eq y x) xs

-- one more, unless an equal one is there
abbrev pub added : {T : Type 0} → (T → T → Bool) → List T → T → List T
added eq xs x = if holds eq xs x then xs else xs ++ x ∷ []

-- several, one after another
abbrev pub all_added : {T : Type 0} → (T → T → Bool) → List T → List T → List T
all_added eq xs ys = fold (added eq) xs ys
