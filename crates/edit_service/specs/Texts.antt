-- How what is found of an edit is written.
use Rattle.std.specs.Prelude.{ℕ, Bool, true, false, List, [], ◌∷◌, ◌++◌, count_by, codes, decimal}
use Rattle.policy_values.specs.Show.{uid_text}
use Rattle.schema_core.specs.EnvData.{EnvData, declared_action, undeclared_action}
use Rattle.edit_service.specs.declared.change.Change.{Change}
use Rattle.edit_service.specs.declared.change.Change.TheVariants.{Same, UnknownNarrower, UnknownWider, UnknownOther}

abbrev pub is_same : Change → Bool
is_same Same = true
is_same c = false

abbrev pub change_word : Change → List ℕ
change_word Same = codes "same"
change_word UnknownNarrower = codes "unknown narrower"
change_word UnknownWider = codes "unknown wider"
change_word UnknownOther = codes "unknown other"

abbrev pub is_unknown : Change → Bool
is_unknown Same = false
is_unknown c = true

-- what was found, the types of the principal and of the resource, and the action
abbrev pub change_line : EnvData → Change → List ℕ
change_line (declared_action e) c =
    change_word c ++ (codes " " ++ (e.environment.principal ++ (codes ", "
    ++ (uid_text e.environment.action.entity_type e.environment.action.eid ++ (codes ", "
    ++ (e.environment.resource ++ codes "\n"))))))
change_line undeclared_action c = []

-- a line for each environment
abbrev pub change_lines : List EnvData → List Change → List ℕ
change_lines (env ∷ envs) (c ∷ cs) = change_line env c ++ change_lines envs cs
change_lines envs cs = []

abbrev pub counts_text : ℕ → ℕ → List ℕ
counts_text same unknown = codes "same " ++ (decimal same
    ++ (codes ", narrower 0, wider 0, other 0, unknown " ++ (decimal unknown ++ codes "\n")))

-- how many there are of each
abbrev pub count_line : List Change → List ℕ
count_line cs = counts_text (count_by is_same cs) (count_by is_unknown cs)

abbrev pub edit_text : List EnvData → List Change → List ℕ
edit_text envs cs = change_lines envs cs ++ count_line cs
