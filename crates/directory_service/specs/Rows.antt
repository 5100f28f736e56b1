-- What is answered to a request by rows.
use Rattle.std.specs.Prelude.{◌++◌, ℕ, List, codes}
use Rattle.conformance.specs.RuleText.{rule_text}
use Rattle.policy_values.specs.Show.{uid_text}
use Rattle.policy_values.specs.declared.entity_uid.EntityUID.{EntityUID}
use Rattle.policy_set.specs.Data.{PolicyData}
use Rattle.schema_core.specs.Schema.{SchemaData}
use Rattle.typing_spec.specs.Conforms.{RequestConforms}
use Rattle.entity_store.specs.declared.request.Request.{Request}
use Rattle.entity_store.specs.Request.{IsWhole}
use Rattle.entity_store.specs.Store.{Store}
use Rattle.entity_manifest.specs.Answers.{IsAnswerOrFault, is_fault}
use Rattle.entity_manifest.specs.Lines.{line_on, refused_line}
use Rattle.directory_service.specs.declared.row_fault.RowAnswer.{RowAnswer}
use Rattle.directory_service.specs.declared.row_fault.RowAnswer.TheVariants.{Answer, Row}
use Rattle.directory_service.specs.declared.row_fault.RowFault.{RowFault}
use Rattle.directory_service.specs.declared.row_fault.RowFault.TheVariants.{NoEntity, Breaks, Cycle}

-- the answer on the store, or for a whole request that conforms a fault of the database or of a row
abbrev pub IsRowAnswer : SchemaData → List PolicyData → Store → Request → RowAnswer → Type 0
IsRowAnswer schema ps w q (Answer a) = IsAnswerOrFault schema ps w q a
IsRowAnswer schema ps w q (Row fault) = IsWhole q × RequestConforms schema q

-- how many faults the answer is
abbrev pub row_faults : RowAnswer → ℕ
row_faults (Answer a) = is_fault a
row_faults (Row fault) = 1

-- the row at fault, with what is wrong with it
abbrev pub about_row : EntityUID → List ℕ → List ℕ
about_row u why = codes "row: " ++ (uid_text u.entity_type u.eid ++ (codes ": " ++ why))

abbrev pub fault_text : RowFault → List ℕ
fault_text (NoEntity u) = about_row u (codes "it is not the entity with this id")
fault_text (Breaks e) = about_row e.uid (rule_text e.rule)
fault_text (Cycle u) = about_row u (codes "it is its own ancestor")

-- the line on an answer
abbrev pub row_line : RowAnswer → List ℕ
row_line (Answer a) = line_on a
row_line (Row fault) = refused_line (fault_text fault)
