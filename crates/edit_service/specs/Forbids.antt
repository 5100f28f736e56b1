-- What is found of the forbids of a document, and how it is written.
use Rattle.std.specs.Prelude.{◌≡◌, ℕ, Bool, true, false, List, [], ◌∷◌, ◌++◌, flat_map, Option, Some, None, codes, decimal}
use Rattle.json_document.specs.declared.document.Document.{Document}
use Rattle.policy_expressions.specs.declared.kinds.Loc.{Loc}
use Rattle.policy_set.specs.Data.{PolicyData}
use Rattle.policy_compare.specs.Conditions.{is_permit}
use Rattle.policy_risks.specs.Closed.{IsClosed}
use Rattle.policy_risks.specs.declared.cause.Cause.{Cause}
use Rattle.policy_risks.specs.declared.cause.CauseKind.{CauseKind}
use Rattle.policy_risks.specs.declared.cause.CauseKind.TheVariants.{MissingEntity, IntegerOverflow, ExtensionOverflow}
use Rattle.policy_risks.specs.declared.endings.Assumed.{Assumed}
use Rattle.policy_risks.specs.declared.endings.Endings.{Endings}
use Rattle.schema_core.specs.Schema.{SchemaData}

abbrev pub cause_word : CauseKind → List ℕ
cause_word MissingEntity = codes "entity does not exist"
cause_word IntegerOverflow = codes "integer overflow"
cause_word ExtensionOverflow = codes "datetime or duration overflow"

abbrev pub at_place : Option Loc → List ℕ
at_place None = []
at_place (Some l) = codes " at " ++ (decimal l.start ++ (codes ".." ++ decimal l.end))

abbrev pub cause_line : Cause → List ℕ
cause_line c = codes "  " ++ (cause_word c.kind ++ (at_place c.place ++ codes "\n"))

-- a forbid is closed, or it is unknown what it does, and what can end it follows
abbrev pub ending_word : Bool → List ℕ
ending_word true = codes "closed"
ending_word false = codes "unknown"

abbrev pub ending_lines : List ℕ → Endings → List ℕ
ending_lines id e = (ending_word e.closed ++ (codes " " ++ (id ++ codes "\n"))) ++ flat_map cause_line e.causes.items

module _ (schema : SchemaData) (a : Assumed) where
  -- the lines on the forbids among policies, in their order; where one is called closed it is
  pub data AreForbidLines : List PolicyData → List ℕ → Type 0 where
    none : AreForbidLines [] []
    permit : {p : PolicyData} {ps : List PolicyData} {text : List ℕ} → is_permit p.effect ≡ true →
        AreForbidLines ps text → AreForbidLines (p ∷ ps) text
    forbid : {p : PolicyData} {ps : List PolicyData} {text : List ℕ} → is_permit p.effect ≡ false →
        (e : Endings) → (e.closed ≡ true → IsClosed schema a p) →
        AreForbidLines ps text → AreForbidLines (p ∷ ps) (ending_lines p.id e ++ text)

abbrev pub SaysForbids : Assumed → Document → List ℕ → Type 0
SaysForbids a d text = AreForbidLines d.schema a d.policies.policies text
