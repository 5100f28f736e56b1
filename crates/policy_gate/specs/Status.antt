-- The numbers of the statuses, and where each comes from.
use Rattle.std.specs.Prelude.{◌≡◌, ◌⊎◌, ℕ}
use Rattle.policy_gate.specs.declared.status.Status.{Status}
use Rattle.policy_gate.specs.declared.status.Status.TheVariants.{Done, Findings, Usage, Document, Request, Store, PartialRequest, ReadFault, WriteFault, OutOfMemory, TooLong, Edit}

-- the number that a program ends with
abbrev pub code_of : Status → ℕ
code_of Done = 0
code_of Findings = 1
code_of Usage = 2
code_of Document = 3
code_of Request = 4
code_of Store = 5
code_of PartialRequest = 6
code_of ReadFault = 8
code_of WriteFault = 9
code_of OutOfMemory = 10
code_of TooLong = 11
code_of Edit = 12

-- the status to end with where a write failed
abbrev pub after_fault : Status → Status
after_fault Done = WriteFault
after_fault Findings = Findings
after_fault Usage = Usage
after_fault Document = Document
after_fault Request = Request
after_fault Store = Store
after_fault PartialRequest = PartialRequest
after_fault ReadFault = ReadFault
after_fault WriteFault = WriteFault
after_fault OutOfMemory = OutOfMemory
after_fault TooLong = TooLong
after_fault Edit = Edit

-- a run ends with the status, unless memory ran out
abbrev pub IsUnlessOutOfMemory : Status → Status → Type 0
IsUnlessOutOfMemory ended status = (ended ≡ status) ⊎ (ended ≡ OutOfMemory)

-- the bytes of a document alone decide on such a status
abbrev pub IsOfDocument : Status → Type 0
IsOfDocument Done = Unit {0}
IsOfDocument Findings = Unit {0}
IsOfDocument Usage = ⊥
IsOfDocument Document = Unit {0}
IsOfDocument Request = Unit {0}
IsOfDocument Store = Unit {0}
IsOfDocument PartialRequest = Unit {0}
IsOfDocument ReadFault = ⊥
IsOfDocument WriteFault = ⊥
IsOfDocument OutOfMemory = ⊥
IsOfDocument TooLong = ⊥
IsOfDocument Edit = Unit {0}

-- such a status comes only after the source's end
abbrev pub IsAfterEnd : Status → Type 0
IsAfterEnd Done = Unit {0}
IsAfterEnd Findings = Unit {0}
IsAfterEnd Usage = ⊥
IsAfterEnd Document = Unit {0}
IsAfterEnd Request = Unit {0}
IsAfterEnd Store = Unit {0}
IsAfterEnd PartialRequest = Unit {0}
IsAfterEnd ReadFault = ⊥
IsAfterEnd WriteFault = Unit {0}
IsAfterEnd OutOfMemory = ⊥
IsAfterEnd TooLong = ⊥
IsAfterEnd Edit = Unit {0}
