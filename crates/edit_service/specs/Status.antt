-- How a run ends.
use Rattle.std.specs.Prelude.{ℕ}
use Rattle.edit_service.specs.declared.status.Status.{Status}
use Rattle.edit_service.specs.declared.status.Status.TheVariants.{Done, Findings, Usage, Document, ReadFault, WriteFault, OutOfMemory, TooLong}

-- the number that a program ends with
abbrev pub code_of : Status → ℕ
code_of Done = 0
code_of Findings = 1
code_of Usage = 2
code_of Document = 3
code_of ReadFault = 8
code_of WriteFault = 9
code_of OutOfMemory = 10
code_of TooLong = 11

-- the status to end with where a write failed
abbrev pub after_fault : Status → Status
after_fault Done = WriteFault
after_fault Findings = Findings
after_fault Usage = Usage
after_fault Document = Document
after_fault ReadFault = ReadFault
after_fault WriteFault = WriteFault
after_fault OutOfMemory = OutOfMemory
after_fault TooLong = TooLong
