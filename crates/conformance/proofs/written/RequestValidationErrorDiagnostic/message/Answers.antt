use Rattle.conformance.proofs.written.RequestValidationErrorDiagnostic.message.Goals as goal

pub returns-in_ok-text-in-InvalidResourceType : goal.returns-in_ok-text-in-InvalidResourceType
returns-in_ok-text-in-InvalidResourceType c =
    rw (c.in-InvalidResourceType.is, ← c.e-in-InvalidResourceType.view_is) (rw c.in_ok-text-in-InvalidResourceType.ensures.ok at c.from_string-in-InvalidResourceType.ensures)
