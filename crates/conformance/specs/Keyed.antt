-- What is found under a key that is referred to.
use Rattle.std.specs.Prelude.{ℕ, List}
use denote.Ref.{Bor}
use Rattle.conformance.specs.declared.misfits.Misfit.{Misfit}

abbrev pub at_key : Bor (List ℕ) × Misfit → List ℕ × Misfit
at_key m = (m.0.now, m.1)
